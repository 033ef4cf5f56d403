-- What each status has for a cause, what is left of the shelf, and completeness: by how a run ended.
use Rattle.std.proofs.Common.{◌≡◌, ◌⊎◌, ℕ, ◌≤◌, ◌==◌, ◌||◌, List, [], ◌∷◌, Bool, true, false, Option, Some, None, Ok, Err, ap, refl, arith, inl, inr, subst}
use Rattle.lab_io.specs.Shelf.{Shelved}
use Rattle.lab_io.specs.Sink.{Text}
use Rattle.lab_words.specs.declared.Verb.{Verb}
use Rattle.lab_words.specs.declared.Verb.TheVariants as verb
use Rattle.lab_words.specs.Command.{CommandWords}
use Rattle.lab_words.specs.Words.{begins_with_verb, command_of}
use Rattle.lab_inputs.specs.declared.role.Role.{Role}
use Rattle.lab_inputs.specs.declared.stop.FileFault.TheVariants as fault
use Rattle.lab_inputs.specs.declared.stop.Stop.{Stop}
use Rattle.lab_inputs.specs.declared.stop.Stop.TheVariants as stop
use Rattle.lab_inputs.specs.Files.{Files}
use Rattle.lab_inputs.specs.Roles.{NamedFile}
use Rattle.lab_inputs.specs.Stages.{StopsAt, Tells}
use Rattle.abrlab_top.specs.declared.ending.Ending.{Ending}
use Rattle.abrlab_top.specs.declared.ending.Ending.TheVariants as ending
use Rattle.abrlab_top.specs.Answer.{Answer, Outcome}
use Rattle.abrlab_top.specs.Choice.{Choice, no_choice}
use Rattle.abrlab_top.specs.Ending.{status_of, stop_status}
use Rattle.abrlab_top.specs.Outcome.{checks_by, comparing, manner_in, named_files, outcome}
use Rattle.abrlab_top.specs.Runs.{Admits, Ends, Runs, TellsNamed, World}
use Rattle.abrlab_top.specs.Statuses.{IsAmong, StatusesHaveCauses, answers_to}
use Rattle.abrlab_top.proofs.Choices.{same_answers}
use Rattle.abrlab_top.proofs.Words.{begins}

-- a shelf that tells its files tells those that are named
pub tells_named : (named : List NamedFile) (shelf : Shelved) (files : Files) → Tells shelf files → TellsNamed named shelf files
tells_named [] shelf files t = tt
tells_named (file ∷ later) shelf files t = t

-- ---- statuses

or_later : (a b : Bool) → b ≡ true → (a || b) ≡ true
or_later true b e = refl
or_later false b e = e

-- a stop has one of two statuses
pub stop_range : (why : Stop) → (3 ≤ stop_status why) × (stop_status why ≤ 4)
stop_range (stop.File role fault.NotRead) = (omega arith, omega arith)
stop_range (stop.File role fault.TooLong) = (omega arith, omega arith)
stop_range (stop.File role (fault.Refused why)) = (omega arith, omega arith)
stop_range (stop.Settings setting) = (omega arith, omega arith)

known_stop : (why : Stop) → IsAmong (stop_status why) (0 ∷ 1 ∷ 2 ∷ 3 ∷ 4 ∷ 5 ∷ 6 ∷ 9 ∷ [])
known_stop (stop.File role fault.NotRead) = refl
known_stop (stop.File role fault.TooLong) = refl
known_stop (stop.File role (fault.Refused why)) = refl
known_stop (stop.Settings setting) = refl

known : (e : Ending) → IsAmong (status_of e) (0 ∷ 1 ∷ 2 ∷ 3 ∷ 4 ∷ 5 ∷ 6 ∷ 9 ∷ [])
known ending.Done = refl
known ending.Invalid = refl
known ending.Usage = refl
known (ending.Stopped why) = known_stop why
known (ending.Spent trace segment) = refl
known ending.OutputFailed = refl
known ending.NoMemory = refl

four : (o : Outcome) → IsAmong 4 (answers_to o)
four (Ok a) = or_later (status_of a.ending == 4) _ refl
four (Err e) = or_later (status_of e == 4) _ refl

nine : (o : Outcome) → IsAmong 9 (answers_to o)
nine (Ok a) = or_later (status_of a.ending == 9) _ refl
nine (Err e) = or_later (status_of e == 9) _ refl

five : (a : Answer) → IsAmong 5 (answers_to (Ok a))
five a = or_later (status_of a.ending == 5) _ refl

stop_told : (o : Outcome) (why : Stop) → StopsAt ending.Stopped o why → IsAmong (stop_status why) (answers_to o)
stop_told o (stop.File role fault.NotRead) h = four o
stop_told o (stop.File role fault.TooLong) h = rw h refl
stop_told o (stop.File role (fault.Refused why)) h = rw h refl
stop_told o (stop.Settings setting) h = rw h refl

-- ---- the table

module _ (line : List Text) (old new : World) where
  -- over told files only what the outcome allows is answered
  told : (e : Ending) → Runs line old e new → (files : Files) → Tells old.shelf files → IsAmong (status_of e) (answers_to (outcome no_choice line files))
  told e h files t = subst (IsAmong (status_of e)) (same_answers choice no_choice line files) (by_ending e h.ends.came)
    where
      choice : Choice
      choice = h.ends.choice

      named : TellsNamed (named_files line) old.shelf files
      named = tells_named (named_files line) old.shelf files t

      by_ending : (e : Ending) → Ends (named_files line) (manner_in (command_of line)) (outcome choice line) old.shelf old.out e new.shelf new.out → IsAmong (status_of e) (answers_to (outcome choice line files))
      by_ending ending.Done x = let a = x.comes files named in rw (a.1, a.2.0) refl
      by_ending ending.Invalid x = let a = x.comes files named in rw (a.1, a.2.0) refl
      by_ending ending.Usage x = rw (x.comes files named) refl
      by_ending (ending.Stopped why) x = stop_told (outcome choice line files) why (x.comes files named)
      by_ending (ending.Spent trace segment) x = rw (x.comes files named) refl
      by_ending ending.OutputFailed x = let a = x.comes files named in rw a.1 (five a.0)
      by_ending ending.NoMemory x = nine (outcome choice line files)

  done : (e : Ending) → Runs line old e new → status_of e ≡ 0 → Runs line old ending.Done new
  done ending.Done h s = h
  done (ending.Stopped why) h s = let k = (stop_range why).0 in absurd (omega arith)
  done e h s = absurd (omega arith)

  invalid : (e : Ending) → Runs line old e new → status_of e ≡ 1 → Runs line old ending.Invalid new
  invalid ending.Invalid h s = h
  invalid (ending.Stopped why) h s = let k = (stop_range why).0 in absurd (omega arith)
  invalid e h s = absurd (omega arith)

  refused_words : (o : Option CommandWords) → (manner_in o).refused ≡ true → o ≡ None
  refused_words None h = refl
  refused_words (Some c) h = by_verb c.verb h
    where
      by_manner : (regrets : Bool) → (comparing regrets).refused ≡ true → Some c ≡ None
      by_manner true h = cc
      by_manner false h = cc

      by_check : (near : Bool) → (checks_by near).refused ≡ true → Some c ≡ None
      by_check true h = cc
      by_check false h = cc

      by_verb : (v : Verb) → (manner_in (Some (record c { verb = v }))).refused ≡ true → Some c ≡ None
      by_verb verb.Simulate h = cc
      by_verb verb.Compare h = by_manner c.regret h
      by_verb verb.Plan h = cc
      by_verb verb.Check h = by_check c.near h
      by_verb verb.Demo h = cc

  usage : (e : Ending) → Runs line old e new → status_of e ≡ 2 → Runs line old ending.Usage new × (command_of line ≡ None)
  usage ending.Usage h s = (h, refused_words (command_of line) h.ends.came.leaves.0)
  usage (ending.Stopped why) h s = let k = (stop_range why).0 in absurd (omega arith)
  usage e h s = absurd (omega arith)

  admitted : (e : Ending) (o : Option CommandWords) → Admits line o e → o ≡ None → (status_of e ≡ 2) ⊎ ((status_of e ≡ 9) × (begins_with_verb line ≡ true))
  admitted e None (inl u) n = inl (ap status_of u)
  admitted e None (inr u) n = inr (ap status_of u.0, u.1)
  admitted e (Some c) a n = cc

  usage_comes : (e : Ending) → Runs line old e new → command_of line ≡ None → (status_of e ≡ 2) ⊎ (status_of e ≡ 9)
  usage_comes e h n = either (admitted e (command_of line) h.words n)
    where
      either : (status_of e ≡ 2) ⊎ ((status_of e ≡ 9) × (begins_with_verb line ≡ true)) → (status_of e ≡ 2) ⊎ (status_of e ≡ 9)
      either (inl x) = inl x
      either (inr x) = inr x.0

  no_command : (e : Ending) → Runs line old e new → begins_with_verb line ≡ false → status_of e ≡ 2
  no_command e h b = by_words (command_of line) refl
    where
      either : (status_of e ≡ 2) ⊎ ((status_of e ≡ 9) × (begins_with_verb line ≡ true)) → status_of e ≡ 2
      either (inl x) = x
      either (inr x) = let k = x.1 in cc

      by_words : (o : Option CommandWords) → command_of line ≡ o → status_of e ≡ 2
      by_words None n = either (admitted e (command_of line) h.words n)
      by_words (Some c) n = let k = begins line (rw n refl) in cc

  refused : (e : Ending) → Runs line old e new → status_of e ≡ 3 → (why : Stop) × (stop_status why ≡ 3) × Runs line old (ending.Stopped why) new
  refused (ending.Stopped why) h s = (why, s, h)
  refused e h s = absurd (omega arith)

  not_read : (e : Ending) → Runs line old e new → status_of e ≡ 4 → (role : Role) × Runs line old (ending.Stopped (stop.File role fault.NotRead)) new
  not_read (ending.Stopped (stop.File role fault.NotRead)) h s = (role, h)
  not_read e h s = absurd (omega arith)

  output : (e : Ending) → Runs line old e new → status_of e ≡ 5 → Runs line old ending.OutputFailed new
  output ending.OutputFailed h s = h
  output (ending.Stopped why) h s = let k = (stop_range why).1 in absurd (omega arith)
  output e h s = absurd (omega arith)

  spent : (e : Ending) → Runs line old e new → status_of e ≡ 6 → (trace : Option ℕ) × (segment : ℕ) × Runs line old (ending.Spent trace segment) new
  spent (ending.Spent trace segment) h s = (trace, segment, h)
  spent (ending.Stopped why) h s = let k = (stop_range why).1 in absurd (omega arith)
  spent e h s = absurd (omega arith)

  memory : (e : Ending) → Runs line old e new → status_of e ≡ 9 → Runs line old ending.NoMemory new × (begins_with_verb line ≡ true)
  memory ending.NoMemory h s = (h, by_words (command_of line) refl)
    where
      either : (status_of ending.NoMemory ≡ 2) ⊎ ((status_of ending.NoMemory ≡ 9) × (begins_with_verb line ≡ true)) → begins_with_verb line ≡ true
      either (inl x) = absurd (omega arith)
      either (inr x) = x.1

      by_words : (o : Option CommandWords) → command_of line ≡ o → begins_with_verb line ≡ true
      by_words None n = either (admitted ending.NoMemory (command_of line) h.words n)
      by_words (Some c) n = begins line (rw n refl)
  memory (ending.Stopped why) h s = let k = (stop_range why).1 in absurd (omega arith)
  memory e h s = absurd (omega arith)

-- each status has its cause
pub statuses : StatusesHaveCauses
statuses line old e new h = record {
  known = known e;
  told = told line old new e h;
  done = done line old new e h;
  invalid = invalid line old new e h;
  usage = usage line old new e h;
  usage_comes = usage_comes line old new e h;
  no_command = no_command line old new e h;
  refused = refused line old new e h;
  not_read = not_read line old new e h;
  output = output line old new e h;
  spent = spent line old new e h;
  memory = memory line old new e h;
}
