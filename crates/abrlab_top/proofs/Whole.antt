-- The stages of a run, put together.
use Rattle.std.proofs.Common.{◌≡◌, ◌++◌, List, [], ◌∷◌, append-nil, append_assoc, Bool, true, false, Option, option_map, Some, None, Result, Ok, Err, IsSome, inl, inr, ap, subst, sym, ◌∙◌, refl}
use Rattle.std.specs.List.{slice_get}
use Rattle.std.specs.Result.{IsErrAnd}
use Rattle.std.proofs.lemmas.Result.{err_from_is_err_and}
use Rattle.lab_io.specs.declared.PutErr.{PutErr}
use Rattle.lab_io.specs.declared.PutErr.TheVariants as put
use Rattle.lab_io.specs.Shelf.{Shelved}
use Rattle.lab_io.specs.Sink.{Text, Seen, Grew, GrewPart, Puts}
use Rattle.lab_model.specs.declared.trace.Period.{Period}
use Rattle.lab_words.specs.declared.Verb.{Verb}
use Rattle.lab_words.specs.declared.Verb.TheVariants as verb
use Rattle.lab_words.specs.Command.{CommandWords}
use Rattle.lab_words.specs.Words.{begins_with_verb, command_of}
use Rattle.lab_inputs.specs.declared.role.Role.{Role}
use Rattle.lab_inputs.specs.declared.role.Role.TheVariants as role
use Rattle.lab_inputs.specs.declared.stop.FileFault.TheVariants as fault
use Rattle.lab_inputs.specs.declared.stop.Halt.{Halt}
use Rattle.lab_inputs.specs.declared.stop.Halt.TheVariants as halt
use Rattle.lab_inputs.specs.declared.stop.Setting.{Setting}
use Rattle.lab_inputs.specs.declared.stop.Stop.{Stop}
use Rattle.lab_inputs.specs.declared.stop.Stop.TheVariants as stop
use Rattle.lab_model.specs.Steps.{◌>>=◌}
use Rattle.lab_inputs.specs.Files.{Files}
use Rattle.lab_inputs.specs.Inputs.{InputValues, inputs_of}
use Rattle.lab_inputs.specs.Roles.{NamedFile, certificate_role, film_files, files_by, optional_file, trace_files}
use Rattle.lab_inputs.specs.Settings.{Fits, misfit, settled, unless_misfit}
use Rattle.lab_inputs.specs.Stages.{Asks, AsksFor, AsksUpTo, Comes, IsSettled, StopsAt, Tells}
use Rattle.lab_inputs.proofs.Files.{asks_all, asks_none}
use Rattle.abrlab_top.specs.declared.ending.Ending.{Ending}
use Rattle.abrlab_top.specs.declared.ending.Ending.TheVariants as ending
use Rattle.abrlab_top.specs.Answer.{Answer, Outcome, printed, text_in, unless_stopped}
use Rattle.abrlab_top.specs.Choice.{AreBounds, Choice, ChosenBy, HasText, IsNearBest, no_choice}
use Rattle.abrlab_top.specs.Ending.{IsWhole, after_halt, after_put, ended}
use Rattle.abrlab_top.specs.Outcome.{about, answer_by, checking, checks_by, comparing, comparison, manner_by, named_files, outcome, planning}
use Rattle.abrlab_top.specs.Plan.{options_of, task_on}
use Rattle.abrlab_top.specs.Runs.{Admits, ComesTo, Ends, EndsBy}
use Rattle.abrlab_top.specs.Stages.{IsLate, Manner, Writes, at_the_end, of_a_check, of_a_price_check}

same_written : (w : Option Text) → Grew w [] w
same_written None = refl
same_written (Some w) = ap Some (sym (append-nil w))

-- where nothing was written, nothing of a text went out
pub nothing_written : (old new : Option Text) (said : Text) → new ≡ old → GrewPart old said new
nothing_written old new said e = ([], said, refl, e ∙ same_written old)

-- what is seen of an option that has nothing, or something
pub none_there : {A B : Type 0} (f : A → B) (o : Option A) (p : Option B) → o ≡ None → option_map f o ≡ p → p ≡ None
none_there f o p e h = sym h ∙ ap (option_map f) e

-- what is there, seen through a function, is its value
pub some_there : {A B : Type 0} (f : A → B) (o : Option A) (p : Option B) (x : A) → o ≡ Some x → option_map f o ≡ p → p ≡ Some (f x)
some_there f o p x e h = sym h ∙ ap (option_map f) e

-- ---- a command, once its files are read

-- memory was wanting before anything was written
pub wanting : (m : Manner) (meant : Outcome) (old : Seen) → Writes m meant old ending.NoMemory old
wanting m meant old = (λ h. inl refl, nothing_written old.written old.written (text_in meant) refl)

-- there was nothing to write
pub nothing_printed : (m : Manner) (meant : Outcome) (old : Seen) → meant ≡ Ok (printed []) → Writes m meant old ending.Done old
nothing_printed m meant old e = (printed [], e, (refl, same_written old.written))

setting_is : (i : InputValues) (setting : Setting) (why : Stop) → unless_misfit i (Some setting) ≡ Err why → stop.Settings setting ≡ why
setting_is i setting why e = cc

-- a setting that does not fit comes once all files are there
pub late_setting : (checks : Option Role) (i : InputValues) (o : Option Setting) (why : Stop) → unless_misfit i o ≡ Err why → IsLate checks why
late_setting checks i None why e = cc
late_setting checks i (Some setting) why e = subst (IsLate checks) (setting_is i setting why e) tt

-- a setting does not fit
pub settings_stop : (m : Manner) (i : InputValues) (meant : Outcome) (old : Seen) (why : Stop) → settled i ≡ Err why → meant ≡ Err (ending.Stopped why) → Writes m meant old (ending.Stopped why) old
settings_stop m i meant old why e h = (late_setting m.checks i (misfit i.setup i.rules i.film) why e, h, refl)

-- what testing the settings gave: a stop, or all fits
pub unsettled : (i : InputValues) (r : Result (Unit {0}) Stop) (why : Stop) → r ≡ Err why → IsSettled i r → settled i ≡ Err why
unsettled i r why e h = rw e at h

-- where settling answered, it comes to the inputs themselves, and they fit
pub all_settled : (i : InputValues) (r : Result (Unit {0}) Stop) (u : Unit {0}) → r ≡ Ok u → IsSettled i r → (settled i ≡ Ok i) × Fits i
all_settled i r u e h = rw e at h

-- the text went out whole
pub put_done : (m : Manner) (meant : Outcome) (text : Text) (old new : Seen) (r : Result (Unit {0}) PutErr) (u : Unit {0}) → meant ≡ Ok (printed text) → r ≡ Ok u → Puts old text new r → Writes m meant old ending.Done new
put_done m meant text old new r u e k p = let q : Puts old text new (Ok u) = rw k at p in (printed text, e, (refl, q.answered))

-- it did not
pub put_failed : (m : Manner) (meant : Outcome) (a : Answer) (old new : Seen) (r : Result (Unit {0}) PutErr) (e : PutErr) → meant ≡ Ok a → IsWhole a.ending → r ≡ Err e → Puts old a.text new r → Writes m meant old (after_put e) new
put_failed m meant a old new r put.Failed is whole k p = let q : Puts old a.text new (Err put.Failed) = rw k at p in (record { rose = q.answered.1; steady = q.steady }, (a, is, (whole, q.answered.0)))
put_failed m meant a old new r put.Memory is whole k p = let q : Puts old a.text new (Err put.Memory) = rw k at p in (λ h. inr q.answered.1, rw is q.answered.0)

-- the exit of a `?`
pub exit : (m : Manner) (meant : Outcome) (old new : Seen) (q : Result (Unit {0}) Ending) (e : Ending) → IsErrAnd q (λ y. y ≡ e) → Writes m meant old e new → Writes m meant old (ended q) new
exit m meant old new q e k h =
    let p = err_from_is_err_and q k in
    subst (λ r. Writes m meant old (ended r) new) (sym p.1) (subst (λ y. Writes m meant old y new) (sym p.2) h)

-- ---- over its files

stops_err : (o : Outcome) (why : Stop) → o ≡ Err (ending.Stopped why) → StopsAt ending.Stopped o why
stops_err o (stop.File role fault.NotRead) h = tt
stops_err o (stop.File role fault.TooLong) h = h
stops_err o (stop.File role (fault.Refused why)) h = h
stops_err o (stop.Settings setting) h = h

stops_on : (o : Result InputValues Stop) (after : InputValues → Outcome) (why : Stop) → StopsAt (λ s. s) o why → StopsAt ending.Stopped (unless_stopped o >>= after) why
stops_on o after (stop.File role fault.NotRead) h = tt
stops_on o after (stop.File role fault.TooLong) h = rw h refl
stops_on o after (stop.File role (fault.Refused why)) h = rw h refl
stops_on o after (stop.Settings setting) h = rw h refl

-- the reading of the files did not come to its end
pub read_halted : (m : Manner) (after : InputValues → Outcome) (c : CommandWords) (old new : Shelved) (out : Seen) (h : Halt) → Comes (film_files c) (λ (i : InputValues). i) (inputs_of c) old (Err h) new → Ends (film_files c) m (about after c) old out (after_halt h) new out
unfolding about
read_halted m after c old new out halt.NoMemory x = record { asked = x; leaves = λ h. inl refl; comes = λ files t. nothing_written out.written out.written _ refl }
read_halted m after c old new out (halt.Stopped why) x = record { asked = x.0; leaves = refl; comes = λ files t. stops_on (inputs_of c files) after why (x.1 files t) }

-- the same at the exit of a `?`
pub read_failed : (m : Manner) (after : InputValues → Outcome) (c : CommandWords) (old new : Shelved) (out : Seen) (r : Result InputValues Halt) (q : Result (Unit {0}) Ending) (h : Halt)
    → r ≡ Err h → IsErrAnd q (λ y. y ≡ after_halt h) → Comes (film_files c) (λ (i : InputValues). i) (inputs_of c) old r new → Ends (film_files c) m (about after c) old out (ended q) new out
read_failed m after c old new out r q h e k x =
    let p = err_from_is_err_and q k in
    let xx : Comes (film_files c) (λ (i : InputValues). i) (inputs_of c) old (Err h) new = rw e at x in
    subst (λ r. Ends (film_files c) m (about after c) old out (ended r) new out) (sym p.1) (subst (λ y. Ends (film_files c) m (about after c) old out y new out) (sym p.2) (read_halted m after c old new out h xx))

some_role : {q r : Role} → Some q ≡ Some r → r ≡ q
some_role e = cc

-- a command names a certificate of this role
abbrev pub HasCertificate : CommandWords → Role → Type 0
HasCertificate c r = IsSome c.certificate × (r ≡ certificate_role c.near)

-- a check names the certificate that it is about
pub labels_certificate : (c : CommandWords) (r : Role) → IsSome c.certificate → c.near ≡ false → of_a_check.checks ≡ Some r → HasCertificate c r
labels_certificate c r some labels e = (some, some_role e ∙ sym (ap certificate_role labels))

-- the same of a certificate by prices
pub prices_certificate : (c : CommandWords) (r : Role) → IsSome c.certificate → c.near ≡ true → of_a_price_check.checks ≡ Some r → HasCertificate c r
prices_certificate c r some prices e = (some, some_role e ∙ sym (ap certificate_role prices))

-- the certificate is the last file of a command that names one
certificate_last : (c : CommandWords) → IsSome c.certificate → (before : List NamedFile) × (name : Text) × (film_files c ≡ before ++ (certificate_role c.near, name) ∷ [])
certificate_last c some = by_name c.certificate refl some
  where
    by_name : (o : Option Text) → c.certificate ≡ o → IsSome o → (before : List NamedFile) × (name : Text) × (film_files c ≡ before ++ (certificate_role c.near, name) ∷ [])
    by_name None e h = cc
    by_name (Some name) e h = (
      (role.Manifest, c.manifest) ∷ (optional_file role.Utilities c.table ++ (trace_files c.verb c.traces ++ optional_file role.Seeks c.seeks)),
      name,
      rw e (ap (λ l. (role.Manifest, c.manifest) ∷ l) (sym (simp append_assoc))),
    )

late_asked : (checks : Option Role) (c : CommandWords) (why : Stop) (old new : Shelved) → IsLate checks why → ((r : Role) → checks ≡ Some r → HasCertificate c r) → Asks (film_files c) old new → AsksFor (film_files c) why old new
late_asked checks c (stop.Settings setting) old new l some asks = asks
late_asked checks c (stop.File r why) old new l some asks =
    let has = some r l.0 in
    let last = certificate_last c has.0 in
    let up : AsksUpTo (film_files c) (certificate_role c.near) old new = record { before = last.0; name = last.1; later = []; split = last.2; asks = subst (λ named. Asks named old new) last.2 asks } in
    let at : AsksFor (film_files c) (stop.File (certificate_role c.near) (fault.Refused l.1)) old new = up in
    subst (λ s. AsksFor (film_files c) s old new) (sym (ap (λ q. stop.File q why) has.1 ∙ ap (stop.File (certificate_role c.near)) l.2)) at

-- its files were read, and it then answered by its inputs
pub about_ends : (m : Manner) (after : InputValues → Outcome) (c : CommandWords) (i : InputValues) (old new : Shelved) (out out2 : Seen) (e : Ending) → ((r : Role) → m.checks ≡ Some r → HasCertificate c r)
    → Comes (film_files c) (λ (i : InputValues). i) (inputs_of c) old (Ok i) new → Writes m (after i) out e out2 → Ends (film_files c) m (about after c) old out e new out2
unfolding about
about_ends m after c i old new out out2 e some read w = by_ending e w
  where
    same : (files : Files) → Tells old files → (unless_stopped (inputs_of c files) >>= after) ≡ after i
    same files t = rw (read.1 files t) refl

    by_ending : (e : Ending) → Writes m (after i) out e out2 → Ends (film_files c) m (λ files. unless_stopped (inputs_of c files) >>= after) old out e new out2
    by_ending ending.Done w = record { asked = read.0; leaves = tt; comes = λ files t. subst (λ o. ComesTo o ending.Done out out2) (sym (same files t)) w }
    by_ending ending.Invalid w = record { asked = read.0; leaves = w.0; comes = λ files t. subst (λ o. ComesTo o ending.Invalid out out2) (sym (same files t)) w.1 }
    by_ending ending.Usage w = absurd w
    by_ending (ending.Stopped why) w = record { asked = late_asked m.checks c why old new w.0 some read.0; leaves = w.2; comes = λ files t. stops_err (unless_stopped (inputs_of c files) >>= after) why (same files t ∙ w.1) }
    by_ending (ending.Spent trace segment) w = record { asked = read.0; leaves = w.1; comes = λ files t. same files t ∙ w.0 }
    by_ending ending.OutputFailed w = record { asked = read.0; leaves = w.0; comes = λ files t. subst (λ o. ComesTo o ending.OutputFailed out out2) (sym (same files t)) w.1 }
    by_ending ending.NoMemory w = record { asked = asks_all (film_files c) old new read.0; leaves = w.0; comes = λ files t. subst (λ o. ComesTo o ending.NoMemory out out2) (sym (same files t)) w.1 }

-- a command that names no file, and answers with a text
pub alone_ends : (m : Manner) (text : Text) (shelf : Shelved) (out out2 : Seen) (e : Ending) → Writes m (Ok (printed text)) out e out2 → Ends [] m (λ files. Ok (printed text)) shelf out e shelf out2
alone_ends m text shelf out out2 ending.Done w = record { asked = asks_none shelf; leaves = tt; comes = λ files t. w }
alone_ends m text shelf out out2 ending.Invalid w = record { asked = asks_none shelf; leaves = w.0; comes = λ files t. w.1 }
alone_ends m text shelf out out2 ending.Usage w = absurd w
alone_ends m text shelf out out2 (ending.Stopped why) w = let h = w.1 in cc
alone_ends m text shelf out out2 (ending.Spent trace segment) w = let h = w.0 in cc
alone_ends m text shelf out out2 ending.OutputFailed w = record { asked = asks_none shelf; leaves = w.0; comes = λ files t. w.1 }
alone_ends m text shelf out out2 ending.NoMemory w = record { asked = asks_all [] shelf shelf (asks_none shelf); leaves = w.0; comes = λ files t. w.1 }

-- ---- words

-- how a command ended, by its verb, where this was chosen
pub ends_by : (choice : Choice) (v : Verb) (c : CommandWords) (shelf : Shelved) (out : Seen) (e : Ending) (shelf2 : Shelved) (out2 : Seen) → c.verb ≡ v
    → ((files : Files) → Tells shelf files → HasText e → (i : InputValues) → inputs_of c files ≡ Ok i → ChosenBy v c choice i)
    → Ends (files_by v c) (manner_by v c) (answer_by choice v c) shelf out e shelf2 out2 → EndsBy (Some c) shelf out e shelf2 out2
ends_by choice v c shelf out e shelf2 out2 h chosen x = record {
  choice = choice;
  chosen = λ files t some i read. subst (λ w. ChosenBy w c choice i) (sym h) (chosen files t some i read);
  came = subst (λ w. Ends (files_by w c) (manner_by w c) (answer_by choice w c) shelf out e shelf2 out2) (sym h) x;
}

-- how a comparison ended, with regrets beside the best or beside bounds, or row by row
pub compare_ends : (choice : Choice) (regrets near : Bool) (c : CommandWords) (shelf : Shelved) (out : Seen) (e : Ending) (shelf2 : Shelved) (out2 : Seen) → c.verb ≡ verb.Compare → c.regret ≡ regrets → c.near ≡ near
    → ((files : Files) → Tells shelf files → HasText e → (i : InputValues) → inputs_of c files ≡ Ok i → regrets ≡ true → near ≡ true → AreBounds i i.networks choice.bounds)
    → Ends (film_files c) (comparing regrets) (about (comparison choice regrets near c.budget) c) shelf out e shelf2 out2 → EndsBy (Some c) shelf out e shelf2 out2
compare_ends choice regrets near c shelf out e shelf2 out2 v h k chosen x =
    ends_by choice verb.Compare c shelf out e shelf2 out2 v (λ files t some i read r n. chosen files t some i read (sym h ∙ r) (sym k ∙ n))
    (subst (λ b. Ends (film_files c) (comparing b) (about (comparison choice b c.near c.budget) c) shelf out e shelf2 out2) (sym h)
    (subst (λ b. Ends (film_files c) (comparing regrets) (about (comparison choice regrets b c.budget) c) shelf out e shelf2 out2) (sym k) x))

-- how planning ended, with the best or with a bound by prices
pub plan_ends : (choice : Choice) (near : Bool) (c : CommandWords) (shelf : Shelved) (out : Seen) (e : Ending) (shelf2 : Shelved) (out2 : Seen) → c.verb ≡ verb.Plan → c.near ≡ near
    → ((files : Files) → Tells shelf files → HasText e → (i : InputValues) → inputs_of c files ≡ Ok i → near ≡ true → (network : Text × List Period) → slice_get i.networks 0 ≡ Some network → IsNearBest (task_on i network.1) choice.certificate)
    → Ends (film_files c) at_the_end (about (planning choice near (options_of c)) c) shelf out e shelf2 out2 → EndsBy (Some c) shelf out e shelf2 out2
plan_ends choice near c shelf out e shelf2 out2 v k chosen x =
    ends_by choice verb.Plan c shelf out e shelf2 out2 v (λ files t some i read n. chosen files t some i read (sym k ∙ n))
    (subst (λ b. Ends (film_files c) at_the_end (about (planning choice b (options_of c)) c) shelf out e shelf2 out2) (sym k) x)

-- how a check ended, of a certificate by prices or by labels
pub check_ends : (near : Bool) (c : CommandWords) (shelf : Shelved) (out : Seen) (e : Ending) (shelf2 : Shelved) (out2 : Seen) → c.verb ≡ verb.Check → c.near ≡ near
    → Ends (film_files c) (checks_by near) (about (checking near c.gap) c) shelf out e shelf2 out2 → EndsBy (Some c) shelf out e shelf2 out2
check_ends near c shelf out e shelf2 out2 v k x =
    ends_by no_choice verb.Check c shelf out e shelf2 out2 v (λ files t some i read. tt)
    (subst (λ b. Ends (film_files c) (checks_by b) (about (checking b c.gap) c) shelf out e shelf2 out2) (sym k) x)

-- words that ask for a command end as it does
pub command_ends : (line : List Text) (c : CommandWords) (shelf : Shelved) (out : Seen) (e : Ending) (shelf2 : Shelved) (out2 : Seen) → command_of line ≡ Some c → EndsBy (Some c) shelf out e shelf2 out2
    → Admits line (command_of line) e × EndsBy (command_of line) shelf out e shelf2 out2
command_ends line c shelf out e shelf2 out2 h x = subst (λ o. Admits line o e × EndsBy o shelf out e shelf2 out2) (sym h) (tt, x)

-- refused words
pub usage_ends : (line : List Text) (shelf : Shelved) (out : Seen) → command_of line ≡ None → Admits line (command_of line) ending.Usage × EndsBy (command_of line) shelf out ending.Usage shelf out
usage_ends line shelf out h =
    subst (λ o. Admits line o ending.Usage × EndsBy o shelf out ending.Usage shelf out) (sym h)
    (inl refl, record { choice = no_choice; chosen = λ files t some. tt; came = record { asked = refl; leaves = (refl, refl); comes = λ files t. refl } })

admits_wanting : (line : List Text) (o : Option CommandWords) → begins_with_verb line ≡ true → Admits line o ending.NoMemory
admits_wanting line None b = inr (refl, b)
admits_wanting line (Some c) b = tt

-- words whose reading wanted memory
pub wanting_ends : (line : List Text) (shelf : Shelved) (out : Seen) → begins_with_verb line ≡ true → Admits line (command_of line) ending.NoMemory × EndsBy (command_of line) shelf out ending.NoMemory shelf out
wanting_ends line shelf out b = (
  admits_wanting line (command_of line) b,
  record {
    choice = no_choice;
    chosen = λ files t some. absurd some;
    came = record {
      asked = record { asked = []; later = named_files line; split = refl; asks = asks_none shelf };
      leaves = λ h. inl refl;
      comes = λ files t. nothing_written out.written out.written (text_in (outcome no_choice line files)) refl;
    };
  },
)
