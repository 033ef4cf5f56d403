-- A run over files and sinks in memory, of which none fails.
use Rattle.std.proofs.Common.{◌≡◌, ◌∙◌, ◌++◌, ◌⊎◌, ◌<◌, ℕ, List, [], Some, Result, Ok, Err, inl, inr, ap, subst, sym, refl, arith}
use Rattle.lab_io.specs.declared.PutErr.{PutErr}
use Rattle.lab_io.specs.declared.PutErr.TheVariants as put
use Rattle.lab_io.specs.Memory.{MemFiles, SureText, file_of, mem_shelved, sure_seen}
use Rattle.lab_io.specs.Shelf.{Shelved}
use Rattle.lab_io.specs.Sink.{Answered, Grew, GrewPart, Rose, Seen, Text}
use Rattle.lab_words.specs.Words.{command_of}
use Rattle.abrlab_top.specs.declared.ending.Ending.{Ending}
use Rattle.abrlab_top.specs.declared.ending.Ending.TheVariants as ending
use Rattle.abrlab_top.specs.Answer.{ending_in, text_in}
use Rattle.abrlab_top.specs.Choice.{Choice, HasText, no_choice}
use Rattle.abrlab_top.specs.Ending.{Says, Told, note_of, status_of}
use Rattle.abrlab_top.specs.Memory.{BeginsWith, HasPrinted, IsPrinted, Took}
use Rattle.abrlab_top.specs.Outcome.{manner_in, named_files, note, outcome, status}
use Rattle.abrlab_top.specs.Runs.{Ends, Runs, world}
use Rattle.abrlab_top.specs.Statuses.{IsSure}
use Rattle.abrlab_top.proofs.Choices.{same_ending}
use Rattle.abrlab_top.proofs.Complete.{stopped_outcome, sure_out, sure_shelf}
use Rattle.abrlab_top.proofs.Statuses.{stop_range, tells_named}

-- nothing can fail
sure_in_memory : (line : List Text) (s : MemFiles) (o : SureText) (err : Seen) → s.failing ≡ [] → s.failed ≡ 0 → IsSure line (file_of s.files) (world (mem_shelved s) (sure_seen o) err)
sure_in_memory line s o err none zero = record {
  shelf = λ file named there. (rw (none, there) refl, rw (there, zero) (omega arith));
  out = refl;
  faults = omega arith;
}

some_text : (a b : Text) → Some a ≡ Some b → a ≡ b
some_text a b e = cc

grew_is : (a b said : Text) → Grew (Some a) said (Some b) → a ≡ [] → b ≡ said
grew_is a b said g e = some_text b (a ++ said) g ∙ ap (λ x. x ++ said) e

part_is : (a b said : Text) → GrewPart (Some a) said (Some b) → a ≡ [] → BeginsWith said b
part_is a b said g e = (g.1, g.2 ∙ ap (λ x. x ++ g.1) (sym (grew_is a b g.0 g.3 e)))

above_none : (n m : ℕ) → n ≡ 0 → Rose n m → 0 < m
above_none n m z (inl x) = omega arith
above_none n m z (inr x) = omega arith

never_risen : Rose 0 0 → ⊥
never_risen (inl x) = omega arith
never_risen (inr x) = omega arith

took : (o p : SureText) (said : Text) → Says (sure_seen o) said (sure_seen p) → o.written ≡ [] → o.wants ≡ 0 → Took said p
took o p said h e z = by_answer h.0 h.1.answered
  where
    by_answer : (r : Result (Unit {0}) PutErr) → Answered (sure_seen o) said (sure_seen p) r → Took said p
    by_answer (Ok done) a = inl (grew_is o.written p.written said a e)
    by_answer (Err put.Failed) a = absurd (never_risen a.1)
    by_answer (Err put.Memory) a = inr (part_is o.written p.written said a.0 e, above_none o.wants p.wants z a.1)

kept : (o p : SureText) → sure_seen p ≡ sure_seen o → o.written ≡ [] → p.written ≡ []
kept o p h e = some_text p.written o.written (ap (λ (s : Seen). s.written) h) ∙ e

told_of : (e : Ending) (o p : SureText) → Told (sure_seen o) e (sure_seen p) → o.written ≡ [] → o.wants ≡ 0 → Took (note_of e) p
told_of ending.Done o p h k z = inl (kept o p h k)
told_of ending.Invalid o p h k z = inl (kept o p h k)
told_of ending.Usage o p h k z = took o p (note_of ending.Usage) h k z
told_of (ending.Stopped why) o p h k z = took o p (note_of (ending.Stopped why)) h k z
told_of (ending.Spent trace segment) o p h k z = took o p (note_of (ending.Spent trace segment)) h k z
told_of ending.OutputFailed o p h k z = took o p (note_of ending.OutputFailed) h k z
told_of ending.NoMemory o p h k z = took o p (note_of ending.NoMemory) h k z

-- a run that answered 0 came to its text
has_text : (e : Ending) → status_of e ≡ 0 → HasText e
has_text ending.Done h = tt
has_text ending.Invalid h = tt
has_text ending.OutputFailed h = tt
has_text (ending.Stopped why) h = let k = (stop_range why).0 in absurd (omega arith)
has_text e h = absurd (omega arith)

-- what a run in memory came to
module _ (line : List Text) (s : MemFiles) (out out2 err err2 : SureText) (shelf : Shelved) (empty : out.written ≡ []) (unwanted : out.wants ≡ 0) (silent : err.written ≡ []) (content : err.wants ≡ 0) (none : s.failing ≡ []) (zero : s.failed ≡ 0) where
  pub printed_in_memory : (e : Ending) → Runs line (world (mem_shelved s) (sure_seen out) (sure_seen err)) e (world shelf (sure_seen out2) (sure_seen err2)) → IsPrinted line (file_of s.files) (status_of e) out2 err2
  printed_in_memory e h = (choice, λ done. h.ends.chosen (file_of s.files) refl (has_text e done), by_ending e h.ends.came (told_of e err err2 h.err silent content))
    where
      choice : Choice
      choice = h.ends.choice

      -- the status and the note are those of the words and files
      is : (e : Ending) → ending_in (outcome choice line (file_of s.files)) ≡ e → Took (note_of e) err2 → (status_of e ≡ status line (file_of s.files)) × Took (note line (file_of s.files)) err2
      is e same t = let e2 = sym same ∙ same_ending choice no_choice line (file_of s.files) in (ap status_of e2, subst (λ x. Took (note_of x) err2) e2 t)

      sure : IsSure line (file_of s.files) (world (mem_shelved s) (sure_seen out) (sure_seen err))
      sure = sure_in_memory line s out (sure_seen err) none zero

      left : (sure_seen out2 ≡ sure_seen out) ⊎ Rose out.wants out2.wants → (out2.written ≡ []) ⊎ (0 < out2.wants)
      left (inl same) = inl (kept out out2 same empty)
      left (inr rose) = inr (above_none out.wants out2.wants unwanted rose)

      stopped : (e : Ending) → outcome choice line (file_of s.files) ≡ Err e → sure_seen out2 ≡ sure_seen out → Took (note_of e) err2 → HasPrinted choice line (file_of s.files) (status_of e) out2 err2
      stopped e o k t = let x = is e (ap ending_in o) t in inl (x.0, kept out out2 k empty ∙ sym (ap text_in o), x.1)

      by_ending : (e : Ending) → Ends (named_files line) (manner_in (command_of line)) (outcome choice line) (mem_shelved s) (sure_seen out) e shelf (sure_seen out2) → Took (note_of e) err2 → HasPrinted choice line (file_of s.files) (status_of e) out2 err2
      by_ending ending.Done x t =
          let a = x.comes (file_of s.files) (tells_named (named_files line) (mem_shelved s) (file_of s.files) refl) in
          let b = is ending.Done (ap ending_in a.1 ∙ a.2.0) t in
          inl (b.0, grew_is out.written out2.written a.0.text a.2.1 empty ∙ sym (ap text_in a.1), b.1)
      by_ending ending.Invalid x t =
          let a = x.comes (file_of s.files) (tells_named (named_files line) (mem_shelved s) (file_of s.files) refl) in
          let b = is ending.Invalid (ap ending_in a.1 ∙ a.2.0) t in
          inl (b.0, grew_is out.written out2.written a.0.text a.2.1 empty ∙ sym (ap text_in a.1), b.1)
      by_ending ending.Usage x t = stopped ending.Usage (x.comes (file_of s.files) (tells_named (named_files line) (mem_shelved s) (file_of s.files) refl)) x.leaves.1 t
      by_ending (ending.Stopped why) x t =
          stopped (ending.Stopped why) (stopped_outcome choice line (mem_shelved s) shelf why (file_of s.files) refl (sure_shelf line _ e _ h (file_of s.files) sure) x.asked (x.comes (file_of s.files) (tells_named (named_files line) (mem_shelved s) (file_of s.files) refl))) x.leaves t
      by_ending (ending.Spent trace segment) x t = stopped (ending.Spent trace segment) (x.comes (file_of s.files) (tells_named (named_files line) (mem_shelved s) (file_of s.files) refl)) x.leaves t
      by_ending ending.OutputFailed x t = absurd (sure_out line (world (mem_shelved s) (sure_seen out) (sure_seen err)) (world shelf (sure_seen out2) (sure_seen err2)) (file_of s.files) sure x.leaves)
      by_ending ending.NoMemory x t =
          inr (refl, part_is out.written out2.written (text_in (outcome choice line (file_of s.files))) (x.comes (file_of s.files) (tells_named (named_files line) (mem_shelved s) (file_of s.files) refl)) empty, (λ b. left (x.leaves b)), t)
