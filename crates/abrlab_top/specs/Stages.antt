-- What the stages of a command have for a cause, once its files are read.
use Rattle.std.specs.Prelude.{◌≡◌, ◌⊎◌, ◌≤◌, true, false, Bool, Option, Some, None, IsSome, Result, Ok, Err}
use Rattle.lab_io.specs.declared.PutErr.{PutErr}
use Rattle.lab_io.specs.declared.PutErr.TheVariants as put
use Rattle.lab_io.specs.Sink.{Text, Seen, Rose, Grew, GrewPart}
use Rattle.lab_model.specs.declared.fault.InputFault.{InputFault}
use Rattle.lab_model.specs.declared.fault.InputFault.TheVariants.{Memory, Refused}
use Rattle.lab_model.specs.declared.fault.Refusal.{Refusal}
use Rattle.lab_inputs.specs.declared.role.Role.{Role}
use Rattle.lab_inputs.specs.declared.role.Role.TheVariants as role
use Rattle.lab_inputs.specs.declared.stop.FileFault.TheVariants as fault
use Rattle.lab_inputs.specs.declared.stop.Stop.{Stop}
use Rattle.lab_inputs.specs.declared.stop.Stop.TheVariants as stop
use Rattle.lab_inputs.specs.Inputs.{InputValues}
use Rattle.abrlab_top.specs.declared.check.Judgement.{Judgement}
use Rattle.abrlab_top.specs.declared.ending.Ending.{Ending}
use Rattle.abrlab_top.specs.declared.ending.Ending.TheVariants as ending
use Rattle.abrlab_top.specs.Answer.{Answer, Outcome, text_in}
use Rattle.abrlab_top.specs.Check.{check, told_verdict}
use Rattle.abrlab_top.specs.Ending.{IsWhole}

-- how words are answered: whether they are refused, whether rows are written as soon as they are there, and what certificate is checked,
-- if one is
pub record Manner : Type 0 where
  pub refused : Bool
  pub between : Bool
  pub checks : Option Role

-- a text that is written at the end, row by row, and of a check
abbrev pub at_the_end : Manner
at_the_end = record { refused = false; between = false; checks = None }

-- a command that prints rows between its parts
abbrev pub row_by_row : Manner
row_by_row = record { refused = false; between = true; checks = None }

-- a command that checks a certificate by labels
abbrev pub of_a_check : Manner
of_a_check = record { refused = false; between = false; checks = Some role.Certificate }

-- a command that checks a certificate by prices
abbrev pub of_a_price_check : Manner
of_a_price_check = record { refused = false; between = false; checks = Some role.PriceCertificate }

-- the manner of refused words
abbrev pub refusing : Manner
refusing = record { refused = true; between = false; checks = None }

-- the outcome is an answer of which this holds
abbrev pub Answers : Outcome → (Answer → Type 0) → Type 0
Answers meant Is = (a : Answer) × (meant ≡ Ok a) × Is a

-- `out` failed: its count rose, which that of a sure one never does
pub record OutFails (old new : Seen) : Type 0 where
  pub rose : Rose old.faults new.faults
  pub steady : old.sure ≡ true → new.faults ≡ old.faults

-- the stops that come once all files are there: a setting, and where a certificate is checked, a bad line of it
abbrev pub IsLate : Option Role → Stop → Type 0
IsLate checks (stop.File r why) = (checks ≡ Some r) × (refusal : Refusal) × (why ≡ fault.Refused refusal)
IsLate checks (stop.Settings setting) = Unit {0}

-- what a command of this manner that comes to this by its inputs did to `out`, where it ended so
abbrev pub Writes : Manner → Outcome → Seen → Ending → Seen → Type 0
Writes m meant old ending.Done new = Answers meant (λ a. (a.ending ≡ ending.Done) × Grew old.written a.text new.written)
Writes m meant old ending.Invalid new = IsSome m.checks × Answers meant (λ a. (a.ending ≡ ending.Invalid) × Grew old.written a.text new.written)
Writes m meant old ending.Usage new = ⊥
Writes m meant old (ending.Stopped why) new = IsLate m.checks why × (meant ≡ Err (ending.Stopped why)) × (new ≡ old)
Writes m meant old (ending.Spent trace segment) new = (meant ≡ Err (ending.Spent trace segment)) × (new ≡ old)
Writes m meant old ending.OutputFailed new = OutFails old new × Answers meant (λ a. IsWhole a.ending × GrewPart old.written a.text new.written)
Writes m meant old ending.NoMemory new =
    (m.between ≡ false → (new ≡ old) ⊎ Rose old.wants new.wants) × GrewPart old.written (text_in meant) new.written

-- the rows after Ok, else a prefix of them; after Failed the count of faults rose
abbrev pub RowsWritten : Seen → Text → Result (Unit {0}) PutErr → Seen → Type 0
RowsWritten old said (Ok done) new = Grew old.written said new.written
RowsWritten old said (Err put.Failed) new = GrewPart old.written said new.written × Rose old.faults new.faults
RowsWritten old said (Err put.Memory) new = GrewPart old.written said new.written

-- what rows were written: all of them after Ok, else a prefix of them; after Failed the count of faults rose, and memory may be
-- wanting at any row; no count falls, and a sure sink stays so, with the same count of faults
pub record WritesRows (old : Seen) (said : Text) (r : Result (Unit {0}) PutErr) (new : Seen) : Type 0 where
  pub faults : old.faults ≤ new.faults
  pub sure : new.sure ≡ old.sure
  pub steady : old.sure ≡ true → new.faults ≡ old.faults
  pub written : RowsWritten old said r new

-- ---- checks

-- how a fault of a certificate of this role ends the command
abbrev pub bad_line : Role → InputFault → Ending
bad_line r Memory = ending.NoMemory
bad_line r (Refused why) = ending.Stopped (stop.File r (fault.Refused why))

-- the answer that says a judgement on a certificate, plain or with a gap
abbrev pub judged : Bool → Judgement → Answer
judged gap j = told_verdict gap j.score j.bound j.verdict

-- what judging gave: the answer of the command, or the stop that comes first
abbrev pub Judges : Bool → InputValues → Result Judgement Ending → Type 0
Judges gap i (Ok j) = check gap i ≡ Ok (judged gap j)
Judges gap i (Err ending.Done) = ⊥
Judges gap i (Err ending.Invalid) = ⊥
Judges gap i (Err ending.Usage) = ⊥
Judges gap i (Err (ending.Stopped why)) = IsLate (Some role.Certificate) why × (check gap i ≡ Err (ending.Stopped why))
Judges gap i (Err (ending.Spent trace segment)) = ⊥
Judges gap i (Err ending.OutputFailed) = ⊥
Judges gap i (Err ending.NoMemory) = Unit {0}
