-- The one scheme by which a clause is tested at all its places: the first No is the answer.
use Rattle.std.specs.Prelude.{ℕ, zero, suc, Bool, true, false, Result, Ok, Err, if◌then◌else◌}
use Rattle.certificate_check.specs.declared.verdict.Verdict.{Verdict}
use Rattle.certificate_check.specs.declared.verdict.Verdict.TheVariants.{Yes, No}
use Rattle.certificate_check.specs.declared.ranges.Failure.{Failure}

-- the verdict that tests of the code come to
abbrev pub verdict_by : Result (Unit {0}) Failure → Verdict
verdict_by (Ok done) = Yes
verdict_by (Err f) = No f.clause f.segment f.rung f.label

-- it is a No
abbrev pub is_no : Verdict → Bool
is_no Yes = false
is_no (No clause segment rung label) = true

-- the first verdict where it is a No, else the second
abbrev pub both : Verdict → Verdict → Verdict
both Yes later = later
both (No clause segment rung label) later = No clause segment rung label

-- the first No of so many verdicts, else Yes
unfoldable pub first_no : (ℕ → Verdict) → ℕ → Verdict
first_no f zero = Yes
first_no f (suc n) = both (first_no f n) (f n)

-- Yes where the test passes, else a No with this clause and this place
abbrev pub tested : ℕ → ℕ → ℕ → ℕ → Bool → Verdict
tested clause segment rung label passes = if passes then Yes else No clause segment rung label
