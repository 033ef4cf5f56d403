-- What `check` answers: the verdict on a certificate, plain or with a gap. A bad line of it comes before the settings.
use Rattle.std.specs.Prelude.{ℕ, ℤ, Bool, true, false, List, [], ◌∷◌, ◌++◌, Option, Some, None, Result, Ok, codes}
use Rattle.std.specs.Fmt.{decimal, signed_decimal}
use Rattle.std.specs.List.{slice_get}
use Rattle.lab_io.specs.Piece.{fields_line}
use Rattle.lab_io.specs.Sink.{Text}
use Rattle.lab_model.specs.declared.trace.Period.{Period}
use Rattle.lab_inputs.specs.declared.role.Role.TheVariants as role
use Rattle.lab_inputs.specs.declared.stop.Stop.{Stop}
use Rattle.lab_model.specs.Steps.{◌>>=◌}
use Rattle.lab_inputs.specs.Files.{at_role, read_as}
use Rattle.lab_inputs.specs.Inputs.{InputValues}
use Rattle.lab_inputs.specs.Settings.{settled}
use Rattle.certificate_check.specs.declared.verdict.Verdict.{Verdict}
use Rattle.certificate_check.specs.declared.verdict.Verdict.TheVariants.{Yes, No}
use Rattle.certificate_text.specs.Form.{GapParts}
use Rattle.certificate_check.specs.Verdict.{verdict_of}
use Rattle.abrlab_top.specs.declared.ending.Ending.{Ending}
use Rattle.abrlab_top.specs.declared.ending.Ending.TheVariants as ending
use Rattle.abrlab_top.specs.Answer.{Answer, Outcome, printed, unless_stopped}
use Rattle.abrlab_top.specs.Claim.{claim_of}
use Rattle.abrlab_top.specs.Plan.{task_on}

-- what the certificate claims that the bytes spell, or its first bad line
abbrev pub claim_in : Bool → Text → Result GapParts Stop
claim_in gap bytes = at_role role.Certificate (read_as (claim_of gap bytes))

-- the number of a clause, and a place where it fails
abbrev pub place_fields : ℕ → ℕ → ℕ → ℕ → List Text
place_fields clause segment rung label =
    decimal clause ∷ codes "segment" ∷ decimal segment ∷ codes "rung" ∷ decimal rung ∷ codes "label" ∷ decimal label ∷ []

-- the line of a yes: the score, and of a gap certificate the bound
abbrev pub yes_line : Bool → ℤ → ℤ → Text
yes_line false score bound = fields_line (codes "yes" ∷ codes "score" ∷ signed_decimal score ∷ [])
yes_line true score bound = fields_line (codes "yes" ∷ codes "score" ∷ signed_decimal score ∷ codes "bound" ∷ signed_decimal bound ∷ [])

-- the line of a verdict on a certificate, plain or with a gap, with this score and bound
abbrev pub verdict_text : Bool → ℤ → ℤ → Verdict → Text
verdict_text gap score bound Yes = yes_line gap score bound
verdict_text gap score bound (No clause segment rung label) = codes "no V" ++ fields_line (place_fields clause segment rung label)

-- how a command ends whose text says this verdict
abbrev pub verdict_ending : Verdict → Ending
verdict_ending Yes = ending.Done
verdict_ending (No clause segment rung label) = ending.Invalid

-- the answer that says it
abbrev pub told_verdict : Bool → ℤ → ℤ → Verdict → Answer
told_verdict gap score bound v = record { ending = verdict_ending v; text = verdict_text gap score bound v }

-- the answer on this network: first a bad line, then a setting that does not fit, then the verdict; a command line of `check` names one
abbrev pub check_on : Bool → InputValues → Option (Text × List Period) → Outcome
check_on gap i (Some network) = do
  claim ← unless_stopped (claim_in gap i.certificate)
  ready ← unless_stopped (settled i)
  Ok (told_verdict gap claim.inner.score claim.bound (verdict_of (task_on ready network.1) claim.inner claim.bound))
check_on gap i None = Ok (printed [])

-- what `check` answers, by whether the certificate has a gap, and by its inputs
unfoldable pub check : Bool → InputValues → Outcome
check gap i = check_on gap i (slice_get i.networks 0)
