-- What `plan --near` and `check --near` answer: a rung list with a bound by prices, or its certificate; and the verdict on such a certificate.
use Rattle.std.specs.Prelude.{ℕ, ℤ, Bool, List, [], ◌∷◌, ◌++◌, map, Option, Some, None, Result, Ok, codes, if◌then◌else◌}
use Rattle.std.specs.Fmt.{decimal, signed_decimal}
use Rattle.std.specs.List.{slice_get}
use Rattle.lab_io.specs.Piece.{fields_line}
use Rattle.lab_io.specs.Sink.{Text}
use Rattle.lab_model.specs.declared.trace.Period.{Period}
use Rattle.lab_model.specs.Steps.{◌>>=◌}
use Rattle.lab_inputs.specs.declared.role.Role.TheVariants as role
use Rattle.lab_inputs.specs.declared.stop.Stop.{Stop}
use Rattle.lab_inputs.specs.Files.{at_role, read_as}
use Rattle.lab_inputs.specs.Inputs.{InputValues}
use Rattle.lab_inputs.specs.Settings.{settled}
use Rattle.price_bounds.specs.Verdict.{PriceParts, verdict_of}
use Rattle.price_bounds.specs.declared.verdict.PriceVerdict.{PriceVerdict}
use Rattle.price_bounds.specs.declared.verdict.PriceVerdict.TheVariants as said
use Rattle.price_text.specs.Reading.{prices_of}
use Rattle.price_text.specs.Spelling.{prices_text}
use Rattle.abrlab_top.specs.declared.ending.Ending.{Ending}
use Rattle.abrlab_top.specs.declared.ending.Ending.TheVariants as ending
use Rattle.abrlab_top.specs.Answer.{Answer, Outcome, printed, unless_stopped}
use Rattle.abrlab_top.specs.Plan.{bound_line, task_on}

-- ---- plan

-- the three lines of a rung list with its score and a bound
abbrev pub near_lines : ℤ → ℤ → List ℕ → Text
near_lines score bound rungs =
    fields_line (codes "score" ∷ signed_decimal score ∷ [])
    ++ (bound_line bound ++ fields_line (codes "plan" ∷ map decimal rungs))

-- the text of a certificate by prices, or of what it claims
abbrev pub near_text : Bool → PriceParts → Text
near_text as_certificate p = if as_certificate then prices_text p else near_lines p.score p.bound p.plan

-- the answer on this network, where this was chosen; a command line of `plan` names one
abbrev pub near_plan_on : Bool → PriceParts → InputValues → Option (Text × List Period) → Outcome
near_plan_on as_certificate p i (Some network) = do
  ready ← unless_stopped (settled i)
  Ok (printed (near_text as_certificate p))
near_plan_on as_certificate p i None = Ok (printed [])

-- what `plan --near` answers, by what was chosen and its inputs
unfoldable pub near_plan : Bool → PriceParts → InputValues → Outcome
near_plan as_certificate p i = near_plan_on as_certificate p i (slice_get i.networks 0)

-- ---- check

-- the certificate that the bytes spell, or its first bad line
abbrev pub prices_in : Text → Result PriceParts Stop
prices_in bytes = at_role role.PriceCertificate (read_as (prices_of bytes))

-- the fields of a verdict on a certificate with this score and bound
abbrev pub price_fields : ℤ → ℤ → PriceVerdict → List Text
price_fields score bound said.Yes = codes "yes" ∷ codes "score" ∷ signed_decimal score ∷ codes "bound" ∷ signed_decimal bound ∷ []
price_fields score bound said.OtherFilm = codes "no" ∷ codes "P1" ∷ []
price_fields score bound (said.BadRung segment) = codes "no" ∷ codes "P2" ∷ codes "segment" ∷ decimal segment ∷ []
price_fields score bound (said.BadWindow window) = codes "no" ∷ codes "P2" ∷ codes "window" ∷ decimal window ∷ []
price_fields score bound (said.BoundAbove least) = codes "no" ∷ codes "P3" ∷ codes "bound" ∷ signed_decimal least ∷ []
price_fields score bound (said.OtherScore value) = codes "no" ∷ codes "P4" ∷ codes "score" ∷ signed_decimal value ∷ []

-- the line of a verdict
abbrev pub price_verdict_text : ℤ → ℤ → PriceVerdict → Text
price_verdict_text score bound v = fields_line (price_fields score bound v)

-- how a command ends whose text says this verdict
abbrev pub price_ending : PriceVerdict → Ending
price_ending said.Yes = ending.Done
price_ending said.OtherFilm = ending.Invalid
price_ending (said.BadRung segment) = ending.Invalid
price_ending (said.BadWindow window) = ending.Invalid
price_ending (said.BoundAbove least) = ending.Invalid
price_ending (said.OtherScore value) = ending.Invalid

-- the answer that says it
abbrev pub told_prices : ℤ → ℤ → PriceVerdict → Answer
told_prices score bound v = record { ending = price_ending v; text = price_verdict_text score bound v }

-- the answer on this network: first a bad line, then a setting that does not fit, then the verdict; a command line of `check` names one
abbrev pub near_check_on : InputValues → Option (Text × List Period) → Outcome
near_check_on i (Some network) = do
  claim ← unless_stopped (prices_in i.certificate)
  ready ← unless_stopped (settled i)
  Ok (told_prices claim.score claim.bound (verdict_of (task_on ready network.1) claim))
near_check_on i None = Ok (printed [])

-- what `check --near` answers, by its inputs
unfoldable pub near_check : InputValues → Outcome
near_check i = near_check_on i (slice_get i.networks 0)
