-- The settings' tests and what they say.
use Rattle.std.proofs.Common.{◌≡◌, ◌+◌, ℕ, Bool, true, false, not, List, [], ◌∷◌, Option, Some, None, option_map, arith, refl, if◌then◌else◌, Ok, Err, ap}
use Rattle.std.specs.List.{All}
use Rattle.std.proofs.lemmas.List.Elements.{All-cons}
use Rattle.lab_io.specs.Sink.{Text}
use Rattle.lab_model.specs.declared.setup.Setup.{Setup}
use Rattle.lab_model.specs.Film.{Film}
use Rattle.lab_model.specs.Fit.{SetupFits, buffer_fits, utilities_fit}
use Rattle.lab_model.specs.Rules.{RuleKind, KindFits, kind_fits}
use Rattle.lab_model.proofs.Fits.{kind_passes, setup_passes}
use Rattle.lab_inputs.specs.declared.stop.Setting.TheVariants as setting
use Rattle.lab_inputs.specs.Inputs.{InputValues}
use Rattle.lab_inputs.specs.Settings.{Fits, misfit, misfit_from, settled}
use Rattle.lab_inputs.specs.Stages.{IsSettled}

none_here : (fits : Bool) (place : ℕ) (later : Option ℕ) → (if fits then later else Some place) ≡ None → (fits ≡ true) × (later ≡ None)
none_here true place later e = (refl, e)
none_here false place later e = cc

-- where no place is named each rule can be asked about the film
rules_fit : (place : ℕ) (rules : List (Text × RuleKind)) (f : Film) → misfit_from place rules f ≡ None → All (λ (r : Text × RuleKind). KindFits r.1 f) rules
rules_fit place [] f e = λ k d lt. absurd (omega arith)
rules_fit place (rule ∷ rules) f e =
    let h = none_here (kind_fits rule.1 f) place (misfit_from (place + 1) rules f) e in
    All-cons (λ (r : Text × RuleKind). KindFits r.1 f) rule rules (kind_passes rule.1 f h.0) (rules_fit (place + 1) rules f h.1)

none_first : (buffer utilities : Bool) (rule : Option ℕ) → (if not buffer then Some setting.Buffer else (if not utilities then Some setting.Utilities else option_map setting.Rule rule)) ≡ None
    → (buffer ≡ true) × (utilities ≡ true) × (rule ≡ None)
none_first false u rule e = cc
none_first true false rule e = cc
none_first true true None e = (refl, refl, refl)
none_first true true (Some place) e = cc

-- where there is no misfit all fits
pub all_fits : (s : Setup) (rules : List (Text × RuleKind)) (f : Film) → misfit s rules f ≡ None → SetupFits s f × All (λ (r : Text × RuleKind). KindFits r.1 f) rules
unfolding misfit
all_fits s rules f e =
    let h = none_first (buffer_fits s f) (utilities_fit s f) (misfit_from 1 rules f) e in
    (setup_passes s f h.0 h.1, rules_fit 1 rules f h.2)

-- no setting is a misfit
pub settled_ok : (i : InputValues) → misfit i.setup i.rules i.film ≡ None → IsSettled i (Ok tt)
settled_ok i e = let h = all_fits i.setup i.rules i.film e in (rw e refl, record { setup = h.0; rules = h.1 })
