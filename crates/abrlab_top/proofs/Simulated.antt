-- What `simulate` answers, by what was played.
use Rattle.std.proofs.Common.{◌≡◌, ◌∙◌, ℕ, List, [], ◌∷◌, arith, subst, Option, Some, None, Ok, Err, ap, refl}
use Rattle.std.specs.List.{All, slice_get}
use Rattle.lab_io.specs.Sink.{Text}
use Rattle.lab_model.specs.declared.context.Seek.{Seek}
use Rattle.lab_model.specs.declared.setup.Setup.{Setup}
use Rattle.lab_model.specs.declared.trace.Period.{Period}
use Rattle.lab_model.specs.Film.{Film}
use Rattle.lab_model.specs.Rules.{RuleKind, KindFits}
use Rattle.lab_inputs.specs.declared.stop.Stop.{Stop}
use Rattle.lab_inputs.specs.Inputs.{InputValues}
use Rattle.lab_inputs.specs.Settings.{settled}
use Rattle.player_core.specs.Session.{Shown, session_of}
use Rattle.player_core.specs.Scene.{Task, case_in}
use Rattle.session_report.specs.Session.{session_text}
use Rattle.abrlab_top.specs.declared.ending.Ending.TheVariants as ending
use Rattle.abrlab_top.specs.Answer.{printed}
use Rattle.abrlab_top.specs.Plan.{task_on}
use Rattle.abrlab_top.specs.Simulate.{session_case, session_on, simulate, simulate_on}

-- no network is named
pub no_network : (i : InputValues) → slice_get i.networks 0 ≡ None → simulate i ≡ Ok (printed [])
unfolding simulate
no_network i e = ap (λ n. simulate_on i n (slice_get i.rules 0)) e

no_rule_on : (i : InputValues) (n : Option (Text × List Period)) → simulate_on i n None ≡ Ok (printed [])
no_rule_on i None = refl
no_rule_on i (Some n) = refl

-- no rule is named
pub no_rule : (i : InputValues) → slice_get i.rules 0 ≡ None → simulate i ≡ Ok (printed [])
unfolding simulate
no_rule i e = ap (simulate_on i (slice_get i.networks 0)) e ∙ no_rule_on i (slice_get i.networks 0)

-- a setting does not fit
pub simulate_stopped : (i : InputValues) (n : Text × List Period) (rule : Text × RuleKind) (why : Stop) → slice_get i.networks 0 ≡ Some n → slice_get i.rules 0 ≡ Some rule → settled i ≡ Err why → simulate i ≡ Err (ending.Stopped why)
unfolding simulate
simulate_stopped i n rule why e h k = rw (e, h, k) refl

-- the session is printed
pub simulated : (i : InputValues) (n : Text × List Period) (rule : Text × RuleKind) → slice_get i.networks 0 ≡ Some n → slice_get i.rules 0 ≡ Some rule → settled i ≡ Ok i → simulate i ≡ Ok (printed (session_on i n.1 rule.1))
unfolding simulate
simulated i n rule e h k = rw (e, h, k) refl

-- what was played is what is to be printed
pub played : (i : InputValues) (periods : List Period) (g : Task) (seeks : List Seek) (kind rule : RuleKind) (s : Shown) (weights : Setup) → s ≡ session_of (case_in g seeks kind)
    → g ≡ task_on i periods → seeks ≡ i.seeks → kind ≡ rule → weights ≡ i.setup → session_text s weights.weights ≡ session_on i periods rule
played i periods g seeks kind rule s weights e t r k o =
    let same : case_in g seeks kind ≡ session_case i periods rule = rw (t, r, k) refl in
    ap (λ (x : Shown). session_text x weights.weights) (e ∙ ap session_of same) ∙ ap (λ (w : Setup). session_text (session_of (session_case i periods rule)) w.weights) o

first_holds : {A : Type 0} (P : A → Type 0) (xs : List A) (x : A) → slice_get xs 0 ≡ Some x → All P xs → P x
first_holds P [] x e h = cc
first_holds P (y ∷ xs) x e h = let same : y ≡ x = cc in subst P same (h 0 y (omega arith))

-- the first rule can be asked about the film
pub rule_fits : (i : InputValues) (film : Film) (kind : RuleKind) (rule : Text × RuleKind) → slice_get i.rules 0 ≡ Some rule → All (λ (r : Text × RuleKind). KindFits r.1 i.film) i.rules → kind ≡ rule.1 → film ≡ i.film → KindFits kind film
rule_fits i film kind rule e h k f = rw (k, f) (first_holds (λ (r : Text × RuleKind). KindFits r.1 i.film) i.rules rule e h)
