-- Without abandonment and seeks no session scores more than the best rung list of its network, and all these scores are near enough
-- to 0 to be summed.
use Rattle.std.proofs.Common.{◌≡◌, ◌∙◌, ◌^◌, ◌<◌, ◌≤◌, ℕ, List, [], length, get_or, None, false, ⊎_elim, ap, sym, refl, subst, arith}
use Rattle.std.specs.Prelude.{ℤ, ◌≤ℤ◌}
use Rattle.std.specs.List.{All}
use Rattle.lab_model.specs.declared.context.Played.{Played}
use Rattle.lab_model.specs.declared.setup.Setup.{Setup}
use Rattle.lab_model.specs.declared.trace.Period.{Period}
use Rattle.lab_model.specs.Film.{Film, rungs_of, segments_of}
use Rattle.lab_model.specs.Fit.{SetupFits}
use Rattle.lab_model.specs.Number.{IsNear}
use Rattle.lab_model.specs.Rules.{KindFits, RuleKind, listed}
use Rattle.lab_model.specs.Seeks.{SeeksFit}
use Rattle.lab_model.specs.Weighing.{HasUtility, IsWeighing}
use Rattle.lab_inputs.specs.Inputs.{InputValues}
use Rattle.quality_score.specs.Score.{CanScore}
use Rattle.quality_score.proofs.Near.{session_near}
use Rattle.player_core.specs.Lists.{rungs_in}
use Rattle.player_core.specs.Scene.{IsTask, Task, case_in}
use Rattle.player_core.specs.Session.{Shown, session_of}
use Rattle.player_core.specs.Sound.{IsCase}
use Rattle.player_core.specs.State.{Case, case_of}
use Rattle.player_core.specs.Value.{list_case}
use Rattle.player_core.proofs.Bounds.{last_count, last_rungs, last_times}
use Rattle.player_core.proofs.Chain.{is_case, task_case}
use Rattle.player_core.proofs.Ends.{end_early}
use Rattle.player_core.proofs.Lists.{rules_are_lists}
use Rattle.labels.specs.Best.{Settles, task_value}
use Rattle.labels.specs.Labels.{AreRungs}
use Rattle.labels.proofs.Sound.{plan_settles}
use Rattle.session_report.specs.Regret.{AreScores}
use Rattle.session_report.specs.Session.{session_score}
use Rattle.abrlab_top.specs.Ahead.{ahead_of}
use Rattle.abrlab_top.specs.Choice.{IsBound}
use Rattle.abrlab_top.specs.Plan.{certificate_on, task_on}
use Rattle.abrlab_top.specs.Regret.{best_on, regret_case, score_on}
use Rattle.abrlab_top.proofs.Certified.{own_score}

-- ---- the score of a session

has_utility : (f : Film) (s : Setup) → SetupFits s f → (segment rung : ℕ) → rung < rungs_of f → segment < segments_of f → HasUtility s.weights segment rung
has_utility f s fits segment rung low below =
    let count = fits.utilities.rungs in (
      omega (arith, count, low),
      λ some. ⊎_elim (λ (none : s.weights.rows ≡ 0). absurd (omega (arith, some, none))) (λ (all : s.weights.rows ≡ segments_of f). omega (arith, all, below)) fits.utilities.rows,
    )

-- played segments of a film that the setup fits can be scored
pub can_score : (f : Film) (s : Setup) (ps : List Played) → SetupFits s f → All (λ (p : Played). (p.rung < rungs_of f) × (p.segment < segments_of f)) ps → length ps ≤ 34000 → CanScore s.weights ps
can_score f s ps fits rungs few = record {
  utilities = λ k d low. let here = rungs k d low in has_utility f s fits (get_or ps k d).segment (get_or ps k d).rung here.0 here.1;
  count = omega (arith, few);
}

session_scored : (c : Case) → IsCase c → CanScore c.setup.weights (session_of c).played
session_scored c is = let few = last_count c is in can_score c.film c.setup (session_of c).played is.setup (last_rungs c is) (omega (arith, few))

-- the score of a session is near enough to 0
score_near : (c : Case) → IsCase c → IsWeighing c.setup.weights → IsNear (10 ^ 24) (session_score (session_of c) c.setup.weights)
score_near c is weights =
    let times = last_times c is in
    let early = end_early c is in
    session_near c.setup.weights (session_of c).played (session_of c).stall_ms (session_of c).startup_ms weights (session_scored c is) (omega (arith, times, early)) (omega (arith, times, early))

-- ---- the best

-- no seeks fit every film
pub no_seeks : (segments : ℕ) → SeeksFit [] segments
no_seeks segments = record {
  count = omega arith;
  instants = λ k d low. absurd (omega arith);
  rising = λ k low. absurd (omega arith);
  targets = λ k d low. absurd (omega arith);
}

-- the best rung list has the best score for its value, and no rung list has more
pub best_settles : (g : Task) → IsTask g → Settles g (certificate_on None g).plan (certificate_on None g).score (certificate_on None g).score
best_settles g is = subst (λ (b : ℤ). Settles g (certificate_on None g).plan b b) (own_score None g is refl) (plan_settles g is)

best_near : (i : InputValues) (periods : List Period) → IsTask (task_on i periods) → IsNear (10 ^ 24) (best_on i periods)
best_near i periods is =
    let best = best_settles (task_on i periods) is in
    let calm = record i.setup { abandon = false } in
    let fits : SetupFits calm i.film = record { buffer = is.setup.buffer; utilities = record { rungs = is.setup.utilities.rungs; rows = is.setup.utilities.rows } } in
    let plays = list_case i.film periods i.setup (ahead_of i.live) (certificate_on None (task_on i periods)).plan in
    subst (IsNear (10 ^ 24)) best.value
    (score_near plays (is_case i.film periods calm [] (ahead_of i.live) (listed (certificate_on None (task_on i periods)).plan) is.film is.trace fits (no_seeks (segments_of i.film)) is.ahead best.list) is.weights)

-- ---- the session of a rule

-- the score of a rule is the value of the rung list that its session played
as_list : (i : InputValues) (periods : List Period) (rule : RuleKind) → IsTask (task_on i periods) → KindFits rule i.film → i.setup.abandon ≡ false
    → (rungs : List ℕ) × AreRungs (task_on i periods) (segments_of i.film) rungs × (task_value (task_on i periods) rungs ≡ score_on i periods rule)
as_list i periods rule is fits off =
    let c = regret_case i periods rule in
    let law = rules_are_lists c (task_case (task_on i periods) [] rule is (no_seeks (segments_of i.film)) fits) off refl in
    let rungs = rungs_in (session_of c).played in
    let calm : list_case i.film periods i.setup (ahead_of i.live) rungs ≡ record c { rule = listed rungs } =
    ap (λ b. case_of i.film periods (record i.setup { abandon = b }) [] (ahead_of i.live) (listed rungs)) (sym off)
    in
    (rungs, law.fits, ap (λ (s : Shown). session_score s i.setup.weights) (ap session_of calm ∙ law.same))

-- no session scores more than a bound
pub behind_bound : (i : InputValues) (periods : List Period) (rule : RuleKind) (top : ℤ) → IsTask (task_on i periods) → IsBound (task_on i periods) top → KindFits rule i.film → i.setup.abandon ≡ false → score_on i periods rule ≤ℤ top
behind_bound i periods rule top is bound fits off =
    let list = as_list i periods rule is fits off in
    subst (λ v. v ≤ℤ top) list.2 (bound.bounds list.0 list.1)

-- the best score is a bound
pub best_bounds : (i : InputValues) (periods : List Period) → IsTask (task_on i periods) → IsBound (task_on i periods) (best_on i periods)
best_bounds i periods is = record { bounds = (best_settles (task_on i periods) is).most; near = best_near i periods is }

-- the scores of a rule can be summed beside a bound
pub are_scores : (i : InputValues) (periods : List Period) (rule : RuleKind) (top : ℤ) → IsTask (task_on i periods) → IsBound (task_on i periods) top → KindFits rule i.film → i.setup.abandon ≡ false → AreScores (score_on i periods rule, top)
are_scores i periods rule top is bound fits off = record {
  score = score_near (regret_case i periods rule) (task_case (task_on i periods) [] rule is (no_seeks (segments_of i.film)) fits) is.weights;
  best = bound.near;
  order = behind_bound i periods rule top is bound fits off;
}

-- the score of what was played is that of the rule
pub rule_scored : (i : InputValues) (clock : List Period) (g : Task) (setup : Setup) (kind rule : RuleKind) (s : Shown) (score : ℤ) → s ≡ session_of (case_in g [] kind) → g ≡ task_on i clock → setup ≡ i.setup
    → kind ≡ rule → score ≡ session_score s setup.weights → score ≡ score_on i clock rule
rule_scored i clock g setup kind rule s score e t p k o =
    let same : case_in g [] kind ≡ regret_case i clock rule = rw (t, k) refl in
    o ∙ ap (λ (x : Shown). session_score x setup.weights) (e ∙ ap session_of same) ∙ ap (λ (w : Setup). session_score (session_of (regret_case i clock rule)) w.weights) p
