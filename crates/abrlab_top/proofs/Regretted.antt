-- The headline of regrets, from a run that answered 0.
use Rattle.std.proofs.Common.{◌≡◌, ◌∙◌, ℕ, List, [], ◌∷◌, map, true, false, Option, Some, None, Ok, ap, sym, refl, subst}
use Rattle.std.specs.List.{All}
use Rattle.std.specs.Prelude.{ℤ, ◌≤ℤ◌}
use Rattle.std.proofs.lemmas.List.Elements.{All-cons, All-head, All-nil, All-tail, All-weaker}
use Rattle.lab_io.specs.Sink.{Text, Grew}
use Rattle.lab_model.specs.declared.trace.Period.{Period}
use Rattle.lab_model.specs.Cycle.{IsTrace}
use Rattle.lab_model.specs.Rules.{KindFits, RuleKind}
use Rattle.lab_words.specs.declared.Verb.TheVariants as verb
use Rattle.lab_words.specs.Command.{CommandWords}
use Rattle.lab_words.specs.Limits.{HasFilm, IsWithinLimits}
use Rattle.lab_inputs.specs.Files.{Files}
use Rattle.lab_model.proofs.Steps.{then_ok}
use Rattle.lab_inputs.specs.Inputs.{InputValues, inputs_of}
use Rattle.lab_inputs.specs.Settings.{settled}
use Rattle.lab_inputs.proofs.Steps.{ok_same}
use Rattle.lab_inputs.proofs.Within.{is_ready}
use Rattle.player_core.specs.Scene.{IsTask}
use Rattle.session_report.specs.Regret.{AreScores, Scores}
use Rattle.session_report.specs.declared.regret.Top.TheVariants as top
use Rattle.session_report.proofs.Totals.{regrets_low, worst_low}
use Rattle.abrlab_top.specs.declared.ending.Ending.{Ending}
use Rattle.abrlab_top.specs.Answer.{Answer, printed, unless_stopped}
use Rattle.abrlab_top.specs.Choice.{AreBounds, ChosenBy}
use Rattle.abrlab_top.specs.Ending.{status_of}
use Rattle.abrlab_top.specs.Plan.{certificate_on, task_on}
use Rattle.abrlab_top.specs.Proves.{BoundsRegrets, IsBehind, TellsRegrets}
use Rattle.abrlab_top.specs.Regret.{best_on, bests_on, first_spent, near_regret, ranked_text, regret, regret_text, score_on, scores_over, unless_any_spent}
use Rattle.abrlab_top.specs.Runs.{Runs, World}
use Rattle.abrlab_top.proofs.Behind.{are_scores, best_bounds, best_settles}
use Rattle.abrlab_top.proofs.Options.{calm_words}
use Rattle.abrlab_top.proofs.Proved.{about_ok, by_regrets, done_by, ready_by, settled_ok, task_with}

any_unspent : (i : InputValues) (o : Option (ℕ × ℕ)) (a : Answer) → unless_any_spent i o ≡ Ok a → printed (regret_text i) ≡ a
any_unspent i None a e = ok_same _ (printed (regret_text i)) a refl e
any_unspent i (Some spent) a e = cc

-- what `compare --regret` went through to its answer
regretted_ok : (budget : ℕ) (i : InputValues) (a : Answer) → regret budget i ≡ Ok a → (settled i ≡ Ok i) × (printed (regret_text i) ≡ a)
unfolding regret
regretted_ok budget i a h =
    let x = then_ok (unless_stopped (settled i)) (λ ready. unless_any_spent ready (first_spent ready (Some budget) 1 ready.networks)) a h in
    let s = settled_ok i x.0 x.1 in
    (s.0, any_unspent i (first_spent i (Some budget) 1 i.networks) a (subst (λ (j : InputValues). unless_any_spent j (first_spent j (Some budget) 1 j.networks) ≡ Ok a) (sym s.1) x.2))

-- what `compare --regret --near` went through to its answer
bounded_ok : (bounds : List ℤ) (i : InputValues) (a : Answer) → near_regret bounds i ≡ Ok a → (settled i ≡ Ok i) × (printed (ranked_text top.Bound i bounds) ≡ a)
unfolding near_regret
bounded_ok bounds i a h =
    let x = then_ok (unless_stopped (settled i)) (λ ready. Ok (printed (ranked_text top.Bound ready bounds))) a h in
    let s = settled_ok i x.0 x.1 in
    (s.0, ap (λ (j : InputValues). printed (ranked_text top.Bound j bounds)) s.1 ∙ ok_same _ _ a refl x.2)

-- the scores of a rule beside bounds can be summed
scores_fit : (i : InputValues) (rule : RuleKind) → KindFits rule i.film → i.setup.abandon ≡ false → (networks : List (Text × List Period)) (tops : List ℤ) → All (λ (n : Text × List Period). IsTask (task_on i n.1)) networks → AreBounds i networks tops
    → All AreScores (scores_over i networks tops rule)
scores_fit i rule fits off [] [] tasks bounds = All-nil AreScores
scores_fit i rule fits off [] (z ∷ tops) tasks bounds = absurd bounds
scores_fit i rule fits off (n ∷ networks) [] tasks bounds = absurd bounds
scores_fit i rule fits off (n ∷ networks) (z ∷ tops) tasks bounds =
    All-cons AreScores (score_on i n.1 rule, z) (scores_over i networks tops rule)
    (are_scores i n.1 rule z (All-head (λ (m : Text × List Period). IsTask (task_on i m.1)) n networks tasks) bounds.0 fits off)
    (scores_fit i rule fits off networks tops (All-tail (λ (m : Text × List Period). IsTask (task_on i m.1)) n networks tasks) bounds.1)

-- no rule scores more than bounds, on networks each of which is a task
rule_behind : (i : InputValues) (tops : List ℤ) (rule : RuleKind) → All (λ (n : Text × List Period). IsTask (task_on i n.1)) i.networks → AreBounds i i.networks tops → KindFits rule i.film → i.setup.abandon ≡ false → IsBehind i tops rule
rule_behind i tops rule tasks bounds fits off =
    let pairs = scores_fit i rule fits off i.networks tops tasks bounds in
    record {
      scores = All-weaker AreScores (λ (s : Scores). s.0 ≤ℤ s.1) (λ s h. h.order) (scores_over i i.networks tops rule) pairs;
      regret = regrets_low (scores_over i i.networks tops rule) pairs;
      worst = worst_low (scores_over i i.networks tops rule);
    }

-- the best scores are bounds
bests_bound : (i : InputValues) (networks : List (Text × List Period)) → All (λ (n : Text × List Period). IsTask (task_on i n.1)) networks → AreBounds i networks (map (λ (n : Text × List Period). best_on i n.1) networks)
bests_bound i [] tasks = tt
bests_bound i (n ∷ networks) tasks = (
  best_bounds i n.1 (All-head (λ (m : Text × List Period). IsTask (task_on i m.1)) n networks tasks),
  bests_bound i networks (All-tail (λ (m : Text × List Period). IsTask (task_on i m.1)) n networks tasks),
)

-- what was read of the words of `compare --regret`, once its settings fit
record RankedBy (c : CommandWords) (files : Files) (i : InputValues) : Type 0 where
  tasks : All (λ (n : Text × List Period). IsTask (task_on i n.1)) i.networks
  rules : All (λ (rule : Text × RuleKind). KindFits rule.1 i.film) i.rules
  off : i.setup.abandon ≡ false

ranked_by : (c : CommandWords) (files : Files) (i : InputValues) → IsWithinLimits c → c.verb ≡ verb.Compare → c.regret ≡ true → inputs_of c files ≡ Ok i → settled i ≡ Ok i → RankedBy c files i
ranked_by c files i limits v regrets read fits =
    let ready = is_ready c files i i read fits in
    let film : HasFilm c.verb = subst HasFilm (sym v) tt in
    let traces : All (λ (n : Text × List Period). IsTrace n.1) i.networks = subst (All (λ (n : Text × List Period). IsTrace n.1)) (sym (ap (λ (j : InputValues). j.networks) ready.inputs)) ready.within.networks in
    record {
      tasks = λ k n low. task_with c files i _ limits film ready (traces k n low);
      rules = ready.fits.rules;
      off = ap (λ (j : InputValues). j.setup.abandon) ready.inputs ∙ calm_words c limits v regrets;
    }

-- the headline of `compare --regret`
pub tells_regrets : (line : List Text) (old new : World) (e : Ending) (r : ℕ) → Runs line old e new → r ≡ status_of e → TellsRegrets line old r new
tells_regrets line old new e r h k c files asked v regrets near t s =
    let d = done_by line old new e h (sym k ∙ s) c files asked t in
    let x = about_ok (regret c.budget) c files d.answer (by_regrets h.ends.choice false c files d.answer v regrets near d.gives) in
    let i = x.0 in
    let y = regretted_ok c.budget i d.answer x.2 in
    let by = ranked_by c files i d.limits v regrets x.1 y.0 in
    record {
      inputs = i;
      read = ready_by c files i x.1 y.0;
      bests = λ k n low. let best = best_settles (task_on i _) (by.tasks k n low) in ((certificate_on None (task_on i _)).plan, best);
      behind = λ k rule low. rule_behind i (bests_on i) _ by.tasks (bests_bound i i.networks by.tasks) (by.rules k rule low) by.off;
      out = subst (λ (a : Answer). Grew old.out.written a.text new.out.written) (sym y.1) d.out;
      err = d.err;
    }

-- the headline of `compare --regret --near`
pub bounds_regrets : (line : List Text) (old new : World) (e : Ending) (r : ℕ) → Runs line old e new → r ≡ status_of e → BoundsRegrets line old r new
bounds_regrets line old new e r h k c files asked v regrets near t s =
    let d = done_by line old new e h (sym k ∙ s) c files asked t in
    let x = about_ok (near_regret h.ends.choice.bounds) c files d.answer (by_regrets h.ends.choice true c files d.answer v regrets near d.gives) in
    let i = x.0 in
    let y = bounded_ok h.ends.choice.bounds i d.answer x.2 in
    let by = ranked_by c files i d.limits v regrets x.1 y.0 in
    let chosen : ChosenBy verb.Compare c h.ends.choice i = subst (λ w. ChosenBy w c h.ends.choice i) v (d.chosen i x.1) in
    let bounds = chosen regrets near in
    record {
      inputs = i;
      read = ready_by c files i x.1 y.0;
      bounds = h.ends.choice.bounds;
      are = bounds;
      behind = λ k rule low. rule_behind i h.ends.choice.bounds _ by.tasks bounds (by.rules k rule low) by.off;
      out = subst (λ (a : Answer). Grew old.out.written a.text new.out.written) (sym y.1) d.out;
      err = d.err;
    }
