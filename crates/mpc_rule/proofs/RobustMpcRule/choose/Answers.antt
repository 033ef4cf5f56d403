use Rattle.std.proofs.Common.{◌≡◌, ◌∙◌, ◌-◌, ◌<◌, ap, sym, length, min, arith}
use Rattle.std.specs.Prelude.{slice_index}
use Rattle.std.proofs.lemmas.Bool.{eqb-false}
use Rattle.lab_model.specs.Film.{rungs_of, segments_of}
use Rattle.lab_model.specs.Horizon.{horizon_score}
use Rattle.lab_model.specs.Mpc.{best_list, lists_of}
use Rattle.lab_model.proofs.Choices.{best_list_fits}
use Rattle.mpc_rule.specs.Recall.{Recall}
use Rattle.mpc_rule.proofs.History.{choice_is}
use Rattle.mpc_rule.proofs.RobustMpcRule.choose.Goals as goal

pub invariant_of-outlook : goal.invariant_of-outlook
invariant_of-outlook c = record {
  film = c.segments.ensures.film;
  weights = c.count.ensures.weighing;
  setup = c.requires.setup;
  some = omega arith;
  few = omega arith;
  segments = omega arith;
  level = c.requires.level;
  last = c.requires.last;
  rate = c.rate_ahead.ensures.limits;
}

pub returns-clause-rung : goal.returns-clause-rung
returns-clause-rung c =
    let m = c.args.m.now in let x = c.args.c.now in let film = c.segments.ensures.film in
    rw c.best_rung.ensures (best_list_fits (horizon_score m c.args.set.now c.rate_ahead.result x.next x.level x.last) (rungs_of m) c.min.result (omega (arith, film.rungs.0)))

pub returns-clause-choice : goal.returns-clause-choice
returns-clause-choice c = λ history s.
    let m = c.args.m.now in let set = c.args.set.now in let x = c.args.c.now in
    let horizon = ap (λ (r : Recall). r.horizon) c.self.view_is in
    let rates = ap (λ (r : Recall). length r.rates) c.self.view_is in
    let some : 0 < length c.args.self.now.rates = let no = eqb-false _ _ (sym c.is_empty.ensures ∙ c.if-is_empty.false) in omega (arith, rates, no) in
    let far : c.min.result ≡ min c.args.self.now.horizon (segments_of m - x.next) = omega (arith, horizon, c.min.ensures, c.segments.ensures.value) in
    c.best_rung.ensures
    ∙ (λ i. slice_index (best_list (horizon_score m set (c.rate_ahead.ensures.value i) x.next x.level x.last) (lists_of (rungs_of m) (far i))) 0)
    ∙ sym (choice_is c.args.self.now m set x history s some)
