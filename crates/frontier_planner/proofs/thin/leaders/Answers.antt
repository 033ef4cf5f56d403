use Rattle.std.proofs.Common.{get_or, subst, inl}
use Rattle.std.proofs.lemmas.List.{take_more}
use Rattle.lab_model.specs.declared.label.Label.{Label}
use Rattle.frontier_planner.specs.Thinned.{no_followed}
use Rattle.frontier_planner.specs.Sweep.{HasUnder}
use Rattle.frontier_planner.proofs.Thinned.{led_dropped, led_kept, led_none, none_after_rung}
use Rattle.frontier_planner.proofs.thin.leaders.Goals as goal
use Rattle.frontier_planner.proofs.thin.leaders.Goals.{then-not-covers+in_ok-push+then-not-covers-2+in_ok-add, then-not-covers+in_ok-push+else-not-covers-2, else-not-covers}

pub loop-reached-init : goal.loop-reached-init
loop-reached-init c = rw (c.new-kept.ensures.items, c.new-staircase.ensures) (led_none _)

pub covers-requires : goal.covers-requires
covers-requires c = c.loop-reached.invariant.rising

pub loop-reached-preserved : goal.loop-reached-preserved
loop-reached-preserved c =
    let labels = c.args.labels.now in
    let i = c.loop-reached.reached-index in
    let next = get_or labels i no_followed in
    let so = c.loop-reached.invariant in
    rw (take_more labels i no_followed c.loop-reached-test.true)
    (elim c.if-not-covers.branch [
      | then-not-covers+in_ok-push+then-not-covers-2+in_ok-add w ↦
          rw (w.kept-is, w.staircase-is, w.in_ok-push.ensures.items) (led_kept _ _ _ _ _ next so w.in_ok-add.ensures.rising (λ p v h. (w.in_ok-add.ensures.adds p v).0 h))
      | then-not-covers+in_ok-push+else-not-covers-2 w ↦
          rw (w.kept-is, w.staircase-is, w.in_ok-push.ensures.items) (led_kept _ _ _ _ _ next so so.rising (λ p v h. inl h))
      | else-not-covers w ↦
          rw (w.kept-is, w.staircase-is) (led_dropped _ _ _ _ next so (none_after_rung labels i no_followed c.requires.sorted c.loop-reached-test.true) (subst (λ (x : Label). HasUnder c.loop-reached.staircase.steps.items x.p x.v) c.with_slack.ensures (c.covers.ensures.0 w.if-not-covers.false)))
    ])
