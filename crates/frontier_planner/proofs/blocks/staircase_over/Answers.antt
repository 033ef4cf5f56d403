use Rattle.std.proofs.Common.{get_or, refl}
use Rattle.labels.specs.Read.{no_label}
use Rattle.frontier_planner.proofs.Passed.{over_added, over_more}
use Rattle.frontier_planner.proofs.blocks.staircase_over.Goals as goal
use Rattle.frontier_planner.proofs.blocks.staircase_over.Goals.{then-not-covers+in_ok-add, else-not-covers}

pub loop-place-preserved : goal.loop-place-preserved
loop-place-preserved c =
    let chain = c.args.chain.now in
    let place = c.loop-place.place in
    elim c.if-not-covers.branch [
      | then-not-covers+in_ok-add w ↦
          rw w.staircase-is (record {
            rising = w.in_ok-add.ensures.rising;
            over = over_added chain c.args.from place _ _ (get_or chain place no_label) refl w.in_ok-add.ensures.adds c.loop-place.invariant.over;
          })
      | else-not-covers w ↦
          rw w.staircase-is (record {
            rising = c.loop-place.invariant.rising;
            over = over_more chain c.args.from place _ c.loop-place.invariant.over (c.covers.ensures.0 w.if-not-covers.false);
          })
    ]
