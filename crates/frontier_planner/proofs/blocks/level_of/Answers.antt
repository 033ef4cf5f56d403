use Rattle.frontier_planner.proofs.Passed.{built_more}
use Rattle.frontier_planner.proofs.blocks.level_of.Goals as goal

pub loop-begin-preserved : goal.loop-begin-preserved
loop-begin-preserved c =
    let over = rw c.min.ensures at c.in_ok-staircase_over.ensures.over in
    rw (c.in_ok-push.ensures.items, c.min.ensures)
    (built_more c.args.chain.now c.args.size c.loop-begin.blocks.items c.loop-begin.begin c.in_ok-staircase_over.field-0 c.loop-begin.invariant c.loop-begin-test.true c.in_ok-staircase_over.ensures.rising over)
