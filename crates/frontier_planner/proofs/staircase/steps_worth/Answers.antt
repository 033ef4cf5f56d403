use Rattle.std.proofs.Common.{◌∙◌, sym}
use Rattle.frontier_planner.proofs.Steps.{int_le_false, worth_more}
use Rattle.frontier_planner.proofs.staircase.steps_worth.Goals as goal

pub returns-else-is_worth-clause-above : goal.returns-else-is_worth-clause-above
returns-else-is_worth-clause-above c =
    worth_more c.args.steps.now c.args.l.v c.loop-count.count _ c.requires.rising c.loop-count-test.true (int_le_false _ _ (sym c.is_worth.ensures ∙ c.if-is_worth.false))
