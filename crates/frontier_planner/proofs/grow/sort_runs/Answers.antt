use Rattle.std.proofs.lemmas.List.Sorted.{IsPermutation-trans}
use Rattle.frontier_planner.proofs.grow.sort_runs.Goals as goal

pub loop-from-preserved : goal.loop-from-preserved
loop-from-preserved c = IsPermutation-trans _ _ _ c.loop-from.invariant c.sort_run.ensures
