use Rattle.std.proofs.Common.{take}
use Rattle.frontier_planner.proofs.FirstParents.{SweptFirst}
use Rattle.frontier_planner.proofs.grow.sweep.Given as goal

abbrev pub invariant-loop-candidate : goal.invariant-loop-candidate
invariant-loop-candidate l = SweptFirst (take l.candidate-index l.candidates) l.kept.items l.staircase.steps.items
