use Rattle.frontier_planner.proofs.Adding.{Appending}
use Rattle.frontier_planner.proofs.chains.append.Given as goal

abbrev pub invariant-loop-candidate : goal.invariant-loop-candidate
invariant-loop-candidate l = Appending l.initial.arena l.arena l.chain l.last l.frontier l.before l.candidate-index
