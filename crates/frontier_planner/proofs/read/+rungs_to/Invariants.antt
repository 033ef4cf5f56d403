use Rattle.frontier_planner.proofs.read.+rungs_to.Given as goal

abbrev pub decreases-rungs_to : goal.decreases-rungs_to
decreases-rungs_to l = l.segment
