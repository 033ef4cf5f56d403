use Rattle.std.proofs.Common.{◌≡◌, map}
use Rattle.lab_model.specs.Ladder.{rungs_below}
use Rattle.labels.specs.Grown.{grown}
use Rattle.frontier_planner.specs.Layers.{held}
use Rattle.frontier_planner.proofs.frontiers.layer_of.Given as goal

abbrev pub invariant-loop-rung : goal.invariant-loop-rung
invariant-loop-rung l = held l.chains.items ≡ map (grown l.brief.grid l.brief.scene l.segment) (rungs_below l.rung)
