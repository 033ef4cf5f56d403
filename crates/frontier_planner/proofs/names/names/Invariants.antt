use Rattle.std.proofs.Common.{◌≡◌, take}
use Rattle.std.specs.List.{flat_map}
use Rattle.labels.specs.Grown.{grown}
use Rattle.frontier_planner.specs.Layers.{names_read}
use Rattle.frontier_planner.proofs.names.names.Given as goal

abbrev pub invariant-loop-l : goal.invariant-loop-l
invariant-loop-l l =
    l.names.items ≡ flat_map (λ x. names_read l.brief.grid l.brief.scene l.segment (l.rung, x)) (take l.l-index (grown l.brief.grid l.brief.scene l.segment l.rung))
