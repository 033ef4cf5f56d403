use Rattle.std.proofs.Common.{◌≡◌, map}
use Rattle.std.specs.List.{flat_map}
use Rattle.lab_model.specs.Ladder.{rungs_below}
use Rattle.frontier_planner.specs.Layers.{chains_read}
use Rattle.labels.specs.Parts.{chain_parts}
use Rattle.frontier_planner.proofs.names.chains.Given as goal

abbrev pub invariant-loop-segment : goal.invariant-loop-segment
invariant-loop-segment l = map chain_parts l.chains.items ≡ flat_map (λ i. chains_read l.brief.grid l.brief.scene i) (rungs_below l.segment)
