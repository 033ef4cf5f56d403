use Rattle.std.proofs.Common.{◌≡◌, ◌++◌, map}
use Rattle.lab_model.specs.Ladder.{rungs_below}
use Rattle.frontier_planner.specs.Layers.{chain_read}
use Rattle.labels.specs.Parts.{chain_parts}
use Rattle.frontier_planner.proofs.names.add_named.Given as goal

abbrev pub invariant-loop-rung : goal.invariant-loop-rung
invariant-loop-rung l =
    map chain_parts l.chains.items ≡ map chain_parts l.initial.chains.items ++ map (λ q. chain_read l.brief.grid l.brief.scene l.segment q) (rungs_below l.rung)
