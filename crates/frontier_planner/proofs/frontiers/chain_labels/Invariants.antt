use Rattle.std.proofs.Common.{◌≡◌, map}
use Rattle.label_arena.specs.declared.walk.Step.{Step}
use Rattle.frontier_planner.proofs.frontiers.chain_labels.Given as goal

abbrev pub invariant-loop-step : goal.invariant-loop-step
invariant-loop-step l = l.labels.items ≡ map (λ (s : Step). s.label) l.yielded
