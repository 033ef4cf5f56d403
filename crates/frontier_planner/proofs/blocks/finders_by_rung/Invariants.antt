use Rattle.std.proofs.Common.{◌≡◌, length}
use Rattle.frontier_planner.proofs.Passed.{EachHas}
use Rattle.frontier_planner.proofs.blocks.finders_by_rung.Given as goal

abbrev pub invariant-loop-chain : goal.invariant-loop-chain
invariant-loop-chain l = record {
  count : length l.finders.items ≡ l.chain-index;
  each : EachHas l.chains l.finders.items l.chain-index;
}
