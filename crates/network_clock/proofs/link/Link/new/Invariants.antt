use Rattle.std.proofs.Common.{◌-◌, ◌≤◌}
use Rattle.network_clock.specs.Shared.{AreLanes}
use Rattle.network_clock.proofs.link.Link.new.Given as goal

abbrev pub invariant-loop-takers : goal.invariant-loop-takers
invariant-loop-takers l = record {
  some : 2 ≤ l.takers;
  lanes : AreLanes l.trace (l.takers - 2) l.lanes.items;
}
