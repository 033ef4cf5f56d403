use Rattle.std.proofs.Common.{◌≡◌, ◌*◌, ◌≤◌, take}
use Rattle.lab_model.specs.Cycle.{cycle_bits, cycle_ms}
use Rattle.lab_model.proofs.trace.capacity_of.Given as goal

abbrev pub invariant-loop-p : goal.invariant-loop-p
invariant-loop-p l = record {
  sum : l.total ≡ cycle_bits (take l.p-index l.periods);
  fits : l.total ≤ 10000000000 * cycle_ms (take l.p-index l.periods);
}
