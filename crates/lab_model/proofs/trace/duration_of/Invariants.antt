use Rattle.std.proofs.Common.{◌≡◌, ◌*◌, ◌≤◌, take}
use Rattle.lab_model.specs.Cycle.{cycle_ms}
use Rattle.lab_model.proofs.trace.duration_of.Given as goal

abbrev pub invariant-loop-p : goal.invariant-loop-p
invariant-loop-p l = record {
  sum : l.total ≡ cycle_ms (take l.p-index l.periods);
  fits : l.total ≤ 10000000 * l.p-index;
}
