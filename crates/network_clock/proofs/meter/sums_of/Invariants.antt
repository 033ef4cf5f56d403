use Rattle.std.proofs.Common.{◌≡◌, ◌*◌, ◌≤◌, take}
use Rattle.lab_model.specs.declared.trace.Period.{Period}
use Rattle.lab_model.specs.Cycle.{cycle_bits, cycle_ms}
use Rattle.network_clock.specs.Flow.{AreSums}
use Rattle.network_clock.proofs.meter.sums_of.Given as goal

abbrev pub invariant-loop-p : goal.invariant-loop-p
invariant-loop-p l = record {
  sum : l.sum ≡ cycle_bits (take l.p-index l.periods);
  fits : l.sum ≤ 10000000000 * cycle_ms (take l.p-index l.periods);
  sums : AreSums (λ (p : Period). p.duration_ms * p.bandwidth) l.periods l.p-index l.sums.items;
}
