use Rattle.std.proofs.Common.{◌≡◌, take}
use Rattle.lab_model.specs.declared.trace.Period.{Period}
use Rattle.lab_model.specs.Cycle.{cycle_ms}
use Rattle.network_clock.specs.Flow.{AreSums}
use Rattle.network_clock.proofs.meter.starts_of.Given as goal

abbrev pub invariant-loop-p : goal.invariant-loop-p
invariant-loop-p l = record {
  sum : l.sum ≡ cycle_ms (take l.p-index l.periods);
  sums : AreSums (λ (p : Period). p.duration_ms) l.periods l.p-index l.starts.items;
}
