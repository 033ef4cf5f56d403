use Rattle.std.proofs.Common.{arith}
use Rattle.lab_model.specs.declared.trace.Period.{Period}
use Rattle.network_clock.proofs.Meters.{sums_last}
use Rattle.network_clock.proofs.Periods.{cycle_positive}
use Rattle.network_clock.proofs.meter.Meter.cycle.Goals as goal

pub returns-clause-some : goal.returns-clause-some
returns-clause-some c =
    let ps = c.self.inside.periods in
    let last = sums_last (λ (p : Period). p.duration_ms) ps.items c.self.inside.starts.items c.len.result c.index.result.now c.self.invariant.starts (omega (arith, c.len.ensures, ps.ok.0)) c.index.ensures in
    let some = cycle_positive ps.items c.self.invariant.paced in
    omega (arith, last, some)
