use Rattle.std.proofs.Common.{◌*◌, arith}
use Rattle.lab_model.specs.declared.trace.Period.{Period}
use Rattle.network_clock.proofs.Meters.{sums_last, total_positive}
use Rattle.network_clock.proofs.meter.Meter.total.Goals as goal

pub returns-clause-some : goal.returns-clause-some
returns-clause-some c =
    let ps = c.self.inside.periods in
    let last = sums_last (λ (p : Period). p.duration_ms * p.bandwidth) ps.items c.self.inside.sums.items c.len.result c.index.result.now c.self.invariant.sums (omega (arith, c.len.ensures, ps.ok.0)) c.index.ensures in
    let some = total_positive ps.items c.self.invariant.paced in
    omega (arith, last, some)
