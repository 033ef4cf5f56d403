use Rattle.std.proofs.Common.{◌+◌, ◌-◌, ◌*◌, ◌/◌, ◌<◌, ap, div-mul-le_self, arith}
use Rattle.lab_model.specs.Cycle.{cycle_bits}
use Rattle.network_clock.specs.Flow.{carried_in, flow}
use Rattle.network_clock.proofs.Places.{cycles_few}
use Rattle.network_clock.proofs.meter.Meter.within_cycle.Goals as goal

pub overflow_add-place : goal.overflow_add-place
overflow_add-place c =
    let ps = c.args.self.now in
    let turns = (c.args.wanted - 1) / c.total-total.result in
    let whole = div-mul-le_self (c.args.wanted - 1) c.total-total.result in
    let total = ap (λ n. turns * n) c.total-total.ensures.value in
    let below : (c.args.from.cycles + turns) * cycle_bits ps < flow carried_in ps 3000000000000000 = omega (arith, c.requires.soon, whole, total, c.if-wanted-total.false) in
    let few = (cycles_few ps (c.args.from.cycles + turns) 3000000000000000 c.total-total.ensures.paced below).1 in
    omega (arith, few)
