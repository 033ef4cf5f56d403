use Rattle.std.proofs.Common.{◌≡◌, ◌+◌, ◌-◌, ◌*◌, ◌≤◌, arith}
use Rattle.lab_model.specs.Cycle.{cycle_bits}
use Rattle.network_clock.specs.Flow.{IsPaced, Touches, carried_in, flow}
use Rattle.network_clock.proofs.Meters.{Stands, bits_fit, stands}
use Rattle.network_clock.proofs.Places.{carried_most, carried_there}
use Rattle.network_clock.proofs.meter.Meter.carried_since.Goals as goal
use Rattle.network_clock.proofs.meter.Meter.carried_since.Goals.{After-index-3}

here : (c : After-index-3) → Stands c.self.inside.periods.items c.self.inside.starts.items c.self.inside.sums.items c.args.place.period c.index.result.now c.index-2.result.now c.index-3.result.now
here c =
    let touches : Touches c.self.inside.periods.items c.args.place c.args.instant = rw c.self.view_is c.requires in
    stands _ _ _ _ _ _ _ c.self.invariant touches.inside c.index.ensures c.index-2.ensures c.index-3.ensures

value : (c : After-index-3) → c.args.place.cycles * cycle_bits c.args.self.now + (c.index-2.result.now + (c.args.instant - (c.args.place.cycles * c.cycle.result + c.index.result.now)) * c.index-3.result.now.bandwidth) ≡ flow carried_in c.args.self.now c.args.instant
value c =
    let ps = c.self.inside.periods.items in
    let starts = c.self.inside.starts.items in
    let sums = c.self.inside.sums.items in
    let k = c.args.place.period in
    let touches : Touches ps c.args.place c.args.instant = rw c.self.view_is c.requires in
    rw (c.cycle.ensures.value, ← c.self.view_is) (carried_there ps starts sums c.args.place.cycles k c.index.result.now c.index-2.result.now c.index-3.result.now c.args.instant (here c) touches)

most : (c : After-index-3) → c.index-2.result.now + (c.args.instant - (c.args.place.cycles * c.cycle.result + c.index.result.now)) * c.index-3.result.now.bandwidth ≤ 1000000000000000000
most c =
    let h : IsPaced c.args.self.now = c.cycle.ensures.paced in
    let few = carried_most c.args.self.now c.args.place.cycles c.args.place.period c.args.instant _ h c.requires (value c) in
    let small = bits_fit c.args.self.now h in
    omega (arith, few, small)

pub overflow_mul-result : goal.overflow_mul-result
overflow_mul-result c = let few = most c in omega (arith, few)

pub overflow_add-result : goal.overflow_add-result
overflow_add-result c = let few = most c in omega (arith, few)

pub returns-clause-value : goal.returns-clause-value
returns-clause-value c = value c

pub returns-clause-least : goal.returns-clause-least
returns-clause-least c = let sum = rw c.self.view_is at (here c).sum_is in omega (arith, sum)

pub returns-clause-most : goal.returns-clause-most
returns-clause-most c = most c
