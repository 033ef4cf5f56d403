use Rattle.std.proofs.Common.{◌+◌, ◌*◌, ◌<◌, ◌≤◌, ap, arith}
use Rattle.lab_model.specs.Cycle.{cycle_bits}
use Rattle.network_clock.specs.Flow.{carried_in, flow}
use Rattle.network_clock.proofs.Meters.{ReachesIn, reached_at, stands}
use Rattle.network_clock.proofs.Places.{Found, cycles_few, found_later}
use Rattle.network_clock.proofs.meter.Meter.reach_from.Goals as goal
use Rattle.network_clock.proofs.meter.Meter.reach_from.Goals.{After-cycle}

reached : (c : After-cycle) → ReachesIn c.self.inside.periods.items c.place_from-period.result c.within_cycle-rest.result.1 (c.index-2.result.now + c.div_ceil.result)
reached c =
    let k = c.place_from-period.result in
    let above = rw c.deref.ensures.value at c.place_from-period.ensures.above in
    let below = rw c.deref.ensures.value at c.place_from-period.ensures.below in
    let place = rw c.deref.ensures.value at c.place_from-period.ensures.place in
    let ps = c.self.inside.periods.items in
    let starts = c.self.inside.starts.items in
    let sums = c.self.inside.sums.items in
    let m = c.self.invariant in
    let s = stands ps starts sums k c.index-2.result.now c.index.result.now c.index-3.result.now m (omega (arith, place, m.sums.count)) c.index-2.ensures c.index.ensures c.index-3.ensures in
    rw c.div_ceil.ensures (reached_at ps starts sums k c.index-2.result.now c.index.result.now c.index-3.result.now c.within_cycle-rest.result.1 s above below)

found : (c : After-cycle) → Found c.args.self.now c.within_cycle-rest.result.0.cycles c.place_from-period.result (c.args.from.cycles * cycle_bits c.args.self.now + c.args.wanted) (c.within_cycle-rest.result.0.cycles * c.cycle.result + (c.index-2.result.now + c.div_ceil.result))
found c =
    let place = rw c.deref.ensures.value at c.place_from-period.ensures.place in
    let parts = rw (← c.self.view_is) at c.within_cycle-rest.ensures.same in
    rw (c.cycle.ensures.value, ← c.self.view_is)
    (found_later c.self.inside.periods.items c.within_cycle-rest.result.0.cycles c.place_from-period.result c.within_cycle-rest.result.1 _ (c.index-2.result.now + c.div_ceil.result) (omega (arith, place, c.self.invariant.sums.count)) parts (reached c))

cycles_fit : (c : After-cycle) → c.within_cycle-rest.result.0.cycles * c.cycle.result ≤ 3000000000000000
cycles_fit c =
    let ps = c.args.self.now in
    let cycles = c.within_cycle-rest.result.0.cycles in
    let below : cycles * cycle_bits ps < flow carried_in ps 3000000000000000 = omega (arith, c.within_cycle-rest.ensures.same, c.within_cycle-rest.ensures.more, c.requires.soon) in
    let few = (cycles_few ps cycles 3000000000000000 c.cycle.ensures.paced below).0 in
    let same = ap (λ n. cycles * n) c.cycle.ensures.value in
    omega (arith, few, same)

pub overflow_mul-result : goal.overflow_mul-result
overflow_mul-result c = let few = cycles_fit (goal.at.overflow_mul-result c).After-cycle in omega (arith, few)

pub overflow_add-result : goal.overflow_add-result
overflow_add-result c =
    let few = cycles_fit (goal.at.overflow_add-result c).After-cycle in
    let all = rw c.self.view_is at (reached (goal.at.overflow_add-result c).After-cycle).all in
    omega (arith, few, all, c.cycle.ensures.paced.cycle)

pub returns-clause-reaches : goal.returns-clause-reaches
returns-clause-reaches c = (found (goal.at.returns-clause-reaches c).After-cycle).reaches

pub returns-clause-some : goal.returns-clause-some
returns-clause-some c = (found (goal.at.returns-clause-some c).After-cycle).some

pub returns-clause-last : goal.returns-clause-last
returns-clause-last c = (found (goal.at.returns-clause-last c).After-cycle).last

pub returns-clause-end : goal.returns-clause-end
returns-clause-end c = (found (goal.at.returns-clause-end c).After-cycle).end
