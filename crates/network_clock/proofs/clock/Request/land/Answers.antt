use Rattle.std.proofs.Common.{◌≡◌, ◌+◌, ◌*◌, arith}
use Rattle.lab_model.specs.Cycle.{IsTrace, cycle_bits}
use Rattle.network_clock.specs.Flow.{Opens, Reaches, carried_in, flow}
use Rattle.network_clock.specs.Network.{done_at, first_at, period_at}
use Rattle.network_clock.proofs.Downloads.{done_found, first_before_done}
use Rattle.network_clock.proofs.Flows.{carries_enough, trace_flows}
use Rattle.network_clock.proofs.Openings.{done_reached, first_opens}
use Rattle.network_clock.proofs.Order.{first_in_first_out}
use Rattle.network_clock.proofs.Sums.{sum_below_grows}
use Rattle.network_clock.proofs.clock.Request.land.Goals as goal
use Rattle.network_clock.proofs.clock.Request.land.Goals.{After-reach_from-done}

pub reach_from-done-requires-clause-soon : goal.reach_from-done-requires-clause-soon
reach_from-done-requires-clause-soon c =
    let ps = c.self.inside.bits.now in
    let first = c.self.inside.first.instant in
    let soon = c.self.invariant.2.soon in
    let early = c.self.invariant.0 in
    let enough = carries_enough ps c.self.invariant.1 first 300000000 (omega arith) in
    let grows = sum_below_grows (λ i. carried_in (period_at ps i)) (first + 300000000) 3000000000000000 (omega (arith, soon, early)) in
    omega (arith, enough, grows, c.carried_since-begin.ensures.value)

opens : (c : After-reach_from-done) → Opens c.self.inside.bits.now c.self.inside.start 100000000 c.self.inside.first.instant
opens c = c.self.invariant.2

trace : (c : After-reach_from-done) → IsTrace c.args.self.now.periods
trace c = rw (← c.self.view_is) c.self.invariant.1

first : (c : After-reach_from-done) → c.self.inside.first.instant ≡ first_at c.args.self.now.periods c.args.self.now.start c.args.bits
first c = rw (← c.self.view_is) (first_opens c.self.inside.bits.now c.self.inside.start c.args.bits c.self.inside.first.instant (opens c))

done : (c : After-reach_from-done) → c.reach_from-done.result.instant ≡ done_at c.args.self.now.periods c.args.self.now.start c.args.bits
done c =
    let ps = c.self.inside.bits.now in
    let first = c.self.inside.first.instant in
    let before = c.self.inside.first.place.cycles * cycle_bits ps in
    let wanted : before + (c.carried_since-begin.result + 1000 * c.args.bits) ≡ flow carried_in ps first + 1000 * c.args.bits = omega (arith, c.carried_since-begin.ensures.value) in
    let r : Reaches ps (flow carried_in ps first + 1000 * c.args.bits) c.reach_from-done.result.instant = rw (← wanted) c.reach_from-done.ensures.reaches in
    rw (← c.self.view_is) (done_reached ps c.self.invariant.1 c.self.inside.start c.args.bits first c.reach_from-done.result.instant c.requires.bits.0 c.requires.bits.1 (opens c) r)

pub returns-clause-first : goal.returns-clause-first
returns-clause-first c = first c

pub returns-clause-done : goal.returns-clause-done
returns-clause-done c = done c

pub returns-clause-carries : goal.returns-clause-carries
returns-clause-carries c =
    let before = first_before_done (period_at c.args.self.now.periods) (trace_flows c.args.self.now.periods (trace c)) (omega arith) c.args.self.now.start c.args.bits c.requires.bits.0 c.requires.bits.1 in
    let from = first c in
    let end = done c in
    omega (arith, before, from, end)

pub returns-clause-ends : goal.returns-clause-ends
returns-clause-ends c =
    let found = (done_found (period_at c.args.self.now.periods) (trace_flows c.args.self.now.periods (trace c)) (omega arith) c.args.self.now.start c.args.bits c.requires.bits.1).0 in
    let end = done c in
    omega (arith, found, end)

pub returns-clause-ordered : goal.returns-clause-ordered
returns-clause-ordered c = λ later more before fewer few.
    let ordered = first_in_first_out c.args.self.now.periods (trace c) c.args.self.now.start later c.args.bits more before fewer few in
    let end = done c in
    omega (arith, ordered, end)
