use Rattle.std.proofs.Common.{◌≡◌, ◌+◌, ◌*◌, ◌∙◌, ap, arith}
use Rattle.lab_model.specs.Cycle.{cycle_bits}
use Rattle.network_clock.specs.declared.job.Job.{Job}
use Rattle.network_clock.specs.Flow.{IsFlowing, Reaches, carried_in, flow, parted_trace}
use Rattle.network_clock.specs.Network.{lands_on, period_at}
use Rattle.network_clock.proofs.Openings.{lands_reached, opens_now, reached_after}
use Rattle.network_clock.proofs.Lanes.{lane_flows, lane_lands}
use Rattle.network_clock.proofs.Sums.{sum_below_grows}
use Rattle.network_clock.proofs.link.Link.lands.Goals as goal
use Rattle.network_clock.proofs.link.Link.lands.Goals.{After-bits-lane, After-reach_from}

-- the periods of the lane
lane_is : (c : After-bits-lane) → c.bits-lane.result.now ≡ parted_trace c.args.takers c.args.self.now.periods
lane_is c = c.bits-lane.ensures ∙ c.lane-meters.ensures.value

-- bits come on the lane
flows : (c : After-bits-lane) → IsFlowing 1713000000 (period_at c.bits-lane.result.now)
flows c = rw (lane_is c) (lane_flows c.args.takers c.args.self.now.periods c.lane-meters.ensures.trace c.lane-meters.ensures.few)

pub reach_from-requires-clause-soon : goal.reach_from-requires-clause-soon
reach_from-requires-clause-soon c =
    let ps = c.bits-lane.result.now in
    let from = c.requires.from in
    let left = c.requires.left in
    let enough = (flows (goal.at.reach_from-requires-clause-soon c).After-bits-lane).carries c.args.from 1713000000 (omega arith) in
    let grows = sum_below_grows (λ i. carried_in (period_at ps i)) (c.args.from + 1713000000) 3000000000000000 (omega (arith, from)) in
    omega (arith, enough, grows, left, c.carried_since.ensures.value)

reached : (c : After-reach_from) → Reaches c.bits-lane.result.now (flow carried_in c.bits-lane.result.now c.args.from + c.args.left) c.reach_from.result.instant
reached c =
    let ps = c.bits-lane.result.now in
    let before = c.place_at-place.result.cycles * cycle_bits ps in
    let wanted : before + (c.carried_since.result + c.args.left) ≡ flow carried_in ps c.args.from + c.args.left = omega (arith, c.carried_since.ensures.value) in
    rw (← wanted) c.reach_from.ensures.reaches

pub returns-clause-lands : goal.returns-clause-lands
returns-clause-lands c =
    let s = goal.at.returns-clause-lands c in
    let qs = c.bits-lane.result.now in
    let j : Job = record { credit = 0; left = c.args.left } in
    lands_reached qs (flows s.After-bits-lane) (omega arith) c.args.from c.args.from c.reach_from.result.instant j c.requires.left.0 c.requires.left.1 (opens_now qs c.args.from) (reached s.After-reach_from)
    ∙ ap (λ ps. lands_on (period_at ps) c.args.from j) (lane_is s.After-bits-lane)
    ∙ lane_lands c.args.takers c.args.self.now.periods c.lane-meters.ensures.trace c.args.from j

pub returns-clause-later : goal.returns-clause-later
returns-clause-later c = reached_after c.bits-lane.result.now c.args.from c.args.left c.reach_from.result.instant c.requires.left.0 (reached (goal.at.returns-clause-later c).After-reach_from)
