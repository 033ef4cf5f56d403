use Rattle.std.proofs.Common.{◌≡◌, ◌+◌, ◌-◌, ◌∙◌, ap, ap₂, length, subst, sym, arith}
use Rattle.network_clock.specs.Flow.{parted_trace}
use Rattle.network_clock.specs.Shared.{AreLanes, shared}
use Rattle.network_clock.proofs.Lanes.{lanes_more, lanes_none}
use Rattle.network_clock.proofs.link.Link.new.Goals as goal

pub loop-takers-init : goal.loop-takers-init
loop-takers-init c = record { some = omega arith; lanes = rw c.new-lanes.ensures.items (lanes_none c.args.trace.now) }

pub loop-takers-preserved : goal.loop-takers-preserved
loop-takers-preserved c =
    let ps = c.args.trace.now in
    let some = c.loop-takers.invariant.some in
    let n = c.loop-takers.takers - 2 in
    let takers : c.loop-takers.takers ≡ n + 2 = omega (arith, some) in
    let lane = c.in_ok-new.ensures ∙ c.in_ok-lane.ensures.periods ∙ ap (λ k. parted_trace k ps) takers in
    let next : n + 1 ≡ c.loop-takers.takers + 1 - 2 = omega (arith, some) in
    record {
      some = omega (arith, some);
      lanes = subst (λ k. AreLanes ps k c.push.new.self.items) next (rw c.in_ok-push.ensures.items (lanes_more ps n c.loop-takers.lanes.items c.in_ok-new.field-0 c.loop-takers.invariant.lanes lane));
    }

pub invariant_of-result : goal.invariant_of-result
invariant_of-result c =
    let some = c.requires.players.0 in
    let few = c.requires.players.1 in
    let past = c.loop-takers-test.false in
    let last = c.loop-takers.auto.takers-end (omega (arith, some)) in
    let lanes = c.loop-takers.invariant.lanes in
    let count = lanes.count in (
      rw c.in_ok-clock.ensures.clock c.in_ok-clock.ensures.trace,
      omega (arith, count, last, few),
      rw c.in_ok-clock.ensures.clock (subst (λ k. AreLanes c.args.trace.now k c.loop-takers.lanes.items) (sym count) lanes),
    )

pub returns-clause-link : goal.returns-clause-link
returns-clause-link c =
    let some = c.requires.players.0 in
    let past = c.loop-takers-test.false in
    let last = c.loop-takers.auto.takers-end (omega (arith, some)) in
    let count = c.loop-takers.invariant.lanes.count in
    let players : length c.loop-takers.lanes.items + 1 ≡ c.args.players = omega (arith, count, past, last, some) in
    ap₂ shared c.in_ok-clock.ensures.clock players
