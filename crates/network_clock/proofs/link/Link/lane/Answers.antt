use Rattle.std.proofs.Common.{◌≡◌, ◌+◌, ◌-◌, ◌∙◌, ap, length, sym, arith}
use Rattle.network_clock.specs.Flow.{delay_of, parted_trace}
use Rattle.network_clock.specs.Shared.{Shared}
use Rattle.network_clock.proofs.Lanes.{lane_delay, lane_paced, lane_placed, lane_whole}
use Rattle.network_clock.proofs.link.Link.lane.Goals as goal

pub returns-then-takers-lt2-clause-value : goal.returns-then-takers-lt2-clause-value
returns-then-takers-lt2-clause-value c =
    let one = c.if-takers-lt2.true in
    c.meters.ensures.value ∙ sym (lane_whole c.args.takers (omega (arith, one)) c.self.inside.clock) ∙ ap (λ (s : Shared). parted_trace c.args.takers s.periods) c.self.view_is

pub invariant_of-result : goal.invariant_of-result
invariant_of-result c =
    let ps = c.self.inside.clock in
    let more = c.if-takers-lt2.false in
    let takers = c.requires.takers in
    let most : c.args.self.now.most ≡ length c.self.inside.lanes.items + 1 = ap (λ (s : Shared). s.most) (sym c.self.view_is) in
    let two : c.args.takers - 2 + 2 ≡ c.args.takers = omega (arith, more) in
    let lane = lane_placed ps (length c.self.inside.lanes.items) c.self.inside.lanes.items c.args.takers (c.args.takers - 2) c.index.result.now c.self.invariant.2 (omega (arith, takers, most, more)) two c.index.ensures in (
      rw lane (lane_paced c.args.takers ps (omega (arith, takers, most, c.self.invariant.1)) c.self.invariant.0),
      c.delay.ensures.value ∙ sym (lane_delay c.args.takers ps) ∙ ap delay_of (sym lane),
    )
