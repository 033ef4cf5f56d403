use Rattle.std.proofs.Common.{◌≡◌, ℕ, List, ◌+◌, ◌-◌, ◌*◌, ◌<◌, ◌≤◌, ◌∙◌, ap, subst, sym, arith}
use Rattle.lab_model.specs.declared.trace.Period.{Period}
use Rattle.lab_model.specs.Cycle.{cycle_bits}
use Rattle.network_clock.specs.declared.meter.Place.{Place}
use Rattle.network_clock.specs.Flow.{Reaches, Touches, carried_in, delay_of, flow, used_in}
use Rattle.network_clock.proofs.Places.{touches_bits}
use Rattle.network_clock.specs.Network.{period_at}
use Rattle.network_clock.proofs.Sums.{sum_below_grows}
use Rattle.network_clock.proofs.Openings.{delay_flow_of, opens_at_end, opens_before_end, opens_now, used_up, uses_enough}
use Rattle.network_clock.proofs.clock.Meters.first_from.Goals as goal
use Rattle.network_clock.proofs.clock.Meters.first_from.Goals.{After-carried_since, After-period_of-latency, then-latency-eq0, else-latency-eq0}

-- a place on the trace of delay is one on the trace
place : (delay ps : List Period) (at : Place) (t : ℕ) → delay ≡ delay_of ps → Touches delay at t → Touches ps at t
place delay ps at t e h = touches_bits ps at t (rw e at h)

pub returns-then-credit-eq0-clause-opens : goal.returns-then-credit-eq0-clause-opens
returns-then-credit-eq0-clause-opens c = rw (← c.self.view_is, c.if-credit-eq0.true) (opens_now c.self.inside.bits.now c.args.from)

pub returns-then-credit-eq0-clause-place : goal.returns-then-credit-eq0-clause-place
returns-then-credit-eq0-clause-place c = rw (← c.self.view_is) (place _ c.self.inside.bits.now _ _ c.self.invariant.1 c.place_at-begin.ensures.here)

used : (c : After-carried_since) (t : ℕ) → flow carried_in c.self.inside.delay.now t ≡ flow used_in c.self.inside.bits.now t
used c t = delay_flow_of c.self.inside.delay.now c.self.inside.bits.now c.self.invariant.0 c.self.invariant.1 t

pub reach_from-end-requires-clause-soon : goal.reach_from-end-requires-clause-soon
reach_from-end-requires-clause-soon c =
    let ps = c.self.inside.bits.now in
    let enough = uses_enough ps c.args.from c.self.invariant.0 in
    let grows = sum_below_grows (λ i. used_in (period_at ps i)) (c.args.from + 10000) 3000000000000000 (omega arith) in
    let here = used c c.args.from in
    let late = used c 3000000000000000 in
    omega (arith, enough, grows, here, late, c.carried_since.ensures.value)

-- where the delay of a job ends, as the meter of the delay tells it
ended : (c : After-period_of-latency) → let ps = c.self.inside.bits.now in let end = c.reach_from-end.result.instant in
    (flow used_in ps (end - 1) < flow used_in ps c.args.from + c.args.credit) × (flow used_in ps c.args.from + c.args.credit ≤ flow used_in ps end)
ended c =
    let before = c.place_at-begin.result.cycles * cycle_bits c.self.inside.delay.now in
    let carried = c.carried_since.result in
    let parts : before + (carried + c.args.credit) ≡ before + carried + c.args.credit = omega arith in
    used_up c.self.inside.delay.now c.self.inside.bits.now c.args.from c.args.credit (before + carried) c.reach_from-end.result.instant c.self.invariant.0 c.self.invariant.1 c.carried_since.ensures.value
    (subst (λ n. Reaches c.self.inside.delay.now n c.reach_from-end.result.instant) parts c.reach_from-end.ensures.reaches)

-- the latency of the delay's last millisecond
latency : (c : After-period_of-latency) → (period_at c.self.inside.bits.now (c.reach_from-end.result.instant - 1)).latency ≡ c.period_of-latency.result.latency
latency c =
    let end = c.reach_from-end.result.instant in
    let at = c.reach_from-end.result.place in
    let ps = c.self.inside.bits.now in
    let next : end ≡ end - 1 + 1 = omega (arith, c.reach_from-end.ensures.some) in
    let here = place _ ps at (end - 1) c.self.invariant.1 c.reach_from-end.ensures.last in
    let later = place _ ps at end c.self.invariant.1 c.reach_from-end.ensures.end in
    sym (ap (λ (p : Period). p.latency) (c.period_of-latency.ensures (end - 1) here (subst (Touches ps at) next later)))

pub returns-clause-opens : goal.returns-clause-opens
returns-clause-opens c =
    let s = (goal.at.returns-clause-opens c).After-period_of-latency in
    let ps = c.self.inside.bits.now in
    let end = c.reach_from-end.result.instant in
    let up = ended s in
    elim c.if-latency-eq0.branch [
      | then-latency-eq0 w ↦ rw (w.first-is, ← c.self.view_is) (opens_before_end ps c.self.invariant.0 c.args.from c.args.credit end (omega (arith, c.if-credit-eq0.false)) c.requires.credit up.0 up.1 (latency s ∙ w.if-latency-eq0.true))
      | else-latency-eq0 w ↦ rw (w.first-is, ← c.self.view_is) (opens_at_end ps c.self.invariant.0 c.args.from c.args.credit end (omega (arith, c.if-credit-eq0.false)) c.requires.credit up.0 up.1 (λ none. w.if-latency-eq0.false (sym (latency s) ∙ none)))
    ]

pub returns-clause-place : goal.returns-clause-place
returns-clause-place c =
    elim c.if-latency-eq0.branch [
      | then-latency-eq0 w ↦ rw (w.first-is, ← c.self.view_is) (place _ c.self.inside.bits.now _ _ c.self.invariant.1 c.reach_from-end.ensures.last)
      | else-latency-eq0 w ↦ rw (w.first-is, ← c.self.view_is) (place _ c.self.inside.bits.now _ _ c.self.invariant.1 c.reach_from-end.ensures.end)
    ]
