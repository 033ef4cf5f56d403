-- A share of a trace is a network on which bits come, however the number of takers, at most eight, changes from millisecond to millisecond.
use Rattle.std.proofs.Common.{◌≡◌, ℕ, zero, suc, ◌+◌, ◌*◌, ◌/◌, ◌≤◌, max, List, ap, add-zero, add-suc, mul-le-mul_left, div-add-mod', div-le_self, arith}
use Rattle.std.proofs.lemmas.Nat.{mod_below}
use Rattle.lab_model.specs.declared.trace.Period.{Period}
use Rattle.lab_model.specs.Cycle.{IsTrace, cycle_ms}
use Rattle.network_clock.specs.Flow.{IsFlowing, carried_in, flow, flow_on}
use Rattle.network_clock.specs.Network.{parted, period_at}
use Rattle.network_clock.proofs.Flows.{enough, enough_ms}
use Rattle.network_clock.proofs.Laws.{flow_next}
use Rattle.network_clock.proofs.Periods.{bandwidth_at, cycle_positive, latency_at, trace_paced}
use Rattle.network_clock.proofs.Sums.{sum_below_grows}
use Rattle.network_clock.proofs.Turns.{flow_turns}

-- a taker gets at least an eighth of what is carried, but for what is lost by whole thousandths
pub share_least : (takers w : ℕ) → takers ≤ 8 → w ≤ 8 * (w / max 1 takers) + 7
share_least takers w few =
    let d = max 1 takers in
    let some : 1 ≤ d = omega arith in
    let most : d ≤ 8 = omega (arith, few) in
    let whole = div-add-mod' w d in
    let rest = mod_below w d some in
    let product = mul-le-mul_left (w / d) most in
    omega (arith, whole, rest, product, most)

module _ (net : ℕ → Period) (takers : ℕ → ℕ) (few : (t : ℕ) → takers t ≤ 8) where
  -- so of what so many milliseconds carry a share gets an eighth, less at most seven thousandths in eight each
  pub share_pace : (t n : ℕ) → flow_on carried_in net (t + n) + 8 * flow_on carried_in (λ i. parted (takers i) (net i)) t
      ≤ flow_on carried_in net t + (8 * flow_on carried_in (λ i. parted (takers i) (net i)) (t + n) + 7 * n)
  share_pace t zero = rw (add-zero, add-zero) (omega arith)
  share_pace t (suc n) =
      let share = λ (i : ℕ). parted (takers i) (net i) in
      let before = share_pace t n in
      let more = flow_next carried_in net (t + n) in
      let own = flow_next carried_in share (t + n) in
      let least = share_least (takers (t + n)) (net (t + n)).bandwidth (few (t + n)) in
      rw add-suc (omega (arith, before, more, own, least))

-- in 1713000000 milliseconds and more a share of a trace carries at least the bits of the greatest download
pub share_flows : (ps : List Period) → IsTrace ps → (takers : ℕ → ℕ) → ((t : ℕ) → takers t ≤ 8) → IsFlowing 1713000000 (λ t. parted (takers t) (period_at ps t))
share_flows ps h takers few = record {
  latency = λ t. latency_at ps t h.periods;
  bandwidth = λ t. let most = bandwidth_at ps t h.periods in let less = div-le_self (period_at ps t).bandwidth (max 1 (takers t)) in omega (arith, most, less);
  carries = λ t n late.
      let share = λ (i : ℕ). parted (takers i) (period_at ps i) in
      let cycle = h.cycle in
      let q = enough 1612000000 (cycle_ms ps) in
      let ms = enough_ms 1612000000 (cycle_ms ps) (cycle_positive ps (trace_paced ps h)) in
      let small = ms.0 in
      let large = ms.1 in
      let turns = flow_turns carried_in ps q t in
      let carries = mul-le-mul_left q h.carries in
      let pace = share_pace (period_at ps) takers few t (q * cycle_ms ps) in
      let grows = sum_below_grows (λ i. carried_in (share i)) (t + q * cycle_ms ps) (t + n) (omega (arith, small, cycle, late)) in
      let place : q * cycle_ms ps + t ≡ t + q * cycle_ms ps = omega arith in
      let there = ap (flow carried_in ps) place in
      omega (arith, turns, carries, pace, grows, large, there);
}
