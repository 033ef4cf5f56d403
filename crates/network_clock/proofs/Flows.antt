-- A trace is a network on which bits come: in 300000000 milliseconds it carries those of the greatest download.
use Rattle.std.proofs.Common.{ℕ, ◌+◌, ◌*◌, ◌/◌, ◌≤◌, List, mul-le-mul_left, div-add-mod', arith}
use Rattle.std.proofs.lemmas.Nat.{mod_below}
use Rattle.lab_model.specs.declared.trace.Period.{Period}
use Rattle.lab_model.specs.Cycle.{IsTrace, cycle_ms}
use Rattle.network_clock.specs.Flow.{IsFlowing, carried_in, flow}
use Rattle.network_clock.specs.Network.{period_at}
use Rattle.network_clock.proofs.Periods.{bandwidth_at, cycle_positive, latency_at, trace_paced}
use Rattle.network_clock.proofs.Sums.{sum_below_grows}
use Rattle.network_clock.proofs.Turns.{flow_turns}

-- so many whole cycles last at least so many milliseconds
abbrev pub enough : ℕ → ℕ → ℕ
enough least cycle = least / cycle + 1

-- and at most a cycle longer
pub enough_ms : (least cycle : ℕ) → 1 ≤ cycle → (enough least cycle * cycle ≤ least + cycle) × (least ≤ enough least cycle * cycle)
enough_ms least cycle some = (omega (arith, div-add-mod' least cycle, mod_below least cycle some), omega (arith, div-add-mod' least cycle, mod_below least cycle some))

-- in 300000000 milliseconds and more a trace carries at least the bits of the greatest download
pub carries_enough : (ps : List Period) → IsTrace ps → (t n : ℕ) → 300000000 ≤ n → 200000000000 + flow carried_in ps t ≤ flow carried_in ps (t + n)
carries_enough ps h t n late =
    let cycle = h.cycle in
    let q = enough 200000000 (cycle_ms ps) in
    let ms = enough_ms 200000000 (cycle_ms ps) (cycle_positive ps (trace_paced ps h)) in
    let small = ms.0 in
    let large = ms.1 in
    let turns = flow_turns carried_in ps q t in
    let carries = mul-le-mul_left q h.carries in
    let grows = sum_below_grows (λ i. carried_in (period_at ps i)) (q * cycle_ms ps + t) (t + n) (omega (arith, small, cycle, late)) in
    omega (arith, turns, carries, grows, large)

-- so bits come on it
pub trace_flows : (ps : List Period) → IsTrace ps → IsFlowing 300000000 (period_at ps)
trace_flows ps h = record {
  latency = λ t. latency_at ps t h.periods;
  bandwidth = λ t. bandwidth_at ps t h.periods;
  carries = carries_enough ps h;
}
