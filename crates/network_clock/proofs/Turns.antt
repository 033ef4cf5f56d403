-- What the milliseconds up to an instant bring: whole cycles, and a part of one.
use Rattle.std.proofs.Common.{◌≡◌, ℕ, zero, suc, ◌+◌, ◌-◌, ◌*◌, ◌/◌, ◌%◌, ◌<◌, ◌≤◌, List, [], ◌∷◌, refl, sym, ◌∙◌, ap, sum_by, mul-le-mul_right, lt_of_mul-lt-mul_right, zero-mul, zero-add, mod-eq_of_lt, div-add-mod', arith}
use Rattle.std.proofs.Math.Nat.{add-mod_left}
use Rattle.std.proofs.lemmas.List.Sums.{sum_by-cons}
use Rattle.std.proofs.lemmas.Nat.{mod_below}
use Rattle.lab_model.specs.declared.trace.Period.{Period}
use Rattle.lab_model.specs.Cycle.{cycle_bits, cycle_ms}
use Rattle.network_clock.specs.Network.{period_at, period_in}
use Rattle.network_clock.proofs.Periods.{period_here, period_later}
use Rattle.network_clock.proofs.Sums.{sum_below_same, sum_below_constant, sum_below_add}
use Rattle.network_clock.specs.Flow.{Reaches, carried_in, flow, flow_in, sum_below}

-- what a cycle brings
abbrev pub cycle_flow : (Period → ℕ) → List Period → ℕ
cycle_flow rate ps = sum_by (λ p. p.duration_ms * rate p) ps

-- within the first period each millisecond brings its rate
pub flow_in_first : (rate : Period → ℕ) (p : Period) (ps : List Period) (t : ℕ) → t ≤ p.duration_ms → flow_in rate (p ∷ ps) t ≡ t * rate p
flow_in_first rate p ps t h = sum_below_constant _ (rate p) t (λ i l. ap rate (period_here p ps i (omega arith)))

-- past the first period it brings all of its own, and those behind it the rest
pub flow_in_rest : (rate : Period → ℕ) (p : Period) (ps : List Period) (t : ℕ) → flow_in rate (p ∷ ps) (p.duration_ms + t) ≡ p.duration_ms * rate p + flow_in rate ps t
flow_in_rest rate p ps t =
    let whole = sum_below_add (λ i. rate (period_in (p ∷ ps) i)) p.duration_ms t in
    let first = flow_in_first rate p ps p.duration_ms (omega arith) in
    let rest = sum_below_same (λ i. rate (period_in (p ∷ ps) (p.duration_ms + i))) (λ i. rate (period_in ps i)) t (λ i l. let back : (p.duration_ms + i) - p.duration_ms ≡ i = omega arith in ap rate (period_later p ps (p.duration_ms + i) (omega arith) ∙ ap (period_in ps) back)) in
    omega (arith, whole, first, rest)

-- up to the end of the cycle each period brings all of its own
pub flow_in_cycle : (rate : Period → ℕ) (ps : List Period) → flow_in rate ps (cycle_ms ps) ≡ cycle_flow rate ps
unfolding sum_below
flow_in_cycle rate [] = refl
flow_in_cycle rate (p ∷ ps) =
    let length = sum_by-cons (λ (q : Period). q.duration_ms) p ps in
    let whole = sum_by-cons (λ (q : Period). q.duration_ms * rate q) p ps in
    let rest = flow_in_rest rate p ps (cycle_ms ps) in
    let inner = flow_in_cycle rate ps in
    ap (flow_in rate (p ∷ ps)) length ∙ omega (arith, whole, rest, inner)

-- within the first cycle the two are one
pub flow_start : (rate : Period → ℕ) (ps : List Period) (t : ℕ) → t ≤ cycle_ms ps → flow rate ps t ≡ flow_in rate ps t
unfolding period_at
flow_start rate ps t h = sum_below_same _ _ t (λ i l. let small : i < cycle_ms ps = omega arith in ap (λ k. rate (period_in ps k)) (mod-eq_of_lt small))

-- one cycle more
pub flow_turn : (rate : Period → ℕ) (ps : List Period) (t : ℕ) → flow rate ps (cycle_ms ps + t) ≡ cycle_flow rate ps + flow rate ps t
unfolding period_at
flow_turn rate ps t =
    let whole = sum_below_add (λ i. rate (period_at ps i)) (cycle_ms ps) t in
    let first = flow_start rate ps (cycle_ms ps) (omega arith) ∙ flow_in_cycle rate ps in
    let rest = sum_below_same (λ i. rate (period_at ps (cycle_ms ps + i))) (λ i. rate (period_at ps i)) t (λ i l. ap (λ k. rate (period_in ps k)) (add-mod_left (cycle_ms ps) i)) in
    omega (arith, whole, first, rest)

-- so many cycles more
pub flow_turns : (rate : Period → ℕ) (ps : List Period) (turns t : ℕ) → flow rate ps (turns * cycle_ms ps + t) ≡ turns * cycle_flow rate ps + flow rate ps t
flow_turns rate ps zero t = rw (zero-mul, zero-mul, zero-add, zero-add) refl
flow_turns rate ps (suc turns) t =
    let along : suc turns * cycle_ms ps + t ≡ cycle_ms ps + (turns * cycle_ms ps + t) = omega arith in
    let one = flow_turn rate ps (turns * cycle_ms ps + t) in
    let more = flow_turns rate ps turns t in
    ap (flow rate ps) along ∙ omega (arith, one, more)

-- whole cycles by division, and the rest
pub flow_divided : (rate : Period → ℕ) (ps : List Period) (t : ℕ) → 1 ≤ cycle_ms ps → flow rate ps t ≡ (t / cycle_ms ps) * cycle_flow rate ps + flow_in rate ps (t % cycle_ms ps)
flow_divided rate ps t some =
    let parts = div-add-mod' t (cycle_ms ps) in
    let below = mod_below t (cycle_ms ps) some in
    let turns = flow_turns rate ps (t / cycle_ms ps) (t % cycle_ms ps) in
    let rest = flow_start rate ps (t % cycle_ms ps) (omega arith) in
    ap (flow rate ps) (sym parts) ∙ omega (arith, turns, rest)

-- before an instant there are only so many cycles
pub turns_few : (ps : List Period) (turns t : ℕ) → 1 ≤ cycle_ms ps → flow_in carried_in ps (t % cycle_ms ps) ≤ cycle_bits ps → turns * cycle_bits ps < flow carried_in ps t → turns * cycle_ms ps ≤ t
turns_few ps turns t some part below =
    let divided = flow_divided carried_in ps t some in
    let few : turns < t / cycle_ms ps + 1 = lt_of_mul-lt-mul_right (cycle_bits ps) (omega (arith, divided, part, below)) in
    let product : turns * cycle_ms ps ≤ (t / cycle_ms ps) * cycle_ms ps = mul-le-mul_right (cycle_ms ps) (omega (arith, few)) in
    let parts = div-add-mod' t (cycle_ms ps) in
    omega (arith, product, parts)

-- what is reached in the first cycle, so many cycles later
pub reached_later : (ps : List Period) (turns rest target within : ℕ) → turns * cycle_bits ps + rest ≡ target → 1 ≤ within → within ≤ cycle_ms ps → flow_in carried_in ps (within - 1) < rest → rest ≤ flow_in carried_in ps within → Reaches ps target (turns * cycle_ms ps + within)
reached_later ps turns rest target within parts some all before there =
    let at = flow_turns carried_in ps turns within in
    let at_before = flow_turns carried_in ps turns (within - 1) in
    let first = flow_start carried_in ps within all in
    let first_before = flow_start carried_in ps (within - 1) (omega arith) in
    let back : (turns * cycle_ms ps + within) - 1 ≡ turns * cycle_ms ps + (within - 1) = omega arith in
    let moved = ap (flow carried_in ps) back in
    record {
      before = omega (arith, moved, at_before, first_before, before, parts);
      there = omega (arith, at, first, there, parts);
    }
