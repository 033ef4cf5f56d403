-- Places of a trace: what is carried up to an instant of their period, and the instant by which so much is.
use Rattle.std.proofs.Common.{◌≡◌, ℕ, suc, ◌+◌, ◌-◌, ◌*◌, ◌/◌, ◌%◌, ◌<◌, ◌≤◌, List, length, get_or, take, sym, ◌∙◌, ap, div-add-mod', le-mul_of_pos_right, arith}
use Rattle.std.specs.List.{take-map}
use Rattle.std.proofs.lemmas.List.{length-map}
use Rattle.std.proofs.lemmas.List.Sums.{sum_by-take-le}
use Rattle.std.proofs.lemmas.Nat.{mod-mul-add, mod_below}
use Rattle.lab_model.specs.declared.trace.Period.{Period}
use Rattle.lab_model.specs.Cycle.{cycle_bits, cycle_ms}
use Rattle.network_clock.specs.declared.meter.Place.{Place}
use Rattle.network_clock.specs.Flow.{IsPaced, Reaches, Touches, carried_in, delay_in, delay_of, flow}
use Rattle.network_clock.specs.Network.{period_at, period_in}
use Rattle.network_clock.proofs.Meters.{ReachesIn, Stands, carried_at, flow_in_fits, period_in_at}
use Rattle.network_clock.proofs.Openings.{delay_ms}
use Rattle.network_clock.proofs.Periods.{cycle_positive}
use Rattle.network_clock.proofs.Turns.{flow_start, flow_turns, reached_later, turns_few}

-- the place of whole cycles and a period
abbrev pub place : ℕ → ℕ → Place
place cycles period = record { cycles = cycles; period = period }

-- an instant of a place, within its cycle
record Within (ps : List Period) (cycles period t : ℕ) : Type 0 where
  rest : ℕ
  parts : cycles * cycle_ms ps + rest ≡ t
  begins : cycle_ms (take period ps) ≤ rest
  ends : rest ≤ cycle_ms (take (suc period) ps)
  all : rest ≤ cycle_ms ps

within : (ps : List Period) (cycles period t : ℕ) → Touches ps (place cycles period) t → Within ps cycles period t
within ps cycles period t h =
    let whole = sum_by-take-le (λ (q : Period). q.duration_ms) ps (suc period) in
    record {
      rest = t - cycles * cycle_ms ps;
      parts = omega (arith, h.begins);
      begins = omega (arith, h.begins);
      ends = omega (arith, h.ends, h.begins);
      all = omega (arith, h.ends, h.begins, whole);
    }

-- an instant that touches a place on a trace touches it on the trace of its delay, and back
delay_take : (ps : List Period) (k : ℕ) → cycle_ms (take k (delay_of ps)) ≡ cycle_ms (take k ps)
delay_take ps k = ap cycle_ms (take-map delay_in k ps) ∙ delay_ms (take k ps)

-- an instant that touches a place of the delay touches it in the trace too
pub touches_bits : (ps : List Period) (at : Place) (t : ℕ) → Touches (delay_of ps) at t → Touches ps at t
touches_bits ps at t h =
    let whole = ap (λ n. at.cycles * n) (delay_ms ps) in
    record {
      inside = let same = length-map ps delay_in in omega (arith, same, h.inside);
      begins = let start = delay_take ps at.period in omega (arith, h.begins, start, whole);
      ends = let end = delay_take ps (suc at.period) in omega (arith, h.ends, end, whole);
    }

-- the place that division and the sums of milliseconds find
pub touches_found : (ps : List Period) (t k : ℕ) → 1 ≤ cycle_ms ps → k < length ps → cycle_ms (take k ps) ≤ t % cycle_ms ps → t % cycle_ms ps < cycle_ms (take (suc k) ps)
    → Touches ps (place (t / cycle_ms ps) k) t × Touches ps (place (t / cycle_ms ps) k) (t + 1)
touches_found ps t k some inside low high =
    let parts = div-add-mod' t (cycle_ms ps) in
    (record { inside = inside; begins = omega (arith, parts, low); ends = omega (arith, parts, high) }, record { inside = inside; begins = omega (arith, parts, low); ends = omega (arith, parts, high) })

-- the period of a place is that of its instants
pub period_touched : (ps : List Period) (at : Place) (t : ℕ) (p : Period) → p ≡ get_or ps at.period p → Touches ps at t → Touches ps at (t + 1) → p ≡ period_at ps t
unfolding period_at
period_touched ps at t p here h next =
    let w = within ps at.cycles at.period t h in
    let whole = sum_by-take-le (λ (q : Period). q.duration_ms) ps (suc at.period) in
    let early : w.rest < cycle_ms (take (suc at.period) ps) = omega (arith, w.parts, next.ends) in
    let rest : t % cycle_ms ps ≡ w.rest = ap (λ n. n % cycle_ms ps) (sym w.parts) ∙ mod-mul-add at.cycles (cycle_ms ps) w.rest (omega (arith, early, whole)) in
    here ∙ period_in_at ps at.period w.rest p h.inside w.begins early ∙ ap (period_in ps) (sym rest)

-- what is carried up to an instant of a place, by its sums
pub carried_there : (ps : List Period) (starts sums : List ℕ) (cycles k start sum : ℕ) (p : Period) (t : ℕ) → Stands ps starts sums k start sum p → Touches ps (place cycles k) t
    → cycles * cycle_bits ps + (sum + (t - (cycles * cycle_ms ps + start)) * p.bandwidth) ≡ flow carried_in ps t
carried_there ps starts sums cycles k start sum p t s h =
    let w = within ps cycles k t h in
    let inside = carried_at ps starts sums k start sum p w.rest s (omega (arith, w.begins, s.start_is, s.start_here)) (omega (arith, w.ends, s.next_start)) in
    let turns = flow_turns carried_in ps cycles w.rest in
    let first = flow_start carried_in ps w.rest w.all in
    let same = ap (flow carried_in ps) w.parts in
    let apart : t - (cycles * cycle_ms ps + start) ≡ w.rest - start = omega (arith, w.parts) in
    let scaled = ap (λ n. n * p.bandwidth) apart in
    omega (arith, inside, turns, first, same, scaled)

-- what is carried in a cycle is at most what the cycle carries
pub carried_most : (ps : List Period) (cycles k t carried : ℕ) → IsPaced ps → Touches ps (place cycles k) t → cycles * cycle_bits ps + carried ≡ flow carried_in ps t → carried ≤ cycle_bits ps
carried_most ps cycles k t carried h touches value =
    let w = within ps cycles k t touches in
    let most = flow_in_fits ps w.rest h w.all in
    let turns = flow_turns carried_in ps cycles w.rest in
    let first = flow_start carried_in ps w.rest w.all in
    let same = ap (flow carried_in ps) w.parts in
    omega (arith, most, turns, first, same, value)

-- what is carried before an instant has few cycles before it
pub cycles_few : (ps : List Period) (cycles t : ℕ) → IsPaced ps → cycles * cycle_bits ps < flow carried_in ps t → (cycles * cycle_ms ps ≤ t) × (cycles ≤ t)
cycles_few ps cycles t h below =
    let cycle = cycle_positive ps h in
    let part = flow_in_fits ps (t % cycle_ms ps) h (let early = mod_below t (cycle_ms ps) cycle in omega (arith, early)) in
    let few = turns_few ps cycles t cycle part below in
    let one = le-mul_of_pos_right {m = cycle_ms ps} cycles cycle in
    (few, omega (arith, few, one))

-- what is found within a cycle, so many cycles later
pub record Found (ps : List Period) (cycles k wanted instant : ℕ) : Type 0 where
  pub reaches : Reaches ps wanted instant
  pub some : 1 ≤ instant
  pub last : Touches ps (place cycles k) (instant - 1)
  pub end : Touches ps (place cycles k) instant

-- an instant that is found in the first cycle is found so many cycles later
pub found_later : (ps : List Period) (cycles k rest wanted inside : ℕ) → k < length ps → cycles * cycle_bits ps + rest ≡ wanted → ReachesIn ps k rest inside → Found ps cycles k wanted (cycles * cycle_ms ps + inside)
found_later ps cycles k rest wanted inside place parts r = record {
  reaches = reached_later ps cycles rest wanted inside parts r.some r.all r.before r.there;
  some = omega (arith, r.some);
  last = record { inside = place; begins = omega (arith, r.begins); ends = omega (arith, r.ends) };
  end = record { inside = place; begins = omega (arith, r.begins); ends = omega (arith, r.ends) };
}
