-- The period of an instant, found by going through the periods.
use Rattle.std.proofs.Common.{◌≡◌, ℕ, ◌+◌, ◌-◌, ◌<◌, ◌≤◌, List, [], ◌∷◌, length, get_or, drop, refl, sym, ◌∙◌, lt-ltb, le-ltb, ⊎_elim, ◌%◌, arith}
use Rattle.std.specs.List.{All}
use Rattle.std.proofs.lemmas.Bool.{cases_lt}
use Rattle.std.proofs.lemmas.List.{at_drop_more, at_drop_all}
use Rattle.std.proofs.lemmas.List.Elements.{All-head, All-tail}
use Rattle.std.proofs.lemmas.List.Sums.{get_or-le-sum_by}
use Rattle.lab_model.specs.declared.trace.Period.{Period}
use Rattle.lab_model.specs.Cycle.{IsPeriod, IsTrace, cycle_ms}
use Rattle.network_clock.specs.Flow.{IsPaced}
use Rattle.network_clock.specs.Network.{no_period, period_at, period_in}

-- an instant before the end of the first period lies in it
pub period_here : (p : Period) (ps : List Period) (t : ℕ) → t < p.duration_ms → period_in (p ∷ ps) t ≡ p
unfolding period_in
period_here p ps t h = rw (lt-ltb t p.duration_ms h) refl

-- a later one lies in the periods behind it, as far on as it is past the first
pub period_later : (p : Period) (ps : List Period) (t : ℕ) → p.duration_ms ≤ t → period_in (p ∷ ps) t ≡ period_in ps (t - p.duration_ms)
unfolding period_in
period_later p ps t h = rw (le-ltb t p.duration_ms h) refl

-- without periods an instant lies in none
pub period_nowhere : (t : ℕ) → period_in [] t ≡ no_period
unfolding period_in
period_nowhere t = refl

-- the same while a loop goes through the periods
pub period_found : (ps : List Period) (i : ℕ) (d : Period) (t : ℕ) → i < length ps → t < (get_or ps i d).duration_ms → get_or ps i d ≡ period_in (drop i ps) t
period_found ps i d t l h = sym (at_drop_more (λ qs. period_in qs t) ps i d l ∙ period_here (get_or ps i d) (drop (i + 1) ps) t h)

-- an instant past the period at a place is looked for in those behind it
pub period_passed : (ps : List Period) (i : ℕ) (d : Period) (t : ℕ) → i < length ps → (get_or ps i d).duration_ms ≤ t → period_in (drop (i + 1) ps) (t - (get_or ps i d).duration_ms) ≡ period_in (drop i ps) t
period_passed ps i d t l h = sym (at_drop_more (λ qs. period_in qs t) ps i d l ∙ period_later (get_or ps i d) (drop (i + 1) ps) t h)

-- behind the last period an instant lies in none
pub period_missed : (ps : List Period) (i t : ℕ) → length ps ≤ i → period_in (drop i ps) t ≡ no_period
period_missed ps i t h = at_drop_all (λ qs. period_in qs t) ps i h ∙ period_nowhere t

-- a bound on every period is one on the period of any instant
pub latency_in : (ps : List Period) (t : ℕ) → All IsPeriod ps → (period_in ps t).latency ≤ 10000
latency_in [] t h = rw (period_nowhere t) (omega arith)
latency_in (p ∷ ps) t h =
    let first = All-head IsPeriod p ps h in
    let l = first.latency in
    let rest = latency_in ps (t - p.duration_ms) (All-tail IsPeriod p ps h) in
    ⊎_elim (λ inside. rw (period_here p ps t inside) l) (λ outside. rw (period_later p ps t outside) rest) (cases_lt t p.duration_ms)

-- the bandwidth at an instant of the first cycle keeps its limit
pub bandwidth_in : (ps : List Period) (t : ℕ) → All IsPeriod ps → (period_in ps t).bandwidth ≤ 10000000000
bandwidth_in [] t h = rw (period_nowhere t) (omega arith)
bandwidth_in (p ∷ ps) t h =
    let first = All-head IsPeriod p ps h in
    let l = first.bandwidth in
    let rest = bandwidth_in ps (t - p.duration_ms) (All-tail IsPeriod p ps h) in
    ⊎_elim (λ inside. rw (period_here p ps t inside) l) (λ outside. rw (period_later p ps t outside) rest) (cases_lt t p.duration_ms)

-- the bandwidth at any instant keeps its limit
pub bandwidth_at : (ps : List Period) (t : ℕ) → All IsPeriod ps → (period_at ps t).bandwidth ≤ 10000000000
unfolding period_at
bandwidth_at ps t h = bandwidth_in ps (t % cycle_ms ps) h

-- the latency at any instant keeps its limit
pub latency_at : (ps : List Period) (t : ℕ) → All IsPeriod ps → (period_at ps t).latency ≤ 10000
unfolding period_at
latency_at ps t h = latency_in ps (t % cycle_ms ps) h

-- a trace keeps the limits of a lane
pub trace_paced : (ps : List Period) → IsTrace ps → IsPaced ps
trace_paced ps h = record { count = h.count; periods = h.periods; cycle = h.cycle; carries = let carries = h.carries in omega (arith, carries) }

-- a cycle has a millisecond
pub cycle_positive : (ps : List Period) → IsPaced ps → 1 ≤ cycle_ms ps
cycle_positive ps h =
    let some : 0 < length ps = omega arith in
    let first = h.periods 0 no_period some in
    let part = get_or-le-sum_by (λ (p : Period). p.duration_ms) ps 0 no_period some in
    omega (arith, part, first.duration)
