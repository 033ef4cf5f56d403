-- The sums of a meter say what is carried up to any instant of the first cycle.
use Rattle.std.proofs.Common.{◌≡◌, ℕ, zero, suc, ◌+◌, ◌-◌, ◌*◌, ◌<◌, ◌≤◌, List, [], ◌∷◌, ◌++◌, length, get_or, take, refl, sym, ◌∙◌, ap, sum_by, add-one, ⊎_elim, mul-le-mul_left, lt_of_mul-lt-mul_right, arith}
use Rattle.std.specs.List.{All}
use Rattle.std.specs.Int.{div_ceil}
use Rattle.std.proofs.lemmas.Bool.{cases_lt}
use Rattle.std.proofs.lemmas.Grind.{div_ceil_times, get_or_default_zero}
use Rattle.std.proofs.lemmas.List.{get_or_append_left, length_push}
use Rattle.std.proofs.lemmas.List.Elements.{All-head, All-tail}
use Rattle.std.proofs.lemmas.List.Sums.{sum_by-cons, sum_by-take-le, sum_by_more}
use Rattle.std.proofs.Math.Seq.{get_or-append_seam, take-length}
use Rattle.lab_model.specs.declared.trace.Period.{Period}
use Rattle.lab_model.specs.Cycle.{IsPeriod, cycle_bits, cycle_ms}
use Rattle.network_clock.specs.Network.{period_in}
use Rattle.network_clock.specs.Flow.{AreSums, IsMeter, IsPaced, carried_in, flow_in}
use Rattle.network_clock.proofs.Periods.{cycle_positive, period_here, period_later}
use Rattle.network_clock.proofs.Sums.{sum_below_grows}
use Rattle.network_clock.proofs.Turns.{cycle_flow, flow_in_cycle, flow_in_first, flow_in_rest}

-- ---- the sums as they are made

-- before the first period the one sum is 0
pub sums_start : (size : Period → ℕ) (ps : List Period) → AreSums size ps 0 (0 ∷ [])
sums_start size ps = record { count = refl; each = λ k h. let none : k ≡ 0 = omega arith in rw none refl }

-- the sum with one more period goes behind the sums so far
pub sums_more : (size : Period → ℕ) (ps : List Period) (n : ℕ) (sums : List ℕ) (sum : ℕ) → AreSums size ps n sums → sum ≡ sum_by size (take (n + 1) ps) → AreSums size ps (n + 1) (sums ++ sum ∷ [])
sums_more size ps n sums sum h e = record {
  count = let l = length_push sums sum in omega (arith, l, h.count);
  each = λ k l. ⊎_elim (λ (early : k < n + 1). let inside : k < length sums = omega (arith, h.count) in rw (get_or_append_left sums (sum ∷ []) 0 k inside) (h.each k (omega arith)))
      (λ (late : n + 1 ≤ k). let last : k ≡ n + 1 = omega arith in let place : n + 1 ≡ length sums = sym h.count in rw (last, place) (get_or-append_seam sums sum [] 0) ∙ e ∙ ap (λ i. sum_by size (take i ps)) (sym last)) (cases_lt k (n + 1));
}

-- the last sum is that of all periods
pub sums_last : (size : Period → ℕ) (ps : List Period) (sums : List ℕ) (n x : ℕ) → AreSums size ps (length ps) sums → n ≡ length ps → x ≡ get_or sums n x → x ≡ sum_by size ps
sums_last size ps sums n x h last e =
    e ∙ get_or_default_zero sums n x (omega (arith, h.count)) ∙ h.each n (omega arith) ∙ ap (λ k. sum_by size (take k ps)) last ∙ ap (sum_by size) (take-length ps)

-- ---- between two sums

first_part : (t r : ℕ) → t * r ≡ 0 + (t - 0) * r
first_part t r = let whole : t - 0 ≡ t = omega arith in rw whole (omega arith)

-- up to an instant of a period the periods before it bring all of theirs, and it brings its milliseconds so far
pub flow_in_at : (rate : Period → ℕ) (ps : List Period) (k t : ℕ) (d : Period) → k < length ps → cycle_ms (take k ps) ≤ t → t ≤ cycle_ms (take (suc k) ps) → flow_in rate ps t ≡ cycle_flow rate (take k ps) + (t - cycle_ms (take k ps)) * rate (get_or ps k d)
flow_in_at rate [] k t d h low high = absurd (omega arith)
flow_in_at rate (p ∷ ps) zero t d h low high = flow_in_first rate p ps t (omega (arith, high)) ∙ first_part t (rate p)
flow_in_at rate (p ∷ ps) (suc k) t d h low high =
    let here = sum_by-cons (λ (q : Period). q.duration_ms) p (take k ps) in
    let next = sum_by-cons (λ (q : Period). q.duration_ms) p (take (suc k) ps) in
    let brought = sum_by-cons (λ (q : Period). q.duration_ms * rate q) p (take k ps) in
    let rest = t - p.duration_ms in
    let parts : t ≡ p.duration_ms + rest = omega (arith, low, here) in
    let within = flow_in_at rate ps k rest d (omega arith) (omega (arith, low, here)) (omega (arith, high, next)) in
    let whole = ap (flow_in rate (p ∷ ps)) parts ∙ flow_in_rest rate p ps rest in
    let apart : rest - cycle_ms (take k ps) ≡ t - cycle_ms (take (suc k) (p ∷ ps)) = omega (arith, here) in
    let scaled = ap (λ n. n * rate (get_or ps k d)) apart in
    omega (arith, whole, within, brought, scaled)

-- an instant between the start of a period and that of the next lies in that period
pub period_in_at : (ps : List Period) (k t : ℕ) (d : Period) → k < length ps → cycle_ms (take k ps) ≤ t → t < cycle_ms (take (suc k) ps) → get_or ps k d ≡ period_in ps t
period_in_at [] k t d h low high = absurd (omega arith)
period_in_at (p ∷ ps) zero t d h low high = sym (period_here p ps t (omega (arith, high)))
period_in_at (p ∷ ps) (suc k) t d h low high =
    let here = sum_by-cons (λ (q : Period). q.duration_ms) p (take k ps) in
    let next = sum_by-cons (λ (q : Period). q.duration_ms) p (take (suc k) ps) in
    period_in_at ps k (t - p.duration_ms) d (omega arith) (omega (arith, low, here)) (omega (arith, high, next)) ∙ sym (period_later p ps t (omega (arith, low, here)))

-- ---- what a meter keeps

-- a place of the sums, with what stands there
pub record Stands (ps : List Period) (starts sums : List ℕ) (k start sum : ℕ) (p : Period) : Type 0 where
  pub place : k < length ps
  pub start_here : get_or starts k 0 ≡ start
  pub sum_here : get_or sums k 0 ≡ sum
  pub start_is : start ≡ cycle_ms (take k ps)
  pub sum_is : sum ≡ cycle_bits (take k ps)
  pub next_start : get_or starts (k + 1) 0 ≡ cycle_ms (take (suc k) ps)
  pub next_sum : get_or sums (k + 1) 0 ≡ cycle_bits (take (suc k) ps)
  pub start_step : cycle_ms (take (suc k) ps) ≡ cycle_ms (take k ps) + p.duration_ms
  pub sum_step : cycle_bits (take (suc k) ps) ≡ cycle_bits (take k ps) + p.duration_ms * p.bandwidth
  pub here : p ≡ get_or ps k p

-- what the sums of a meter say at the place of a period
pub stands : (ps : List Period) (starts sums : List ℕ) (k start sum : ℕ) (p : Period) → IsMeter ps starts sums → k < length ps → start ≡ get_or starts k start → sum ≡ get_or sums k sum → p ≡ get_or ps k p → Stands ps starts sums k start sum p
stands ps starts sums k start sum p m place a b c = record {
  place = place;
  start_here = sym (a ∙ get_or_default_zero starts k start (omega (arith, m.starts.count)));
  sum_here = sym (b ∙ get_or_default_zero sums k sum (omega (arith, m.sums.count)));
  start_is = a ∙ get_or_default_zero starts k start (omega (arith, m.starts.count)) ∙ m.starts.each k (omega arith);
  sum_is = b ∙ get_or_default_zero sums k sum (omega (arith, m.sums.count)) ∙ m.sums.each k (omega arith);
  next_start = m.starts.each (k + 1) (omega arith) ∙ ap (λ n. cycle_ms (take n ps)) (add-one k);
  next_sum = m.sums.each (k + 1) (omega arith) ∙ ap (λ n. cycle_bits (take n ps)) (add-one k);
  start_step = ap (λ n. cycle_ms (take n ps)) (sym (add-one k)) ∙ sum_by_more (λ (q : Period). q.duration_ms) ps k p place ∙ ap (λ (q : Period). cycle_ms (take k ps) + q.duration_ms) (sym c);
  sum_step = ap (λ n. cycle_bits (take n ps)) (sym (add-one k)) ∙ sum_by_more (λ (q : Period). q.duration_ms * q.bandwidth) ps k p place ∙ ap (λ (q : Period). cycle_bits (take k ps) + q.duration_ms * q.bandwidth) (sym c);
  here = c;
}

-- the sum at a place and the milliseconds of its period so far give what is carried up to an instant
pub carried_at : (ps : List Period) (starts sums : List ℕ) (k start sum : ℕ) (p : Period) (t : ℕ) → Stands ps starts sums k start sum p → get_or starts k 0 < t + 1 → t ≤ get_or starts (k + 1) 0 → sum + (t - start) * p.bandwidth ≡ flow_in carried_in ps t
carried_at ps starts sums k start sum p t s low high =
    let at = flow_in_at carried_in ps k t p s.place (omega (arith, low, s.start_is, s.start_here)) (omega (arith, s.next_start)) in
    let apart : t - cycle_ms (take k ps) ≡ t - start = omega (arith, s.start_is) in
    let scaled = ap (λ n. n * p.bandwidth) apart in
    let here = ap (λ (q : Period). (t - cycle_ms (take k ps)) * q.bandwidth) s.here in
    omega (arith, at, scaled, here, s.sum_is)

-- a trace carries at most its limit each millisecond
pub bits_bounded : (ps : List Period) → All IsPeriod ps → cycle_bits ps ≤ 10000000000 * cycle_ms ps
bits_bounded [] h = omega arith
bits_bounded (p ∷ ps) h =
    let first = All-head IsPeriod p ps h in
    let rest = bits_bounded ps (All-tail IsPeriod p ps h) in
    let ms = sum_by-cons (λ (q : Period). q.duration_ms) p ps in
    let bits = sum_by-cons (λ (q : Period). q.duration_ms * q.bandwidth) p ps in
    let one = mul-le-mul_left p.duration_ms first.bandwidth in
    omega (arith, rest, ms, bits, one)

-- a cycle of a trace carries at most 10 ^ 18 thousandths of a bit
pub bits_fit : (ps : List Period) → IsPaced ps → cycle_bits ps ≤ 1000000000000000000
bits_fit ps h = let most = bits_bounded ps h.periods in let few = h.cycle in omega (arith, most, few)

-- up to an instant of the cycle no more is carried than in all of it
pub flow_in_fits : (ps : List Period) (t : ℕ) → IsPaced ps → t ≤ cycle_ms ps → flow_in carried_in ps t ≤ cycle_bits ps
flow_in_fits ps t h inside =
    let grows = sum_below_grows (λ i. carried_in (period_in ps i)) t (cycle_ms ps) inside in
    let all = flow_in_cycle carried_in ps in
    omega (arith, grows, all)

-- so many milliseconds at a rate bring an amount, and one fewer do not
enough_at : (amount rate most : ℕ) → 1 ≤ amount → amount ≤ most * rate → (1 ≤ div_ceil amount rate) × (div_ceil amount rate ≤ most) × (amount ≤ div_ceil amount rate * rate) × ((div_ceil amount rate - 1) * rate < amount)
enough_at amount zero most some few = absurd (omega arith)
enough_at amount (suc less) most some few =
    let rate = suc less in
    let bounds = div_ceil_times amount rate (omega arith) in
    let enough = bounds.0 in
    let short = bounds.1 in
    let e = div_ceil amount rate in
    let first : 1 ≤ e = ⊎_elim (λ (none : e < 1). let zero_is : e ≡ 0 = omega arith in let product = ap (λ n. n * rate) zero_is in absurd (omega (arith, product, enough))) (λ (there : 1 ≤ e). there) (cases_lt e 1) in
    let back : e ≡ (e - 1) + 1 = omega arith in
    let split = ap (λ n. n * rate) back in
    let below : (e - 1) * rate < amount = omega (arith, split, short) in
    let less_than : e - 1 < most = lt_of_mul-lt-mul_right rate (omega (arith, below, few)) in
    (first, omega (arith, less_than), enough, below)

-- an instant of the first cycle, in the period at a place or at its end, is the first before which so much is carried
pub record ReachesIn (ps : List Period) (k target instant : ℕ) : Type 0 where
  pub begins : cycle_ms (take k ps) < instant
  pub ends : instant ≤ cycle_ms (take (suc k) ps)
  pub some : 1 ≤ instant
  pub all : instant ≤ cycle_ms ps
  pub before : flow_in carried_in ps (instant - 1) < target
  pub there : target ≤ flow_in carried_in ps instant

-- a sum between two of a meter is carried first so long after the period's start as its bandwidth needs
pub reached_at : (ps : List Period) (starts sums : List ℕ) (k start sum : ℕ) (p : Period) (target : ℕ) → Stands ps starts sums k start sum p → get_or sums k 0 < target → target ≤ get_or sums (k + 1) 0
    → ReachesIn ps k target (start + div_ceil (target - sum) p.bandwidth)
reached_at ps starts sums k start sum p target s low high =
    let e = div_ceil (target - sum) p.bandwidth in
    let amount : target - sum ≤ p.duration_ms * p.bandwidth = omega (arith, high, s.next_sum, s.sum_step, s.sum_is) in
    let above : sum < target = omega (arith, low, s.sum_here) in
    let found = enough_at (target - sum) p.bandwidth p.duration_ms (omega arith) amount in
    let some = found.0 in
    let few = found.1 in
    let enough = found.2 in
    let short = found.3 in
    let inside : start + e ≤ get_or starts (k + 1) 0 = omega (arith, few, s.next_start, s.start_step, s.start_is) in
    let there = carried_at ps starts sums k start sum p (start + e) s (omega (arith, s.start_here)) inside in
    let before = carried_at ps starts sums k start sum p ((start + e) - 1) s (omega (arith, s.start_here, some)) (omega arith) in
    let ms : (start + e) - start ≡ e = omega arith in
    let ms_before : ((start + e) - 1) - start ≡ e - 1 = omega arith in
    let product = ap (λ n. n * p.bandwidth) ms in
    let product_before = ap (λ n. n * p.bandwidth) ms_before in
    let whole = sum_by-take-le (λ (q : Period). q.duration_ms) ps (suc k) in
    record {
      begins = omega (arith, some, s.start_is);
      ends = omega (arith, inside, s.next_start);
      some = omega (arith, some);
      all = omega (arith, inside, s.next_start, whole);
      before = omega (arith, before, product_before, short);
      there = omega (arith, there, product, enough);
    }

-- a cycle of a trace carries something
pub total_positive : (ps : List Period) → IsPaced ps → 1 ≤ cycle_bits ps
total_positive ps h = let some = cycle_positive ps h in omega (arith, h.carries, some)
