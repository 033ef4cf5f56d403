-- The lane of each of up to eight takers of a trace keeps its limits, and bits come on it.
use Rattle.std.proofs.Common.{◌≡◌, ℕ, ◌+◌, ◌*◌, ◌/◌, ◌<◌, ◌≤◌, max, ⊎_elim, List, [], ◌∷◌, ◌++◌, length, get_or, refl, sym, ◌∙◌, ap, ap₂, mul-le-mul_left, div-le_self, arith}
use Rattle.std.proofs.lemmas.Bool.{cases_lt}
use Rattle.std.proofs.lemmas.List.{get_or_append_left, length-map, length_push}
use Rattle.std.proofs.lemmas.List.Elements.{All-map}
use Rattle.std.proofs.lemmas.List.Sums.{sum_by-cons}
use Rattle.std.proofs.Math.Nat.{div-one}
use Rattle.std.proofs.Math.Seq.{get_or-append_seam}
use Rattle.lab_model.specs.declared.trace.Period.{Period}
use Rattle.lab_model.specs.Cycle.{IsPeriod, IsTrace, cycle_bits, cycle_ms}
use Rattle.network_clock.specs.declared.job.Job.{Job}
use Rattle.network_clock.specs.Flow.{IsFlowing, IsPaced, carried_in, delay_in, delay_of, flow_on, parted_trace}
use Rattle.network_clock.specs.Network.{job_after, job_on, lands_on, lane_at, parted, period_at}
use Rattle.network_clock.specs.Shared.{AreLanes}
use Rattle.network_clock.proofs.Downloads.{lands_same}
use Rattle.network_clock.proofs.Laws.{same_jobs}
use Rattle.network_clock.proofs.Maps.{map_ms, map_period_at}
use Rattle.network_clock.proofs.Periods.{bandwidth_at, latency_at, trace_paced}
use Rattle.network_clock.proofs.Shares.{share_least, share_flows}
use Rattle.network_clock.proofs.Sums.{sum_below_same}

-- ---- the lane of one taker

-- one taker gets all
one_gets_all : (takers w : ℕ) → takers ≤ 1 → w / max 1 takers ≡ w
one_gets_all takers w few = ap (λ d. w / d) (let one : max 1 takers ≡ 1 = omega (arith, few) in one) ∙ div-one w

parted_whole : (takers : ℕ) → takers ≤ 1 → (p : Period) → parted takers p ≡ p
parted_whole takers few p = ap (λ w. record p { bandwidth = w }) (one_gets_all takers p.bandwidth few)

-- the lane of one taker is the trace
pub lane_whole : (takers : ℕ) → takers ≤ 1 → (ps : List Period) → parted_trace takers ps ≡ ps
lane_whole takers few [] = refl
lane_whole takers few (p ∷ ps) = ap₂ (λ q qs. q ∷ qs) (parted_whole takers few p) (lane_whole takers few ps)

-- ---- the limits of a lane

-- a lane has the trace's delays
pub lane_delay : (takers : ℕ) (ps : List Period) → delay_of (parted_trace takers ps) ≡ delay_of ps
lane_delay takers [] = refl
lane_delay takers (p ∷ ps) = ap (λ qs. delay_in p ∷ qs) (lane_delay takers ps)

lane_carries : (takers : ℕ) (ps : List Period) → takers ≤ 8 → cycle_bits ps ≤ 8 * cycle_bits (parted_trace takers ps) + 7 * cycle_ms ps
lane_carries takers [] few = omega arith
lane_carries takers (p ∷ ps) few =
    let rest = lane_carries takers ps few in
    let ms = sum_by-cons (λ (q : Period). q.duration_ms) p ps in
    let bits = sum_by-cons (λ (q : Period). q.duration_ms * q.bandwidth) p ps in
    let shares = sum_by-cons (λ (q : Period). q.duration_ms * q.bandwidth) (parted takers p) (parted_trace takers ps) in
    let least = mul-le-mul_left p.duration_ms (share_least takers p.bandwidth few) in
    omega (arith, rest, ms, bits, shares, least)

lane_period : (takers : ℕ) (p : Period) → IsPeriod p → IsPeriod (parted takers p)
lane_period takers p h = record { duration = h.duration; bandwidth = let most = h.bandwidth in let less = div-le_self p.bandwidth (max 1 takers) in omega (arith, most, less); latency = h.latency }

-- the lane of up to eight takers keeps the limits of a lane
pub lane_paced : (takers : ℕ) (ps : List Period) → takers ≤ 8 → IsTrace ps → IsPaced (parted_trace takers ps)
lane_paced takers ps few h = record {
  count = rw length-map h.count;
  periods = All-map IsPeriod (parted takers) ps (λ k d l. lane_period takers (get_or ps k d) (h.periods k d l));
  cycle = let same = map_ms (parted takers) (λ p. refl) ps in let cycle = h.cycle in omega (arith, same, cycle);
  carries = let same = map_ms (parted takers) (λ p. refl) ps in let least = lane_carries takers ps few in let carries = h.carries in omega (arith, same, least, carries);
}

-- ---- lanes one after the other

-- before the first there is none
pub lanes_none : (ps : List Period) → AreLanes ps 0 []
lanes_none ps = record { count = refl; each = λ k d low. absurd (omega (arith, low)) }

-- the lane of one taker more goes behind them
pub lanes_more : (ps : List Period) (n : ℕ) (lanes : List (List Period)) (lane : List Period) → AreLanes ps n lanes → lane ≡ parted_trace (n + 2) ps → AreLanes ps (n + 1) (lanes ++ lane ∷ [])
lanes_more ps n lanes lane h here =
    let count = h.count in
    record {
      count = let longer = length_push lanes lane in omega (arith, longer, count);
      each = λ k d low.
          ⊎_elim (λ (early : k < n). get_or_append_left lanes (lane ∷ []) d k (omega (arith, early, count)) ∙ h.each k d early)
          (λ (late : n ≤ k).
          let last : k ≡ length lanes = omega (arith, late, low, count) in
          ap (λ i. get_or (lanes ++ lane ∷ []) i d) last ∙ get_or-append_seam lanes lane [] d ∙ here ∙ ap (λ i. parted_trace (i + 2) ps) (sym count ∙ sym last))
          (cases_lt k n);
    }

-- ---- a lane as a network

module _ (takers : ℕ) (ps : List Period) (h : IsTrace ps) where
  lane_period_at : (t : ℕ) → period_at (parted_trace takers ps) t ≡ lane_at ps takers t
  lane_period_at = map_period_at (parted takers) (λ p. refl) ps (trace_paced ps h)

  -- a job comes to the same on a lane and on its trace
  pub lane_jobs : (from n : ℕ) (j : Job) → job_after (parted_trace takers ps) from n j ≡ job_on (lane_at ps takers) from n j
  lane_jobs from n j = same_jobs (period_at (parted_trace takers ps)) (lane_at ps takers) from n j (λ k low. lane_period_at (from + k))

  -- and lands at the same instant
  pub lane_lands : (from : ℕ) (j : Job) → lands_on (period_at (parted_trace takers ps)) from j ≡ lands_on (lane_at ps takers) from j
  lane_lands from j = lands_same (period_at (parted_trace takers ps)) (lane_at ps takers) from j j (λ n. ap (λ (i : Job). i.left) (lane_jobs from n j))

  lane_flow : (t : ℕ) → flow_on carried_in (period_at (parted_trace takers ps)) t ≡ flow_on carried_in (lane_at ps takers) t
  lane_flow t = sum_below_same _ _ t (λ i low. ap carried_in (lane_period_at i))

  -- on the lane of up to eight takers bits come
  pub lane_flows : takers ≤ 8 → IsFlowing 1713000000 (period_at (parted_trace takers ps))
  lane_flows few =
      let lane = parted_trace takers ps in
      let paced = lane_paced takers ps few h in
      record {
        latency = λ t. latency_at lane t paced.periods;
        bandwidth = λ t. bandwidth_at lane t paced.periods;
        carries = λ t n late.
            let carries = (share_flows ps h (λ i. takers) (λ i. few)).carries t n late in
            let before = lane_flow t in
            let after = lane_flow (t + n) in
            omega (arith, carries, before, after);
      }

-- the lane at the place of a number of takers
pub lane_placed : (ps : List Period) (n : ℕ) (lanes : List (List Period)) (takers place : ℕ) (lane : List Period) → AreLanes ps n lanes → place < n → place + 2 ≡ takers → lane ≡ get_or lanes place lane → lane ≡ parted_trace takers ps
lane_placed ps n lanes takers place lane h inside two here = here ∙ h.each place lane inside ∙ ap (λ k. parted_trace k ps) two
