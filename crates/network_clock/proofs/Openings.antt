-- When the delay of a job is over, by the credit that the milliseconds use.
use Rattle.std.proofs.Common.{◌≡◌, ℕ, suc, ◌+◌, ◌-◌, ◌*◌, ◌<◌, ◌≤◌, ◌⊎◌, true, eqb, List, [], ◌∷◌, get_or, refl, sym, ◌∙◌, ap, ap₂, ⊎_elim, eqb-true, eq-eqb, inl, inr, le-mul_of_pos_right, mul-le-mul_right, mul-le-mul_left, arith}
use Rattle.std.specs.List.{All}
use Rattle.std.specs.Int.{div_ceil}
use Rattle.std.proofs.lemmas.Bool.{cases_eq, cases_lt, or_cases, ne_eqb}
use Rattle.std.proofs.lemmas.Grind.{div_ceil_times}
use Rattle.std.proofs.lemmas.List.{length-map}
use Rattle.std.proofs.lemmas.List.Elements.{All-head, All-map, All-tail}
use Rattle.std.proofs.lemmas.List.Sums.{sum_by-cons}
use Rattle.lab_model.specs.declared.trace.Period.{Period}
use Rattle.lab_model.specs.Cycle.{IsPeriod, IsTrace, cycle_bits, cycle_ms}
use Rattle.network_clock.specs.declared.job.Job.{Job}
use Rattle.network_clock.specs.Network.{done_at, first_at, is_spent, job_after, lands_on, longest_ms, period_at, spends, start_job}
use Rattle.network_clock.specs.Flow.{IsFlowing, IsPaced, Opens, Reaches, carried_in, delay_in, delay_of, flow, used_in}
use Rattle.network_clock.proofs.Sums.{sum_below_at_least, sum_below_grows, sum_below_same}
use Rattle.network_clock.proofs.Periods.{latency_at}
use Rattle.network_clock.proofs.Downloads.{first_is, lands_is}
use Rattle.network_clock.proofs.Flows.{trace_flows}
use Rattle.network_clock.proofs.Maps.{map_ms, map_period_at}
use Rattle.network_clock.proofs.Laws.{credit_after, flow_next, free_spends, job_apart, job_start, left_after, left_waits, no_latency_spends, used_least}

-- ---- the delay of a trace is a trace

ceil_most : (a b : ℕ) → 0 < b → div_ceil a b ≤ a
ceil_most a b some =
    let short = (div_ceil_times a b some).1 in
    ⊎_elim (λ (over : a < div_ceil a b).
    let much = mul-le-mul_right {m = a + 1} {n = div_ceil a b} b (omega (arith, over)) in
    let least = le-mul_of_pos_right {m = b} a some in
    absurd (omega (arith, short, much, least)))
    (λ (inside : div_ceil a b ≤ a). inside) (cases_lt a (div_ceil a b))

-- a millisecond uses at most all of the credit
pub used_most : (p : Period) → used_in p ≤ 100000000
used_most p = ⊎_elim (λ (none : p.latency ≡ 0). rw (eq-eqb p.latency 0 none) (omega arith))
    (λ (some : p.latency ≡ 0 → ⊥). rw (ne_eqb p.latency 0 some) (ceil_most 100000000 p.latency (omega arith))) (cases_eq p.latency 0)

-- the delay's trace has the same cycle
pub delay_ms : (ps : List Period) → cycle_ms (delay_of ps) ≡ cycle_ms ps
delay_ms = map_ms delay_in (λ p. refl)

delay_carries : (ps : List Period) → All IsPeriod ps → 1000 * cycle_ms ps ≤ cycle_bits (delay_of ps)
delay_carries [] h = omega arith
delay_carries (p ∷ ps) h =
    let first = All-head IsPeriod p ps h in
    let rest = delay_carries ps (All-tail IsPeriod p ps h) in
    let ms = sum_by-cons (λ (q : Period). q.duration_ms) p ps in
    let bits = sum_by-cons (λ (q : Period). q.duration_ms * q.bandwidth) (delay_in p) (delay_of ps) in
    let least = mul-le-mul_left p.duration_ms (used_least p first.latency) in
    omega (arith, rest, ms, bits, least)

delay_period : (p : Period) → IsPeriod p → IsPeriod (delay_in p)
delay_period p h = record { duration = h.duration; bandwidth = let most = used_most p in omega (arith, most); latency = h.latency }

-- the delay of a trace keeps the limits of a lane
pub delay_paced : (ps : List Period) → IsPaced ps → IsPaced (delay_of ps)
delay_paced ps h = record {
  count = rw length-map h.count;
  periods = All-map IsPeriod delay_in ps (λ k d l. delay_period (get_or ps k d) (h.periods k d l));
  cycle = let same = delay_ms ps in omega (arith, same, h.cycle);
  carries = let same = delay_ms ps in let least = delay_carries ps h.periods in omega (arith, same, least);
}

-- what the delay's trace carries is the credit that is used
pub delay_flow : (ps : List Period) (t : ℕ) → IsPaced ps → flow carried_in (delay_of ps) t ≡ flow used_in ps t
delay_flow ps t h = sum_below_same _ _ t (λ i l. ap carried_in (map_period_at delay_in (λ p. refl) ps h i))

-- the same of the trace that a clock keeps
pub delay_flow_of : (delay ps : List Period) → IsPaced ps → delay ≡ delay_of ps → (t : ℕ) → flow carried_in delay t ≡ flow used_in ps t
delay_flow_of delay ps h e t = rw e (delay_flow ps t h)

-- ---- the instant at which the credit is used up

-- what is reached on the delay's trace is that instant
pub used_up : (delay ps : List Period) (from credit was end : ℕ) → IsPaced ps → delay ≡ delay_of ps → was ≡ flow carried_in delay from → Reaches delay (was + credit) end
    → (flow used_in ps (end - 1) < flow used_in ps from + credit) × (flow used_in ps from + credit ≤ flow used_in ps end)
used_up delay ps from credit was end h e was_is r =
    let here = delay_flow_of delay ps h e from in
    let last = delay_flow_of delay ps h e (end - 1) in
    let all = delay_flow_of delay ps h e end in
    (omega (arith, here, last, was_is, r.before), omega (arith, here, all, was_is, r.there))

-- within 10000 milliseconds it is
pub uses_enough : (ps : List Period) (from : ℕ) → IsPaced ps → flow used_in ps from + 100000000 ≤ flow used_in ps (from + 10000)
uses_enough ps from h =
    let uses = sum_below_at_least (λ i. used_in (period_at ps i)) 10000 from 10000 (λ i. used_least (period_at ps i) (latency_at ps i h.periods)) in
    omega (arith, uses)

-- where a millisecond is spent on bits, no credit is left or the period has no latency
pub spent_means : (p : Period) (j : Job) → spends p j ≡ true → (j.credit ≡ 0) ⊎ (p.latency ≡ 0)
spent_means p j h = ⊎_elim (λ free. inl (eqb-true j.credit 0 free)) (λ none. inr (eqb-true p.latency 0 none)) (or_cases (eqb j.credit 0) (eqb p.latency 0) h)

no_latency_uses : (p : Period) → p.latency ≡ 0 → used_in p ≡ 100000000
no_latency_uses p h = rw (eq-eqb p.latency 0 h) refl

module _ (ps : List Period) (h : IsPaced ps) (from credit end : ℕ) (some : 1 ≤ credit) (few : credit ≤ 100000000) (before : flow used_in ps (end - 1) < flow used_in ps from + credit) (there : flow used_in ps from + credit ≤ flow used_in ps end) where
  end_later : from < end
  end_later = ⊎_elim (λ (later : from < end). later) (λ (early : end ≤ from). let grows = sum_below_grows (λ i. used_in (period_at ps i)) end from early in absurd (omega (arith, grows, there, some))) (cases_lt from end)

  end_soon : end ≤ from + 10000
  end_soon = ⊎_elim (λ (late : from + 10000 < end). let grows = sum_below_grows (λ i. used_in (period_at ps i)) (from + 10000) (end - 1) (omega arith) in let uses = uses_enough ps from h in absurd (omega (arith, grows, before, uses, few))) (λ (soon : end ≤ from + 10000). soon) (cases_lt (from + 10000) end)

  credit_left : (left k : ℕ) → from + k < end → (job_after ps from k (record { credit = credit; left = left })).credit ≡ 0 → ⊥
  credit_left left k early none =
      let after = credit_after (period_at ps) from k (record { credit = credit; left = left }) few in
      let grows = sum_below_grows (λ i. used_in (period_at ps i)) (from + k) (end - 1) (omega arith) in
      absurd (omega (arith, after, grows, before, none))

  waits_before : (left k : ℕ) → from + k < end - 1 → is_spent ps (from + k) (job_after ps from k (record { credit = credit; left = left })) ≡ true → ⊥
  waits_before left k early spent =
      ⊎_elim (λ none. credit_left left k (omega arith) none)
      (λ (none : (period_at ps (from + k)).latency ≡ 0).
      let uses = no_latency_uses (period_at ps (from + k)) none in
      let more = flow_next used_in (period_at ps) (from + k) in
      let grows = sum_below_grows (λ i. used_in (period_at ps i)) (suc (from + k)) (end - 1) early in
      let starts = sum_below_grows (λ i. used_in (period_at ps i)) from (from + k) (omega arith) in
      absurd (omega (arith, uses, more, grows, starts, before, few))) (spent_means (period_at ps (from + k)) (job_after ps from k (record { credit = credit; left = left })) spent)

  -- the last millisecond of the delay has no latency: it is spent on bits itself
  pub opens_before_end : (period_at ps (end - 1)).latency ≡ 0 → Opens ps from credit (end - 1)
  opens_before_end none = record {
    from_on = let later = end_later in omega arith;
    soon = let soon = end_soon in omega arith;
    waits = waits_before;
    spends = λ left. no_latency_spends (period_at ps (end - 1)) (job_after ps from ((end - 1) - from) (record { credit = credit; left = left })) none;
    uses = let later = end_later in let back : (end - 1) + 1 ≡ end = omega arith in rw back there;
  }

  -- or else it passes delay
  pub opens_at_end : ((period_at ps (end - 1)).latency ≡ 0 → ⊥) → Opens ps from credit end
  opens_at_end latency = record {
    from_on = let later = end_later in omega arith;
    soon = end_soon;
    waits = λ left k early spent. ⊎_elim (λ (inside : from + k < end - 1). waits_before left k inside spent)
        (λ (last : end - 1 ≤ from + k).
        let place : from + k ≡ end - 1 = omega arith in
        ⊎_elim (λ none. credit_left left k early none)
        (λ none. latency (ap (λ t. (period_at ps t).latency) (sym place) ∙ none)) (spent_means (period_at ps (from + k)) (job_after ps from k (record { credit = credit; left = left })) spent)) (cases_lt (from + k) (end - 1));
    spends = λ left.
        let later = end_later in
        let place : from + (end - from) ≡ end = omega arith in
        let after = credit_after (period_at ps) from (end - from) (record { credit = credit; left = left }) few in
        let all = ap (flow used_in ps) place in
        free_spends (period_at ps end) (job_after ps from (end - from) (record { credit = credit; left = left })) (omega (arith, after, all, there));
    uses = let grows = sum_below_grows (λ i. used_in (period_at ps i)) end (end + 1) (omega arith) in omega (arith, grows, there);
  }

-- without credit it is now
pub opens_now : (ps : List Period) (from : ℕ) → Opens ps from 0 from
opens_now ps from = record {
  from_on = omega arith;
  soon = omega arith;
  waits = λ left k early. absurd (omega arith);
  spends = λ left.
      let none : from - from ≡ 0 = omega arith in
      rw (none, job_start) (free_spends (period_at ps from) (record { credit = 0; left = left }) refl);
  uses = let grows = sum_below_grows (λ i. used_in (period_at ps i)) from (from + 1) (omega arith) in omega (arith, grows);
}

-- ---- what follows for a job

job_is : (a b : Job) → a.credit ≡ b.credit → a.left ≡ b.left → a ≡ b
job_is a b credit left = ap₂ {C = Job} (λ c l. record { credit = c; left = l }) credit left

-- until then nothing comes
pub left_until : (ps : List Period) (from first t : ℕ) (j : Job) → Opens ps from j.credit first → from ≤ t → t ≤ first → (job_after ps from (t - from) j).left ≡ j.left
left_until ps from first t j o later early = left_waits (period_at ps) from (t - from) j (λ k inside. o.waits j.left k (omega arith))

-- from then on all that can be carried comes
pub left_from : (ps : List Period) (from first t : ℕ) (j : Job) → Opens ps from j.credit first → first ≤ t → (job_after ps from (t - from) j).left ≡ (j.left + flow carried_in ps first) - flow carried_in ps t
left_from ps from first t j o later =
    let start = o.from_on in
    let parts : t - from ≡ (first - from) + (t - first) = omega arith in
    let place : from + (first - from) ≡ first = omega arith in
    let end : first + (t - first) ≡ t = omega arith in
    let i = job_after ps from (first - from) j in
    let apart = ap (λ n. job_after ps from n j) parts ∙ job_apart (period_at ps) from (first - from) (t - first) j ∙ ap (λ n. job_after ps n (t - first) i) place in
    let left = ap (λ (k : Job). k.left) apart in
    let until = left_until ps from first first j o start (omega arith) in
    let after = (left_after (period_at ps) first (t - first) i (o.spends j.left)).1 in
    let all = ap (flow carried_in ps) end in
    omega (arith, left, until, after, all)

-- up to the first millisecond that is spent on bits a job loses credit alone
pub job_until : (ps : List Period) (from first t : ℕ) (j : Job) → j.credit ≤ 100000000 → Opens ps from j.credit first → from ≤ t → t ≤ first
    → job_after ps from (t - from) j ≡ record { credit = j.credit - (flow used_in ps t - flow used_in ps from); left = j.left }
job_until ps from first t j few o later early =
    let place : from + (t - from) ≡ t = omega arith in
    let credit = credit_after (period_at ps) from (t - from) j few in
    let all = ap (flow used_in ps) place in
    let grows = sum_below_grows (λ i. used_in (period_at ps i)) from t later in
    job_is (job_after ps from (t - from) j) (record { credit = j.credit - (flow used_in ps t - flow used_in ps from); left = j.left }) (omega (arith, credit, all, grows)) (left_until ps from first t j o later early)

-- behind it a job has no credit, and has lost the bits that were carried since
pub job_from : (ps : List Period) (from first t : ℕ) (j : Job) → j.credit ≤ 100000000 → Opens ps from j.credit first → first < t
    → job_after ps from (t - from) j ≡ record { credit = 0; left = j.left - (flow carried_in ps t - flow carried_in ps first) }
job_from ps from first t j few o later =
    let start = o.from_on in
    let place : from + (t - from) ≡ t = omega arith in
    let credit = credit_after (period_at ps) from (t - from) j few in
    let all = ap (flow used_in ps) place in
    let grows = sum_below_grows (λ i. used_in (period_at ps i)) (first + 1) t (omega arith) in
    let left = left_from ps from first t j o (omega arith) in
    let carries = sum_below_grows (λ i. carried_in (period_at ps i)) first t (omega arith) in
    job_is (job_after ps from (t - from) j) (record { credit = 0; left = j.left - (flow carried_in ps t - flow carried_in ps first) }) (omega (arith, credit, all, grows, o.uses)) (omega (arith, left, carries))

-- the first instant of a download
pub first_opens : (ps : List Period) (start bits first : ℕ) → Opens ps start 100000000 first → first ≡ first_at ps start bits
first_opens ps start bits first o =
    let from = o.from_on in
    let soon = o.soon in
    let place : start + (first - start) ≡ first = omega arith in
    sym place ∙ first_is (period_at ps) start bits (first - start) (omega arith) (rw place (o.spends (1000 * bits))) (λ k inside. o.waits (1000 * bits) k (omega arith))

-- what is carried from an instant on is there later
pub reached_after : (ps : List Period) (from wanted done : ℕ) → 1 ≤ wanted → Reaches ps (flow carried_in ps from + wanted) done → from < done
reached_after ps from wanted done some r =
    let there = r.there in
    ⊎_elim (λ (later : from < done). later)
    (λ (early : done ≤ from). let grows = sum_below_grows (λ i. carried_in (period_at ps i)) done from early in absurd (omega (arith, grows, there, some))) (cases_lt from done)

-- the instant at which nothing is left of a job
pub lands_reached : {longest : ℕ} (ps : List Period) → IsFlowing longest (period_at ps) → longest + 10000 < longest_ms → (from first done : ℕ) (j : Job) → 1 ≤ j.left → j.left ≤ 200000000000
    → Opens ps from j.credit first → Reaches ps (flow carried_in ps first + j.left) done → done ≡ lands_on (period_at ps) from j
lands_reached {longest} ps h short from first done j some few o r =
    let start = o.from_on in
    let soon = o.soon in
    let before = r.before in
    let there = r.there in
    let later = reached_after ps first j.left done some r in
    let enough = h.carries first longest (omega arith) in
    let near : done ≤ first + longest = ⊎_elim (λ (late : first + longest < done). let grows = sum_below_grows (λ i. carried_in (period_at ps i)) (first + longest) (done - 1) (omega arith) in absurd (omega (arith, grows, before, enough, few))) (λ (near : done ≤ first + longest). near) (cases_lt (first + longest) done) in
    let place : from + (done - from) ≡ done = omega arith in
    let left = left_from ps from first done j o (omega arith) in
    sym place ∙ lands_is (period_at ps) from j (done - from) (omega (arith, start, soon, near, short)) (omega (arith, left, there))
    (λ k inside none. ⊎_elim
    (λ (after : first < from + k).
    let back : (from + k) - from ≡ k = omega arith in
    let kept = left_from ps from first (from + k) j o (omega arith) in
    let same = ap (λ n. (job_after ps from n j).left) back in
    let grows = sum_below_grows (λ i. carried_in (period_at ps i)) (from + k) (done - 1) (omega arith) in
    absurd (omega (arith, kept, same, grows, before, none)))
    (λ (until : from + k ≤ first).
    let back : (from + k) - from ≡ k = omega arith in
    let kept = left_until ps from first (from + k) j o (omega arith) until in
    let same = ap (λ n. (job_after ps from n j).left) back in
    absurd (omega (arith, kept, same, none, some))) (cases_lt first (from + k)))

-- and that of a download
pub done_reached : (ps : List Period) → IsTrace ps → (start bits first done : ℕ) → 1 ≤ bits → bits ≤ 200000000 → Opens ps start 100000000 first → Reaches ps (flow carried_in ps first + 1000 * bits) done → done ≡ done_at ps start bits
done_reached ps h start bits first done some few = lands_reached ps (trace_flows ps h) (omega arith) start first done (start_job bits) (omega (arith, some)) (omega (arith, few))
