-- First in, first out: a download that is asked for earlier, and is no larger, is done no later.
use Rattle.std.proofs.Common.{◌≡◌, ℕ, ◌+◌, ◌-◌, ◌*◌, ◌<◌, ◌≤◌, true, List, ap, ⊎_elim, leb, leb-true, le-leb, arith}
use Rattle.std.proofs.lemmas.Bool.{cases_eq, cases_lt}
use Rattle.lab_model.specs.declared.trace.Period.{Period}
use Rattle.lab_model.specs.Cycle.{IsTrace}
use Rattle.network_clock.specs.Search.{least_below}
use Rattle.network_clock.specs.Network.{done_at, is_spent, job_after, period_at, start_job}
use Rattle.network_clock.specs.Flow.{Opens, carried_in, flow, used_in}
use Rattle.network_clock.proofs.Search.{least_before, least_found}
use Rattle.network_clock.proofs.Sums.{sum_below_grows}
use Rattle.network_clock.proofs.Laws.{credit_after, free_spends, job_start, no_latency_spends}
use Rattle.network_clock.proofs.Flows.{trace_flows}
use Rattle.network_clock.proofs.Periods.{trace_paced}
use Rattle.network_clock.proofs.Downloads.{done_found, done_from, done_is, done_not_before}
use Rattle.network_clock.proofs.Openings.{left_from, left_until, opens_at_end, opens_before_end, spent_means, uses_enough}

-- the first instant by which a whole credit is used up
end_of : List Period → ℕ → ℕ
end_of ps from = from + least_below 10001 (λ n. leb (flow used_in ps from + 100000000) (flow used_in ps (from + n)))

end_reached : (ps : List Period) (from : ℕ) → IsTrace ps → flow used_in ps from + 100000000 ≤ flow used_in ps (end_of ps from)
unfolding end_of
end_reached ps from h =
    let test = λ (n : ℕ). leb (flow used_in ps from + 100000000) (flow used_in ps (from + n)) in
    leb-true _ _ (least_found 10001 test 10000 (omega arith) (le-leb _ _ (uses_enough ps from (trace_paced ps h)))).1

end_first : (ps : List Period) (from : ℕ) → flow used_in ps (end_of ps from - 1) < flow used_in ps from + 100000000
unfolding end_of
end_first ps from =
    let test = λ (n : ℕ). leb (flow used_in ps from + 100000000) (flow used_in ps (from + n)) in
    let n = least_below 10001 test in
    ⊎_elim (λ (none : n ≡ 0).
    let grows = sum_below_grows (λ i. used_in (period_at ps i)) ((from + n) - 1) from (omega arith) in
    omega (arith, grows))
    (λ (some : n ≡ 0 → ⊥).
    let back : from + (n - 1) ≡ (from + n) - 1 = omega arith in
    let same = ap (flow used_in ps) back in
    ⊎_elim (λ (below : flow used_in ps (from + (n - 1)) < flow used_in ps from + 100000000). omega (arith, same, below))
    (λ (reached : flow used_in ps from + 100000000 ≤ flow used_in ps (from + (n - 1))). absurd (least_before 10001 test (n - 1) (omega (arith, some)) (le-leb _ _ reached))) (cases_lt (flow used_in ps (from + (n - 1))) (flow used_in ps from + 100000000))) (cases_eq n 0)

-- each download begins to take bits at some instant
pub opening : (ps : List Period) → IsTrace ps → (from : ℕ) → (first : ℕ) × Opens ps from 100000000 first
opening ps h from =
    let end = end_of ps from in
    ⊎_elim (λ none. (end - 1, opens_before_end ps (trace_paced ps h) from 100000000 end (omega arith) (omega arith) (end_first ps from) (end_reached ps from h) none))
    (λ some. (end, opens_at_end ps (trace_paced ps h) from 100000000 end (omega arith) (omega arith) (end_first ps from) (end_reached ps from h) some)) (cases_eq (period_at ps (end - 1)).latency 0)

-- one that is asked for later begins no earlier
openings_ordered : (ps : List Period) (start later first next : ℕ) → start ≤ later → Opens ps start 100000000 first → Opens ps later 100000000 next → first ≤ next
openings_ordered ps start later first next before o p =
    let from = p.from_on in
    ⊎_elim (λ (early : next < first).
    let place : start + (next - start) ≡ next = omega arith in
    let place_later : later + (next - later) ≡ next = omega arith in
    let j = start_job 0 in
    let credit = credit_after (period_at ps) start (next - start) j (omega arith) in
    let credit_later = credit_after (period_at ps) later (next - later) j (omega arith) in
    let all = ap (flow used_in ps) place in
    let all_later = ap (flow used_in ps) place_later in
    let grows = sum_below_grows (λ i. used_in (period_at ps i)) start later before in
    let spent : is_spent ps next (job_after ps start (next - start) j) ≡ true =
    ⊎_elim (λ none. free_spends (period_at ps next) (job_after ps start (next - start) j) (omega (arith, credit, credit_later, all, all_later, grows, none)))
    (λ none. no_latency_spends (period_at ps next) (job_after ps start (next - start) j) none) (spent_means (period_at ps next) (job_after ps later (next - later) j) (p.spends (1000 * 0))) in
    absurd (o.waits (1000 * 0) (next - start) (omega arith) (rw place spent)))
    (λ (ordered : first ≤ next). ordered) (cases_lt next first)

-- nothing is left of a download of nothing
done_at_once : (ps : List Period) (start bits : ℕ) → bits ≡ 0 → start ≡ done_at ps start bits
done_at_once ps start bits none =
    let at = done_is (period_at ps) start bits 0 (omega arith) (rw job_start (omega (arith, none))) (λ k inside. absurd (omega arith)) in
    omega (arith, at)

-- of two downloads the one that is asked for no later, and is no larger, is done no later
pub first_in_first_out : (ps : List Period) → IsTrace ps → (start later bits more : ℕ) → start ≤ later → bits ≤ more → more ≤ 200000000 → done_at ps start bits ≤ done_at ps later more
first_in_first_out ps h start later bits more before fewer few =
    let end = done_at ps later more in
    let from = done_from (period_at ps) later more in
    ⊎_elim (λ (none : bits ≡ 0). let at = done_at_once ps start bits none in omega (arith, at))
    (λ (some : bits ≡ 0 → ⊥).
    let one = opening ps h start in
    let two = opening ps h later in
    let ordered = openings_ordered ps start later one.0 two.0 before one.1 two.1 in
    let done = (done_found (period_at ps) (trace_flows ps h) (omega arith) later more few).1 in
    ⊎_elim (λ (over : end < done_at ps start bits).
    let place : start + (end - start) ≡ end = omega arith in
    ⊎_elim (λ (early : end < two.0).
    let waits = left_until ps later two.0 end (start_job more) two.1 from (omega arith) in
    absurd (omega (arith, waits, done, some)))
    (λ (late : two.0 ≤ end).
    let left = left_from ps later two.0 end (start_job more) two.1 late in
    let left_first = left_from ps start one.0 end (start_job bits) one.1 (omega (arith, ordered)) in
    let grows = sum_below_grows (λ i. carried_in (period_at ps i)) one.0 two.0 ordered in
    absurd (done_not_before (period_at ps) start bits (end - start) (omega arith) (omega (arith, left, left_first, grows, done)))) (cases_lt end two.0))
    (λ (inside : done_at ps start bits ≤ end). inside) (cases_lt end (done_at ps start bits))) (cases_eq bits 0)
