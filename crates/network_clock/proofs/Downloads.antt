-- When a download begins to take bits, and when it is done.
use Rattle.std.proofs.Common.{◌≡◌, ℕ, ◌+◌, ◌-◌, ◌<◌, ◌≤◌, true, eqb, refl, sym, ◌∙◌, ap, subst, ⊎_elim, eqb-true, eq-eqb, arith}
use Rattle.std.proofs.lemmas.Bool.{cases_lt}
use Rattle.lab_model.specs.declared.trace.Period.{Period}
use Rattle.network_clock.specs.declared.job.Job.{Job}
use Rattle.network_clock.specs.Search.{least_below}
use Rattle.network_clock.specs.Network.{done_on, first_on, job_on, lands_on, longest_ms, spends, start_job}
use Rattle.network_clock.specs.Flow.{IsFlowing}
use Rattle.network_clock.proofs.Search.{least_before, least_found, least_is, least_same}
use Rattle.network_clock.proofs.Laws.{downloads_begin, downloads_end, free_spends, left_after, left_waits, same_spends}

-- ---- what makes an instant the one

-- an instant whose millisecond is spent on bits, where none before it is, is the one at which a download begins
pub first_is : (net : ℕ → Period) (start bits n : ℕ) → n < longest_ms → spends (net (start + n)) (job_on net start n (start_job bits)) ≡ true
    → ((k : ℕ) → k < n → spends (net (start + k)) (job_on net start k (start_job bits)) ≡ true → ⊥) → start + n ≡ first_on net start bits
unfolding first_on
first_is net start bits n inside spent none = ap (λ m. start + m) (least_is longest_ms (λ m. spends (net (start + m)) (job_on net start m (start_job bits))) n inside spent none)

-- an instant at which nothing is left of a job, where something is before it, is the one at which it lands
pub lands_is : (net : ℕ → Period) (from : ℕ) (j : Job) (n : ℕ) → n < longest_ms → (job_on net from n j).left ≡ 0 → ((k : ℕ) → k < n → (job_on net from k j).left ≡ 0 → ⊥) → from + n ≡ lands_on net from j
unfolding lands_on
lands_is net from j n inside none before =
    ap (λ m. from + m)
    (least_is longest_ms (λ m. eqb (job_on net from m j).left 0) n inside (eq-eqb _ 0 none) (λ k h e. before k h (eqb-true _ 0 e)))

-- the same of a download
pub done_is : (net : ℕ → Period) (start bits n : ℕ) → n < longest_ms → (job_on net start n (start_job bits)).left ≡ 0
    → ((k : ℕ) → k < n → (job_on net start k (start_job bits)).left ≡ 0 → ⊥) → start + n ≡ done_on net start bits
done_is net start bits n inside none before = lands_is net start (start_job bits) n inside none before

-- jobs of which the same is left at each instant land at the same instant
pub lands_same : (net other : ℕ → Period) (from : ℕ) (j i : Job) → ((n : ℕ) → (job_on net from n j).left ≡ (job_on other from n i).left) → lands_on net from j ≡ lands_on other from i
unfolding lands_on
lands_same net other from j i same =
    ap (λ m. from + m) (least_same longest_ms (λ n. eqb (job_on net from n j).left 0) (λ n. eqb (job_on other from n i).left 0) (λ n. ap (λ left. eqb left 0) (same n)))

-- a job whose millisecond is spent on bits lands where it would without credit
pub lands_free : (net : ℕ → Period) (from : ℕ) (j : Job) → spends (net from) j ≡ true → lands_on net from j ≡ lands_on net from (record { credit = 0; left = j.left })
lands_free net from j spent =
    let free : Job = record { credit = 0; left = j.left } in
    lands_same net net from j free (λ n. (left_after net from n j spent).1 ∙ sym (left_after net from n free (free_spends (net from) free refl)).1)

-- ---- what is known of them

-- no download begins before its request
pub first_from : (net : ℕ → Period) (start bits : ℕ) → start ≤ first_on net start bits
unfolding first_on
first_from net start bits = omega arith

-- a download begins within 10000 milliseconds of its request, in one that is spent on bits
pub first_found : {longest : ℕ} (net : ℕ → Period) → IsFlowing longest net → longest + 10000 < longest_ms → (start bits : ℕ)
    → (first_on net start bits ≤ start + 10000) × (spends (net (first_on net start bits)) (job_on net start (first_on net start bits - start) (start_job bits)) ≡ true)
unfolding first_on
first_found net h short start bits =
    let test = λ (m : ℕ). spends (net (start + m)) (job_on net start m (start_job bits)) in
    let found = least_found longest_ms test 10000 (omega arith) (downloads_begin net h start bits) in
    let early = found.0 in
    let back : least_below longest_ms test ≡ (start + least_below longest_ms test) - start = omega arith in
    (omega (arith, early), subst (λ m. spends (net (start + least_below longest_ms test)) (job_on net start m (start_job bits)) ≡ true) back found.1)

-- no millisecond before that is spent on bits
pub first_not_before : (net : ℕ → Period) (start bits n : ℕ) → start + n < first_on net start bits → spends (net (start + n)) (job_on net start n (start_job bits)) ≡ true → ⊥
unfolding first_on
first_not_before net start bits n early = least_before longest_ms (λ m. spends (net (start + m)) (job_on net start m (start_job bits))) n (omega arith)

-- no download is done before its request
pub done_from : (net : ℕ → Period) (start bits : ℕ) → start ≤ done_on net start bits
unfolding lands_on
done_from net start bits = omega arith

-- a download within the limits is done within 10000 milliseconds and the longest stretch of bits, and then nothing is left
pub done_found : {longest : ℕ} (net : ℕ → Period) → IsFlowing longest net → longest + 10000 < longest_ms → (start bits : ℕ) → bits ≤ 200000000
    → (done_on net start bits ≤ start + (longest + 10000)) × ((job_on net start (done_on net start bits - start) (start_job bits)).left ≡ 0)
unfolding lands_on
done_found net h short start bits few =
    let test = λ (m : ℕ). eqb (job_on net start m (start_job bits)).left 0 in
    let found = least_found longest_ms test _ short (eq-eqb _ 0 (downloads_end net h start bits few)) in
    let early = found.0 in
    let back : least_below longest_ms test ≡ (start + least_below longest_ms test) - start = omega arith in
    (omega (arith, early), subst (λ m. (job_on net start m (start_job bits)).left ≡ 0) back (eqb-true _ 0 found.1))

-- at each instant from the request to that something is left
pub done_not_before : (net : ℕ → Period) (start bits n : ℕ) → start + n < done_on net start bits → (job_on net start n (start_job bits)).left ≡ 0 → ⊥
unfolding lands_on
done_not_before net start bits n early none = least_before longest_ms (λ m. eqb (job_on net start m (start_job bits)).left 0) n (omega arith) (eq-eqb _ 0 none)

-- a download takes at least one millisecond after its delay
pub first_before_done : {longest : ℕ} (net : ℕ → Period) → IsFlowing longest net → longest + 10000 < longest_ms → (start bits : ℕ) → 1 ≤ bits → bits ≤ 200000000 → first_on net start bits < done_on net start bits
first_before_done net h short start bits some few =
    ⊎_elim (λ early. early)
    (λ late. let n = done_on net start bits - start in
    let from = done_from net start bits in
    let waits = left_waits net start n (start_job bits) (λ k l. first_not_before net start bits k (omega arith)) in
    let none = (done_found net h short start bits few).1 in
    absurd (omega (arith, waits, none))) (cases_lt (first_on net start bits) (done_on net start bits))

-- on networks of equal latencies a download begins at the same instant
pub first_same : {longest : ℕ} (net other : ℕ → Period) → IsFlowing longest net → longest + 10000 < longest_ms → ((t : ℕ) → (net t).latency ≡ (other t).latency) → (start bits : ℕ) → first_on net start bits ≡ first_on other start bits
first_same net other h short same start bits =
    let n = first_on net start bits - start in
    let from = first_from net start bits in
    let found = first_found net h short start bits in
    let early = found.0 in
    let place : start + n ≡ first_on net start bits = omega arith in
    let spent : spends (net (start + n)) (job_on net start n (start_job bits)) ≡ true = rw place found.1 in
    sym place ∙ first_is other start bits n (omega arith) (sym (same_spends net other same start n (start_job bits)) ∙ spent)
    (λ k inside there. first_not_before net start bits k (omega arith) (same_spends net other same start k (start_job bits) ∙ there))
