-- Laws of a network that is told by the period of each instant: what is left of a job after any number of milliseconds, and that a download ends.
use Rattle.std.proofs.Common.{◌≡◌, ℕ, zero, suc, ◌+◌, ◌-◌, ◌<◌, ◌≤◌, true, false, refl, sym, ◌∙◌, ap, ap₂, mul-le-mul_left, add-one, add-zero, add-suc, ⊎_elim, eqb, arith, ◌||◌}
use Rattle.std.specs.Int.{div_ceil}
use Rattle.std.proofs.lemmas.Bool.{cases_Bool, cases_eq, eq-eqb, ne_eqb}
use Rattle.std.proofs.lemmas.Bool.Decides.{nat_tests}
use Rattle.std.proofs.lemmas.Grind.{div_ceil_times}
use Rattle.lab_model.specs.declared.trace.Period.{Period}
use Rattle.network_clock.specs.declared.job.Job.{Job}
use Rattle.network_clock.specs.Network.{pass, spends, job_on, start_job}
use Rattle.network_clock.proofs.Sums.{sum_below_grows, sum_below_at_least}
use Rattle.network_clock.specs.Flow.{IsFlowing, carried_in, flow_on, sum_below, used_in}

-- a millisecond takes off the credit that its period uses
pub pass_credit : (p : Period) (j : Job) → j.credit ≤ 100000000 → (pass p j).credit ≡ j.credit - used_in p
pass_credit p j h = grind (arith, nat_tests)

-- a millisecond that is spent on bits takes off what its period carries
pub pass_left : (p : Period) (j : Job) → spends p j ≡ true → (pass p j).left ≡ j.left - p.bandwidth
pass_left p j h = rw h refl

-- any other millisecond leaves the bits as they are
pub pass_delay : (p : Period) (j : Job) → spends p j ≡ false → (pass p j).left ≡ j.left
pass_delay p j h = rw h refl

-- a millisecond that is spent on bits leaves no credit
pub pass_free : (p : Period) (j : Job) → spends p j ≡ true → (pass p j).credit ≡ 0
pass_free p j h = rw h refl

-- one millisecond more brings the rate of its period
pub flow_next : (rate : Period → ℕ) (net : ℕ → Period) (t : ℕ) → flow_on rate net (suc t) ≡ flow_on rate net t + rate (net t)
unfolding sum_below
flow_next rate net t = refl

-- after no milliseconds a job is as it was
pub job_start : (net : ℕ → Period) (from : ℕ) (j : Job) → job_on net from 0 j ≡ j
unfolding job_on
job_start net from j = refl

-- after one millisecond more it has passed that one's period
pub job_next : (net : ℕ → Period) (from n : ℕ) (j : Job) → job_on net from (suc n) j ≡ pass (net (from + n)) (job_on net from n j)
unfolding job_on
job_next net from n j = refl

-- the same where a loop counts
pub job_more : (net : ℕ → Period) (from n : ℕ) (j : Job) → job_on net from (n + 1) j ≡ pass (net (from + n)) (job_on net from n j)
job_more net from n j = rw add-one (job_next net from n j)

-- the same, where the milliseconds are told by their instant
pub job_more_at : (net : ℕ → Period) (from t : ℕ) (j : Job) → from ≤ t → job_on net from ((t + 1) - from) j ≡ pass (net t) (job_on net from (t - from) j)
job_more_at net from t j h =
    let one : (t + 1) - from ≡ (t - from) + 1 = omega arith in
    let here : from + (t - from) ≡ t = omega arith in
    ap (λ n. job_on net from n j) one ∙ job_more net from (t - from) j ∙ ap (λ k. pass (net k) (job_on net from (t - from) j)) here

-- the milliseconds one after another: first n, then m
pub job_apart : (net : ℕ → Period) (from n m : ℕ) (j : Job) → job_on net from (n + m) j ≡ job_on net (from + n) m (job_on net from n j)
job_apart net from n zero j = rw add-zero (sym (job_start net (from + n) (job_on net from n j)))
job_apart net from n (suc m) j =
    let before = job_apart net from n m j in
    let same : from + (n + m) ≡ (from + n) + m = omega arith in
    rw add-suc (job_next net from (n + m) j ∙ ap₂ (λ k i. pass (net k) i) same before ∙ sym (job_next net (from + n) m (job_on net from n j)))

-- the credit falls by what the milliseconds use
pub credit_after : (net : ℕ → Period) (from n : ℕ) (j : Job) → j.credit ≤ 100000000 → (job_on net from n j).credit ≡ (j.credit + flow_on used_in net from) - flow_on used_in net (from + n)
credit_after net from zero j h = rw add-zero (let e = ap (λ (i : Job). i.credit) (job_start net from j) in omega (arith, e))
credit_after net from (suc n) j h =
    let before = credit_after net from n j h in
    let grows = sum_below_grows (λ i. used_in (net i)) from (from + n) (omega arith) in
    let one = pass_credit (net (from + n)) (job_on net from n j) (omega (arith, before, grows)) in
    let next = ap (λ (i : Job). i.credit) (job_next net from n j) in
    let more = flow_next used_in net (from + n) in
    rw add-suc (omega (arith, before, one, next, more))

-- without credit each millisecond is spent on bits
pub free_spends : (p : Period) (j : Job) → j.credit ≡ 0 → spends p j ≡ true
free_spends p j h = grind (arith, nat_tests)

-- without latency each millisecond is spent on bits
pub no_latency_spends : (p : Period) (j : Job) → p.latency ≡ 0 → spends p j ≡ true
no_latency_spends p j h = grind (arith, nat_tests)

-- once a millisecond is spent on bits, each later one is, and what is left falls by what they carry
pub left_after : (net : ℕ → Period) (from n : ℕ) (j : Job) → spends (net from) j ≡ true
    → (spends (net (from + n)) (job_on net from n j) ≡ true) × ((job_on net from n j).left ≡ (j.left + flow_on carried_in net from) - flow_on carried_in net (from + n))
left_after net from zero j h =
    let start = job_start net from j in
    let left = ap (λ (i : Job). i.left) start in
    (rw (add-zero, start) h, rw add-zero (omega (arith, left)))
left_after net from (suc n) j h =
    let before = left_after net from n j h in
    let p = net (from + n) in
    let next = job_next net from n j in
    let credit = ap (λ (i : Job). i.credit) next in
    let left = ap (λ (i : Job). i.left) next in
    let free = pass_free p (job_on net from n j) before.0 in
    let one = pass_left p (job_on net from n j) before.0 in
    let more = flow_next carried_in net (from + n) in
    let was = before.1 in
    (free_spends (net (from + suc n)) (job_on net from (suc n) j) (omega (arith, credit, free)), rw add-suc (omega (arith, left, one, more, was)))

-- what is left never grows
pub left_falls : (net : ℕ → Period) (from n : ℕ) (j : Job) → (job_on net from n j).left ≤ j.left
left_falls net from zero j = let left = ap (λ (i : Job). i.left) (job_start net from j) in omega (arith, left)
left_falls net from (suc n) j =
    let before = left_falls net from n j in
    let p = net (from + n) in
    let left = ap (λ (i : Job). i.left) (job_next net from n j) in
    ⊎_elim (λ (spent : spends p (job_on net from n j) ≡ true). let one = pass_left p (job_on net from n j) spent in omega (arith, left, one, before))
    (λ (delay : spends p (job_on net from n j) ≡ false). let one = pass_delay p (job_on net from n j) delay in omega (arith, left, one, before)) (cases_Bool (spends p (job_on net from n j)))

used_enough : (l : ℕ) → 0 < l → l ≤ 10000 → 10000 ≤ div_ceil 100000000 l
used_enough l some few =
    let whole = (div_ceil_times 100000000 l some).0 in
    let most = mul-le-mul_left (div_ceil 100000000 l) few in
    omega (arith, whole, most)

-- each millisecond of delay uses at least a ten thousandth of the whole credit
pub used_least : (p : Period) → p.latency ≤ 10000 → 10000 ≤ used_in p
used_least p h = ⊎_elim (λ (none : p.latency ≡ 0). rw (eq-eqb p.latency 0 none) (omega arith))
    (λ (some : p.latency ≡ 0 → ⊥). rw (ne_eqb p.latency 0 some) (used_enough p.latency (omega arith) h)) (cases_eq p.latency 0)

-- after 10000 milliseconds the delay is over
pub credit_ends : {longest : ℕ} (net : ℕ → Period) → IsFlowing longest net → (from n : ℕ) (j : Job) → j.credit ≤ 100000000 → 10000 ≤ n → (job_on net from n j).credit ≡ 0
credit_ends net h from n j small late =
    let after = credit_after net from n j small in
    let uses = sum_below_at_least (λ i. used_in (net i)) 10000 from n (λ i. used_least (net i) (h.latency i)) in
    omega (arith, after, uses)

-- the law: a job within the limits has nothing left 10000 milliseconds after the longest stretch of bits
pub jobs_end : {longest : ℕ} (net : ℕ → Period) → IsFlowing longest net → (from n : ℕ) (j : Job) → j.credit ≤ 100000000 → j.left ≤ 200000000000 → longest + 10000 ≤ n → (job_on net from n j).left ≡ 0
jobs_end net h from n j small few late =
    let rest = n - 10000 in
    let parts : n ≡ 10000 + rest = omega arith in
    let i = job_on net from 10000 j in
    let free = credit_ends net h from 10000 j small (omega arith) in
    let falls = left_falls net from 10000 j in
    let after = (left_after net (from + 10000) rest i (free_spends (net (from + 10000)) i free)).1 in
    let enough = h.carries (from + 10000) rest (omega arith) in
    let whole = ap (λ (k : Job). k.left) (ap (λ m. job_on net from m j) parts ∙ job_apart net from 10000 rest j) in
    omega (arith, whole, after, enough, falls)

-- downloads end
pub downloads_end : {longest : ℕ} (net : ℕ → Period) → IsFlowing longest net → (start bits : ℕ) → bits ≤ 200000000 → (job_on net start (longest + 10000) (start_job bits)).left ≡ 0
downloads_end net h start bits few = jobs_end net h start _ (start_job bits) (omega arith) (omega arith) (omega arith)

-- and they begin: within 10000 milliseconds one is spent on bits
pub downloads_begin : {longest : ℕ} (net : ℕ → Period) → IsFlowing longest net → (start bits : ℕ) → spends (net (start + 10000)) (job_on net start 10000 (start_job bits)) ≡ true
downloads_begin net h start bits = free_spends (net (start + 10000)) (job_on net start 10000 (start_job bits)) (credit_ends net h start 10000 (start_job bits) (omega arith) (omega arith))

-- until a millisecond is spent on bits nothing comes
pub left_waits : (net : ℕ → Period) (from n : ℕ) (j : Job) → ((k : ℕ) → k < n → spends (net (from + k)) (job_on net from k j) ≡ true → ⊥) → (job_on net from n j).left ≡ j.left
left_waits net from zero j none = ap (λ (i : Job). i.left) (job_start net from j)
left_waits net from (suc n) j none =
    let before = left_waits net from n j (λ k h. none k (omega arith)) in
    let p = net (from + n) in
    let left = ap (λ (i : Job). i.left) (job_next net from n j) in
    ⊎_elim (λ (spent : spends p (job_on net from n j) ≡ true). absurd (none n (omega arith) spent))
    (λ (delay : spends p (job_on net from n j) ≡ false). let one = pass_delay p (job_on net from n j) delay in omega (arith, left, one, before)) (cases_Bool (spends p (job_on net from n j)))

-- ---- networks that agree

-- on networks that agree at so many instants a job comes to the same
pub same_jobs : (net other : ℕ → Period) (from n : ℕ) (j : Job) → ((k : ℕ) → k < n → net (from + k) ≡ other (from + k)) → job_on net from n j ≡ job_on other from n j
same_jobs net other from zero j same = job_start net from j ∙ sym (job_start other from j)
same_jobs net other from (suc n) j same =
    let before = same_jobs net other from n j (λ k h. same k (omega arith)) in
    job_next net from n j ∙ ap₂ pass (same n (omega arith)) before ∙ sym (job_next other from n j)

pass_same : (p q : Period) (i j : Job) → p.latency ≡ q.latency → i.credit ≡ j.credit → (pass p i).credit ≡ (pass q j).credit
pass_same p q i j latency credit = grind (arith, nat_tests)

-- on networks of equal latencies a job keeps the same credit
pub same_credits : (net other : ℕ → Period) → ((t : ℕ) → (net t).latency ≡ (other t).latency) → (from n : ℕ) (j : Job) → (job_on net from n j).credit ≡ (job_on other from n j).credit
same_credits net other same from zero j = ap (λ (i : Job). i.credit) (job_start net from j ∙ sym (job_start other from j))
same_credits net other same from (suc n) j =
    let before = same_credits net other same from n j in
    ap (λ (i : Job). i.credit) (job_next net from n j)
    ∙ pass_same (net (from + n)) (other (from + n)) (job_on net from n j) (job_on other from n j) (same (from + n)) before
    ∙ ap (λ (i : Job). i.credit) (sym (job_next other from n j))

-- and the same milliseconds are spent on bits
pub same_spends : (net other : ℕ → Period) → ((t : ℕ) → (net t).latency ≡ (other t).latency) → (from n : ℕ) (j : Job) → spends (net (from + n)) (job_on net from n j) ≡ spends (other (from + n)) (job_on other from n j)
same_spends net other same from n j = ap₂ (λ c l. eqb c 0 || eqb l 0) (same_credits net other same from n j) (same (from + n))
