-- How fast a download can run: no millisecond carries more than ten million bits.
use Rattle.std.proofs.Common.{◌≡◌, ℕ, zero, suc, ◌+◌, ◌*◌, ◌≤◌, true, false, ap, ⊎_elim, arith}
use Rattle.std.proofs.lemmas.Bool.{cases_Bool}
use Rattle.lab_model.specs.declared.trace.Period.{Period}
use Rattle.network_clock.specs.declared.job.Job.{Job}
use Rattle.network_clock.specs.Network.{job_on, spends}
use Rattle.network_clock.specs.Flow.{IsFlowing}
use Rattle.network_clock.proofs.Laws.{job_start, job_next, pass_left, pass_delay}

-- what is left of a job falls by at most that much each millisecond
pub left_slow : {longest : ℕ} (net : ℕ → Period) → IsFlowing longest net → (from n : ℕ) (j : Job) → j.left ≤ (job_on net from n j).left + n * 10000000000
left_slow net h from zero j = let left = ap (λ (i : Job). i.left) (job_start net from j) in omega (arith, left)
left_slow net h from (suc n) j =
    let before = left_slow net h from n j in
    let p = net (from + n) in
    let most = h.bandwidth (from + n) in
    let left = ap (λ (i : Job). i.left) (job_next net from n j) in
    ⊎_elim (λ (spent : spends p (job_on net from n j) ≡ true). let one = pass_left p (job_on net from n j) spent in omega (arith, left, one, before, most))
    (λ (delay : spends p (job_on net from n j) ≡ false). let one = pass_delay p (job_on net from n j) delay in omega (arith, left, one, before)) (cases_Bool (spends p (job_on net from n j)))
