-- The network: what a millisecond of a trace does to a download, and when a download is done.
use Rattle.std.specs.Prelude.{ℕ, zero, suc, ◌+◌, ◌-◌, ◌*◌, ◌%◌, ◌==◌, ◌||◌, ◌/◌, Bool, if◌then◌else◌, List, [], ◌∷◌, max, nat_lt}
use Rattle.std.specs.Int.{div_ceil}
use Rattle.lab_model.specs.declared.trace.Period.{Period}
use Rattle.lab_model.specs.Cycle.{cycle_ms}
use Rattle.network_clock.specs.declared.job.Job.{Job}
use Rattle.network_clock.specs.Search.{least_below}

-- what stands where there is no period
abbrev pub no_period : Period
no_period = record { duration_ms = 1; bandwidth = 0; latency = 0 }

-- the period that holds an instant of the first cycle
unfoldable pub period_in : List Period → ℕ → Period
period_in [] t = no_period
period_in (p ∷ ps) t = if nat_lt t p.duration_ms then p else period_in ps (t - p.duration_ms)

-- the period that holds an instant: after the last period the first comes again
unfoldable pub period_at : List Period → ℕ → Period
period_at ps t = period_in ps (t % cycle_ms ps)

-- whether a millisecond in this period is spent on bits
abbrev pub spends : Period → Job → Bool
spends p j = j.credit == 0 || p.latency == 0

-- a millisecond in this period: it passes delay, or else carries bits
abbrev pub pass : Period → Job → Job
pass p j = if spends p j
    then record { credit = 0; left = j.left - p.bandwidth }
    else record { credit = j.credit - div_ceil 100000000 p.latency; left = j.left }

-- whether the millisecond of an instant is spent on bits
abbrev pub is_spent : List Period → ℕ → Job → Bool
is_spent ps t j = spends (period_at ps t) j

-- the job after so many milliseconds from an instant on, on a network that is told by the period of each instant
unfoldable pub job_on : (ℕ → Period) → ℕ → ℕ → Job → Job
job_on net from zero j = j
job_on net from (suc n) j = pass (net (from + n)) (job_on net from n j)

-- the download of so many bits at its request
abbrev pub start_job : ℕ → Job
start_job bits = record { credit = 100000000; left = 1000 * bits }

-- more milliseconds than any download within the limits takes, also on a part of a trace
abbrev pub longest_ms : ℕ
longest_ms = 2000000000

-- the instant at which nothing is left of a job
unfoldable pub lands_on : (ℕ → Period) → ℕ → Job → ℕ
lands_on net from j = from + least_below longest_ms (λ n. (job_on net from n j).left == 0)

-- the instant at which nothing is left of a download
abbrev pub done_on : (ℕ → Period) → ℕ → ℕ → ℕ
done_on net start bits = lands_on net start (start_job bits)

-- the least instant from the request on whose millisecond is spent on bits
unfoldable pub first_on : (ℕ → Period) → ℕ → ℕ → ℕ
first_on net start bits = start + least_below longest_ms (λ n. spends (net (start + n)) (job_on net start n (start_job bits)))

-- ---- the same on a trace

-- the job after so many milliseconds from an instant on
abbrev pub job_after : List Period → ℕ → ℕ → Job → Job
job_after ps from n j = job_on (period_at ps) from n j

-- the instant at which nothing is left of a download
abbrev pub done_at : List Period → ℕ → ℕ → ℕ
done_at ps start bits = done_on (period_at ps) start bits

-- the least instant from the request on whose millisecond is spent on bits
abbrev pub first_at : List Period → ℕ → ℕ → ℕ
first_at ps start bits = first_on (period_at ps) start bits

-- ---- a part of a network

-- a period of which so many takers have equal shares, in whole thousandths of a bit; without takers it is nobody's
abbrev pub parted : ℕ → Period → Period
parted takers p = record p { bandwidth = p.bandwidth / max 1 takers }

-- the lane of each of so many takers of a trace: the period of each instant, parted
abbrev pub lane_at : List Period → ℕ → ℕ → Period
lane_at ps takers t = parted takers (period_at ps t)
