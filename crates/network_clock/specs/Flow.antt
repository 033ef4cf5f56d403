-- Not part of the model: what the proofs keep.
-- What the milliseconds before an instant bring, and the sums by which it is found without going through them.
use Rattle.std.specs.Prelude.{◌≡◌, ℕ, zero, suc, ◌+◌, ◌-◌, ◌*◌, ◌<◌, ◌≤◌, ◌==◌, if◌then◌else◌, true, List, length, map, take, slice_index}
use Rattle.std.specs.List.{All, sum_by}
use Rattle.std.specs.Int.{div_ceil}
use Rattle.lab_model.specs.declared.trace.Period.{Period}
use Rattle.lab_model.specs.Cycle.{IsPeriod, cycle_bits, cycle_ms}
use Rattle.lab_model.specs.Film.{IsWithin}
use Rattle.network_clock.specs.declared.meter.Place.{Place}
use Rattle.network_clock.specs.Network.{is_spent, job_after, parted, period_at, period_in}

-- the sum of what a function gives at the numbers below one
unfoldable pub sum_below : (ℕ → ℕ) → ℕ → ℕ
sum_below f zero = 0
sum_below f (suc n) = sum_below f n + f n

-- what the milliseconds before an instant bring, each at its period's rate
abbrev pub flow_on : (Period → ℕ) → (ℕ → Period) → ℕ → ℕ
flow_on rate net t = sum_below (λ i. rate (net i)) t

-- the same on a trace
abbrev pub flow : (Period → ℕ) → List Period → ℕ → ℕ
flow rate ps t = flow_on rate (period_at ps) t

-- the same within the first cycle
abbrev pub flow_in : (Period → ℕ) → List Period → ℕ → ℕ
flow_in rate ps t = sum_below (λ i. rate (period_in ps i)) t

-- the bits that a millisecond can carry, in thousandths
abbrev pub carried_in : Period → ℕ
carried_in p = p.bandwidth

-- a network on which so many milliseconds and more, from any instant on, carry the bits of the greatest download
pub record IsFlowing (longest : ℕ) (net : ℕ → Period) : Type 0 where
  pub latency : (t : ℕ) → (net t).latency ≤ 10000
  pub bandwidth : (t : ℕ) → (net t).bandwidth ≤ 10000000000
  pub carries : (t n : ℕ) → longest ≤ n → 200000000000 + flow_on carried_in net t ≤ flow_on carried_in net (t + n)

-- the credit that a millisecond takes off a job: all of it where there is no latency
abbrev pub used_in : Period → ℕ
used_in p = if p.latency == 0 then 100000000 else div_ceil 100000000 p.latency

-- a period's delay as a period: what a millisecond carries is the credit that it uses
abbrev pub delay_in : Period → Period
delay_in p = record p { bandwidth = used_in p }

-- the delay of a trace as a trace
abbrev pub delay_of : List Period → List Period
delay_of ps = map delay_in ps

-- the lane of each of so many takers of a trace, as a trace
abbrev pub parted_trace : ℕ → List Period → List Period
parted_trace takers ps = map (parted takers) ps

-- the limits of a trace and of the lanes of up to eight takers: on the mean of a cycle a millisecond carries 124 thousandths of a bit
pub record IsPaced (ps : List Period) : Type 0 where
  pub count : IsWithin 1 100000 (length ps)
  pub periods : All IsPeriod ps
  pub cycle : cycle_ms ps ≤ 100000000
  pub carries : 124 * cycle_ms ps ≤ cycle_bits ps

-- the sums over the first 0, 1 and so on up to n periods
pub record AreSums (size : Period → ℕ) (ps : List Period) (n : ℕ) (sums : List ℕ) : Type 0 where
  pub count : length sums ≡ n + 1
  pub each : (k : ℕ) → k ≤ n → slice_index sums k ≡ sum_by size (take k ps)

-- the sums that a meter keeps: of the milliseconds, and of what they carry
pub record IsMeter (ps : List Period) (start_sums carried_sums : List ℕ) : Type 0 where
  pub paced : IsPaced ps
  pub starts : AreSums (λ p. p.duration_ms) ps (length ps) start_sums
  pub sums : AreSums (λ p. p.duration_ms * p.bandwidth) ps (length ps) carried_sums

-- an instant lies in the period of a place, or at its end
pub record Touches (ps : List Period) (place : Place) (t : ℕ) : Type 0 where
  pub inside : place.period < length ps
  pub begins : place.cycles * cycle_ms ps + cycle_ms (take place.period ps) ≤ t
  pub ends : t ≤ place.cycles * cycle_ms ps + cycle_ms (take (suc place.period) ps)

-- an instant is the first before which so much is carried
pub record Reaches (ps : List Period) (target instant : ℕ) : Type 0 where
  pub before : flow carried_in ps (instant - 1) < target
  pub there : target ≤ flow carried_in ps instant

-- an instant is the first whose millisecond is spent on a job with this credit
pub record Opens (ps : List Period) (from credit instant : ℕ) : Type 0 where
  pub from_on : from ≤ instant
  pub soon : instant ≤ from + 10000
  pub waits : (left k : ℕ) → from + k < instant → is_spent ps (from + k) (job_after ps from k (record { credit = credit; left = left })) ≡ true → ⊥
  pub spends : (left : ℕ) → is_spent ps instant (job_after ps from (instant - from) (record { credit = credit; left = left })) ≡ true
  pub uses : flow used_in ps from + credit ≤ flow used_in ps (instant + 1)

-- what is seen of a request: the trace and the instant
pub record RequestValue : Type 0 where
  pub periods : List Period
  pub start : ℕ
