-- The abandonment test: whether a running download is given up, and for which rung.
use Rattle.std.specs.Prelude.{ℕ, ◌+◌, ◌-◌, ◌*◌, ◌%◌, ◌==◌, ◌&&◌, ◌≤◌, Bool, nat_le, nat_lt, Option, Some, None, if◌then◌else◌}
use Rattle.lab_model.specs.Film.{Film, bitrate_of, rungs_of, size_of}
use Rattle.lab_model.specs.Rates.{rate_of}
use Rattle.lab_model.specs.Ladder.{greatest_rung}
use Rattle.abandonment.specs.Progress.{Received}

-- a running download is looked at each so many milliseconds
abbrev pub judged_each : ℕ
judged_each = 100

-- and not before so many milliseconds after its request
abbrev pub judged_from : ℕ
judged_from = 500

-- a rate is enough for a rung where this part of it, nine tenths, is its bitrate
abbrev pub enough_numerator : ℕ
enough_numerator = 9

-- the denominator of this part
abbrev pub enough_denominator : ℕ
enough_denominator = 10

-- a download is late where it takes more than this part of a segment's duration, nine fifths
abbrev pub late_numerator : ℕ
late_numerator = 9

-- the denominator of this part
abbrev pub late_denominator : ℕ
late_denominator = 5

-- the rate at which the download runs, in bits per second
abbrev pub rate_now : Received → ℕ
rate_now p = rate_of p.got p.bit_ms

-- the bits that are still to come
abbrev pub left_of : Film → ℕ → ℕ → Received → ℕ
left_of f segment rung p = size_of f segment rung - p.got

-- so many milliseconds after its request a download may be looked at
abbrev pub is_due_ms : ℕ → Bool
is_due_ms elapsed = elapsed % judged_each == 0 && nat_le judged_from elapsed

-- it is looked at each tenth of a second from half a second on, once bits have been waited for
abbrev pub is_due : Received → Bool
is_due p = is_due_ms p.elapsed_ms && nat_le 1 p.bit_ms

-- at this rate the whole download takes more than nine fifths of a segment's duration
abbrev pub is_late : Film → ℕ → ℕ → Received → Bool
is_late f segment rung p =
    nat_lt (late_numerator * f.seg_ms * rate_now p) (late_denominator * (p.elapsed_ms * rate_now p + 1000 * left_of f segment rung p))

-- a rate is enough for a rung: nine tenths of it are its bitrate or more
abbrev pub IsEnough : Film → ℕ → ℕ → Type 0
IsEnough f rung rate = enough_denominator * 1000 * bitrate_of f rung ≤ enough_numerator * rate

-- the greatest rung within nine tenths of the rate, or 0
abbrev pub target_of : Film → Received → ℕ
target_of f p = greatest_rung (λ q. nat_le (enough_denominator * 1000 * bitrate_of f q) (enough_numerator * rate_now p)) (rungs_of f)

-- the target is lower, and smaller than what is still to come
abbrev pub is_better : Film → ℕ → ℕ → Received → Bool
is_better f segment rung p = nat_lt (target_of f p) rung && nat_lt (size_of f segment (target_of f p)) (left_of f segment rung p)

-- the rung for which the download is given up, if it is
abbrev pub abandonment : Film → ℕ → ℕ → Received → Option ℕ
abandonment f segment rung p = if is_due p && is_late f segment rung p && is_better f segment rung p then Some (target_of f p) else None
