-- Samples: the rate of a download, and what is made of a history of rates.
use Rattle.std.specs.Prelude.{ℕ, ◌+◌, ◌-◌, ◌*◌, ◌/◌, List, [], ◌∷◌, ◌++◌, length, drop, max}
use Rattle.std.specs.Int.{abs_diff}
use Rattle.std.specs.List.{fold, sum_by}

-- the sample of a download in bits per second, at least 1: the bits that came, over the milliseconds from the first one spent on bits
abbrev pub rate_of : ℕ → ℕ → ℕ
rate_of got bit_ms = max 1 (1000 * got / bit_ms)

-- the last so many of a list, all of it where it is shorter
abbrev pub last_of : ℕ → List ℕ → List ℕ
last_of n xs = drop (length xs - n) xs

-- the inverse of a rate, in fixed point
abbrev pub inverse_of : ℕ → ℕ
inverse_of c = 1000000000000 / c

-- the harmonic value of rates, in fixed point: their number over the sum of their inverses, 0 without rates
abbrev pub harmonic_of : List ℕ → ℕ
harmonic_of rates = length rates * 1000000000000 / sum_by inverse_of rates

-- the error, in thousandths, of foretelling a sample by the harmonic value of the at most 5 samples before it
abbrev pub error_after : List ℕ → ℕ → ℕ
error_after before c = 1000 * abs_diff (harmonic_of (last_of 5 before)) c / c

-- the errors of samples that come after others, in order
abbrev pub errors_from : List ℕ → List ℕ → List ℕ
errors_from before [] = []
errors_from before (c ∷ cs) = error_after before c ∷ errors_from (before ++ c ∷ []) cs

-- the errors of a history: of each sample but the first
abbrev pub errors_of : List ℕ → List ℕ
errors_of [] = []
errors_of (c ∷ cs) = errors_from (c ∷ []) cs

-- the greatest of numbers, 0 where there is none
abbrev pub greatest : List ℕ → ℕ
greatest xs = fold (λ a b. max a b) 0 xs

-- the rate that RobustMPC (SIGCOMM 2015) reckons with, in this project's fixed point
abbrev pub robust_rate : List ℕ → ℕ
robust_rate history = max 1 (1000 * harmonic_of (last_of 5 history) / (1000 + greatest (last_of 5 (errors_of history))))
