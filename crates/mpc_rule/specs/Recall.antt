-- What RobustMPC keeps of a history.
use Rattle.std.specs.Prelude.{◌≡◌, ℕ, ◌+◌, ◌*◌, ◌/◌, ◌≤◌, List, length, max}
use Rattle.std.specs.List.{All}
use Rattle.circular_buffer.specs.Buffer.{Buffer}
use Rattle.lab_model.specs.Film.{IsWithin}
use Rattle.lab_model.specs.Rates.{errors_of, greatest, harmonic_of, last_of}

-- the horizon, and the last rates and errors
pub record Recall : Type 0 where
  pub horizon : ℕ
  pub rates : List ℕ
  pub errors : List ℕ

-- it stands for a history: it keeps the last 5 of its rates, and the last 5 of their errors
pub record IsRecallOf (r : Recall) (history : List ℕ) : Type 0 where
  pub rates : r.rates ≡ last_of 5 history
  pub errors : r.errors ≡ last_of 5 (errors_of history)

-- the ring holds at most 5 numbers, each within its limits
pub record IsRing (low high : ℕ) (ring : Buffer ℕ) : Type 0 where
  pub capacity : ring.capacity ≡ 5
  pub count : length ring.items ≤ 5
  pub numbers : All (IsWithin low high) ring.items

-- the rate that is reckoned with
abbrev pub rate_ahead : Recall → ℕ
rate_ahead r = max 1 (1000 * harmonic_of r.rates / (1000 + greatest r.errors))
