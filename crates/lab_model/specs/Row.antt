-- Rows of utilities, and the three weights beside them, within their limits.
use Rattle.std.specs.Prelude.{◌≡◌, ℕ, ◌+◌, ◌*◌, ◌<◌, ◌≤◌, List, length, max, slice_index}
use Rattle.std.specs.List.{All, slice_range}
use Rattle.lab_model.specs.Film.{IsWithin, most_rungs, most_segments}

-- a row of utilities within its limits: each is 0 to 1000000, and along the rungs they do not fall
pub record IsRow (row : List ℕ) : Type 0 where
  pub limits : All (λ u. u ≤ 1000000) row
  pub rise : (rung : ℕ) → rung + 1 < length row → slice_index row rung ≤ slice_index row (rung + 1)

-- a row of utilities that stand row by row, so many in each
abbrev pub row_of : List ℕ → ℕ → ℕ → List ℕ
row_of utilities count row = slice_range utilities (row * count) (row * count + count)

-- each of so many rows is within its limits
abbrev pub AreRows : List ℕ → ℕ → ℕ → Type 0
AreRows utilities count rows = (row : ℕ) → row < rows → IsRow (row_of utilities count row)

-- the utilities of weights: `rows` rows of 1 to 16, at most 2000 of them, or where `rows` is 0 one row that is every segment's
pub record AreUtilities (utilities : List ℕ) (count rows : ℕ) : Type 0 where
  pub count_fits : IsWithin 1 most_rungs count
  pub rows_fit : rows ≤ most_segments
  pub whole : length utilities ≡ max rows 1 * count
  pub each : AreRows utilities count (max rows 1)

-- the three weights within their limits
pub record AreWeights (switch stall startup : ℕ) : Type 0 where
  pub switch_fits : switch ≤ 1000000
  pub stall_fits : stall ≤ 1000000
  pub startup_fits : startup ≤ 1000000
