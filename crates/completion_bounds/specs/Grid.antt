-- The grid of a table of completion bounds: rows of delays, and columns of how far a request lies behind them.
use Rattle.std.specs.Prelude.{◌≡◌, ℕ, zero, suc, ◌+◌, ◌*◌, ◌≤◌, ◌==◌, Bool, List, length, slice_index, if◌then◌else◌, nat_le}
use Rattle.std.specs.List.Sorted.{IsStrictlyIncreasing}
use Rattle.lab_model.specs.Film.{IsWithin, rungs_of, segments_of}
use Rattle.player_core.specs.Scene.{Task}

-- the step in ms, the greatest column, and the rows, each in steps
pub record GridParts : Type 0 where
  pub step : ℕ
  pub columns : ℕ
  pub rows : List ℕ

-- the delay of a row in steps
abbrev pub row_steps : GridParts → ℕ → ℕ
row_steps d k = slice_index d.rows k

-- the delay of a row in ms
abbrev pub row_delay : GridParts → ℕ → ℕ
row_delay d k = d.step * row_steps d k

-- the longest delay of a row, in ms
abbrev pub longest_delay : ℕ
longest_delay = 1000000000000

-- the limits of a grid: the first row is 0, the rows rise, and the last isn't too long
pub record IsTableGrid (d : GridParts) : Type 0 where
  pub step : IsWithin 1 10000 d.step
  pub columns : 1 ≤ d.columns
  pub some : 1 ≤ length d.rows
  pub first : row_steps d 0 ≡ 0
  pub rising : IsStrictlyIncreasing d.rows
  pub delays : (k : ℕ) → row_delay d k ≤ longest_delay

-- the rungs that a table tells apart: one serves all where a change costs nothing
abbrev pub kinds_of : Task → ℕ
kinds_of g = if g.setup.weights.switch == 0 then 1 else rungs_of g.film

-- the numbers of a table for each segment
abbrev pub layer_numbers : Task → GridParts → ℕ
layer_numbers g d = length d.rows * (d.columns + 1) * kinds_of g

-- the numbers of a table
abbrev pub table_numbers : Task → GridParts → ℕ
table_numbers g d = segments_of g.film * layer_numbers g d

-- the most numbers of a table
abbrev pub most_numbers : ℕ
most_numbers = 64000000

-- a grid within the limits for a task
pub record IsGridOf (g : Task) (d : GridParts) : Type 0 where
  pub grid : IsTableGrid d
  pub numbers : table_numbers g d ≤ most_numbers

-- the greatest number below a count that passes a test, or 0
unfoldable pub last_passing : (ℕ → Bool) → ℕ → ℕ
last_passing passes zero = 0
last_passing passes (suc n) = if passes n then n else last_passing passes n

-- the row of a delay: the last one that isn't longer
abbrev pub delay_row : GridParts → ℕ → ℕ
delay_row d delay = last_passing (λ k. nat_le (row_delay d k) delay) (length d.rows)
