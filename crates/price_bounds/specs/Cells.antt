-- Cells of delays: at first 1 ms wide, then growing by a 64th of what they lie behind the first delay.
use Rattle.std.specs.Prelude.{ℕ, zero, suc, ◌+◌, ◌-◌, ◌/◌, nat_lt}
use Rattle.network_clock.specs.Search.{least_below}

-- no delay of a rung list is later, in milliseconds
abbrev pub farthest_delay : ℕ
farthest_delay = 1000000000000

-- no first delay needs more cells than this
abbrev pub most_cells : ℕ
most_cells = 2600

-- the least delay of a cell, where the first delay is `first`
unfoldable pub least_delay : ℕ → ℕ → ℕ
least_delay first zero = first
least_delay first (suc c) = least_delay first c + 1 + (least_delay first c - first) / 64

-- the greatest delay of a cell: the next one begins behind it
abbrev pub greatest_delay : ℕ → ℕ → ℕ
greatest_delay first c = least_delay first (suc c) - 1

-- the number of cells: up to the first that begins behind the farthest delay
unfoldable pub cells_of : ℕ → ℕ
cells_of first = least_below most_cells (λ c. nat_lt farthest_delay (least_delay first c))
