-- The generator of made cases: one state after the other, and a number drawn from each.
use Rattle.std.specs.Prelude.{ℕ, zero, suc, ◌+◌, ◌*◌, ◌/◌, ◌%◌, List, map}
use Rattle.lab_model.specs.Ladder.{rungs_below}

-- the state after one draw
abbrev pub next_state : ℕ → ℕ
next_state x = (x * 1103515245 + 12345) % 2147483648

-- the state after so many draws
unfoldable pub state_after : ℕ → ℕ → ℕ
state_after x zero = x
state_after x (suc k) = next_state (state_after x k)

-- the number, 0 to 32767, that is drawn after `k` others: the high bits of the state after it
abbrev pub draw : ℕ → ℕ → ℕ
draw x k = state_after x (suc k) / 65536

-- the first numbers drawn from a state on, so many
abbrev pub draws_from : ℕ → ℕ → List ℕ
draws_from x count = map (λ k. draw x k) (rungs_below count)
