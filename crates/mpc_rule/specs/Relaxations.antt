-- What the segments to come can add at most, where a millisecond of media has a price.
use Rattle.std.specs.Prelude.{ℕ, ◌≡◌, ◌+◌, ◌-◌, ◌*◌, ◌≤◌, ◌<◌, List, slice_index_or, ℤ, pos, ◌+ℤ◌, ◌-ℤ◌, ◌≤ℤ◌}
use Rattle.std.specs.List.{All}
use Rattle.lab_model.specs.Weighing.{utility_of}
use Rattle.mpc_rule.specs.declared.forecast.Draft.{Draft}
use Rattle.mpc_rule.specs.Lookahead.{IsLookahead, Lookahead, room_of, weights_of}
use Rattle.mpc_rule.specs.Search.{completions, rungs_left, wait_at}

-- a list in hand has at most this score
abbrev pub IsUnder : ℤ → Draft → Type 0
IsUnder z d = d.score ≤ℤ z

-- no whole list that begins with this one has more than this score
abbrev pub IsCeiling : Lookahead → Draft → ℤ → Type 0
IsCeiling o d z = All (IsUnder z) (completions o (rungs_left o d) d)

-- what a rung of a segment promises: its utility, less the price of its milliseconds, and less what the price leaves of the stall from a full buffer
abbrev pub promise_of : Lookahead → ℕ → ℕ → ℕ → ℤ
promise_of o price segment rung =
    pos (1000 * utility_of (weights_of o) segment rung)
    -ℤ pos (price * wait_at o segment rung + ((weights_of o).stall - price) * (wait_at o segment rung - room_of o))

-- the promise of a rung of the segment after so many
abbrev pub promise_at : Lookahead → ℕ → ℕ → ℕ → ℤ
promise_at o price count rung = promise_of o price (o.context.next + count) rung

-- a promise lies within its limits
pub record IsPromise (z : ℤ) : Type 0 where
  pub least : pos 0 ≤ℤ (z +ℤ pos 200000000000000000)
  pub most : z ≤ℤ pos 1000000000

-- the last so many segments, after this many, add at most so much to the score and the price of the level in hand
pub record IsMostToCome (o : Lookahead) (price n count : ℕ) (z : ℤ) : Type 0 where
  pub under : (d : Draft) → d.count ≡ count → d.level ≤ room_of o → All (IsUnder (d.score +ℤ pos (price * d.level) +ℤ z)) (completions o n d)
  pub least : pos 0 ≤ℤ (z +ℤ pos (200000000000000000 * n))
  pub most : z ≤ℤ pos (61000000000 * n)

-- at a price, the last segments that are looked at can add at most these, the last alone, the last two, and so on
pub record IsRelaxation (o : Lookahead) (price : ℕ) (sums : List ℤ) : Type 0 where
  pub lookahead : IsLookahead o
  pub cheap : price ≤ (weights_of o).stall
  pub most : (n : ℕ) (z : ℤ) → n < o.span → IsMostToCome o price (n + 1) (o.span - (n + 1)) (slice_index_or sums n z)
