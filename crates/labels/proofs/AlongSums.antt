-- The arithmetic of a session along a rung list, in numbers.
use Rattle.std.proofs.Common.{◌≡◌, ℕ, ◌+◌, ◌-◌, ◌*◌, ◌<◌, ◌≤◌, max, ap, arith, ⊎_elim}
use Rattle.std.specs.Prelude.{ℤ, pos, ◌+ℤ◌, ◌-ℤ◌}
use Rattle.std.proofs.lemmas.Int.{ints}
use Rattle.std.proofs.lemmas.Bool.{cases_lt}

-- at an arrival what was waited is the new delay
pub arrive_waited : (x w t y k s lp : ℕ) → x + w ≡ t → y ≡ k * s → x ≤ y → lp ≤ w → (x < y → w ≡ lp) → w ≡ max lp (t - k * s)
arrive_waited x w t y k s lp spent end position least tight =
    ⊎_elim (λ inside. let same = tight inside in omega (arith, same)) (λ full. omega arith) (cases_lt x y)

-- a request that can be made is made at its instant at the earliest
pub ask_true : (x w t y k s b lp lt a : ℕ) → x + w ≡ t → y ≡ k * s → x ≤ y → lp ≤ w → lt ≤ t → a ≤ t → y - x + s ≤ b → max (max lt (lp + (k + 1) * s - b)) a ≤ t
ask_true x w t y k s b lp lt a spent end position least came there room = omega arith

-- from that instant on there is room
pub ask_false : (x w t y k s b lp lt a : ℕ) → x + w ≡ t → y ≡ k * s → x ≤ y → (x < y → w ≡ lp) → s ≤ b → max (max lt (lp + (k + 1) * s - b)) a ≤ t → y - x + s ≤ b
ask_false x w t y k s b lp lt a spent end position tight buffer late =
    ⊎_elim (λ inside. let same = tight inside in omega (arith, same)) (λ full. omega arith) (cases_lt x y)

-- the next value
pub value_next : (u more c change st su sw p0 : ℕ) (v w : ℤ) → v ≡ pos (1000 * u + st * p0) -ℤ pos (su * p0 + sw * c) → w ≡ (v +ℤ pos (1000 * more)) -ℤ pos (sw * change)
    → w ≡ pos (1000 * (u + more) + st * p0) -ℤ pos (su * p0 + sw * (c + change))
value_next u more c change st su sw p0 v w h k = omega (arith, ints)

-- the end value is the score
pub value_end : (u c st su sw p0 stall lp : ℕ) → stall + p0 ≡ lp → (pos (1000 * u + st * p0) -ℤ pos (su * p0 + sw * c)) -ℤ pos (st * lp) ≡ pos (1000 * u) -ℤ pos (sw * c + st * stall + su * p0)
value_end u c st su sw p0 stall lp e = let whole = ap (λ n. st * n) e in omega (arith, ints, whole)
