-- Dominance is inherited by successors and end values, whoever made the labels.
use Rattle.std.proofs.Common.{ℕ, ◌*◌, ◌<◌, ◌≤◌, arith, mul-le-mul_left}
use Rattle.std.specs.Prelude.{ℤ, pos, ◌+ℤ◌, ◌-ℤ◌, ◌≤ℤ◌}
use Rattle.std.proofs.lemmas.Int.{ints}
use Rattle.lab_model.specs.declared.label.Label.{Label}
use Rattle.lab_model.specs.Film.{rungs_of, segments_of, size_of}
use Rattle.network_clock.proofs.Order.{first_in_first_out}
use Rattle.player_core.proofs.Runs.{size_within}
use Rattle.labels.specs.Labels.{Dominates, came_at, end_value, next_label, request_at}
use Rattle.player_core.specs.Scene.{IsTask, Task}

-- a label that dominates is followed by a request that is no later
pub request_inherits : (g : Task) (i : ℕ) (a b : Label) → Dominates a b → request_at g i a ≤ request_at g i b
request_inherits g i a b h = let t = h.0 in let p = h.1 in omega (arith, t, p)

-- what is asked for earlier has come no later
pub came_in_order : (g : Task) → IsTask g → (i r : ℕ) → i < segments_of g.film → r < rungs_of g.film → (start later : ℕ) → start ≤ later → came_at g start i r ≤ came_at g later i r
came_in_order g is i r low rung start later h =
    let size = size_within g.film i r is.film low rung in
    first_in_first_out g.periods is.trace start later (size_of g.film i r) (size_of g.film i r) h (omega arith) size.1

value_inherits : (a b : ℤ) (x y : ℕ) → b ≤ℤ a → ((b +ℤ pos x) -ℤ pos y) ≤ℤ ((a +ℤ pos x) -ℤ pos y)
value_inherits a b x y h = omega (arith, ints)

less_stall : (a b : ℤ) (stall p q : ℕ) → b ≤ℤ a → p ≤ q → (b -ℤ pos (stall * q)) ≤ℤ (a -ℤ pos (stall * p))
less_stall a b stall p q h low = let more = mul-le-mul_left stall low in omega (arith, ints, more)

-- a label that dominates has successors that dominate
pub inherits : (g : Task) → IsTask g → (i q r : ℕ) → i < segments_of g.film → r < rungs_of g.film → (a b : Label) → Dominates a b → Dominates (next_label g i q a r) (next_label g i q b r)
inherits g is i q r low rung a b h =
    let came = came_in_order g is i r low rung (request_at g i a) (request_at g i b) (request_inherits g i a b h) in
    let p = h.1 in
    (came, omega (arith, came, p), value_inherits a.v b.v _ _ h.2)

-- and an end value that is no less
pub end_inherits : (g : Task) (a b : Label) → Dominates a b → end_value g b ≤ℤ end_value g a
end_inherits g a b h = less_stall a.v b.v g.setup.weights.stall a.p b.p h.2 h.1
