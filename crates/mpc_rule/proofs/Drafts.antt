-- A list in hand keeps its limits with one more rung.
use Rattle.std.proofs.Common.{◌≡◌, ℕ, zero, suc, ◌+◌, ◌-◌, ◌*◌, ◌<◌, ◌≤◌, ◌==◌, Some, refl, ap, arith}
use Rattle.std.proofs.Math.Dec.{eqb-suc-zero}
use Rattle.std.proofs.Math.Nat.{mul-le-mul, mul-le-mul_left}
use Rattle.std.specs.Prelude.{ℤ, pos, ◌+ℤ◌, ◌≤ℤ◌, if◌then◌else◌}
use Rattle.std.proofs.lemmas.Int.{ints}
use Rattle.lab_model.specs.Horizon.{next_level}
use Rattle.mpc_rule.specs.declared.forecast.Draft.{Draft}
use Rattle.mpc_rule.specs.Lookahead.{Lookahead, ladder_of}
use Rattle.mpc_rule.specs.Search.{IsDraft, extended, gain_of, wait_of}

-- what one more rung adds lies within its limits
pub record IsGain (z : ℤ) : Type 0 where
  pub least : pos 0 ≤ℤ (z +ℤ pos 200001000000000000)
  pub most : z ≤ℤ pos 1000000000

-- the list in hand with one more rung, from its first rung, its level and its score
pub extended_is : (o : Lookahead) (d : Draft) (r first level : ℕ) (score : ℤ) → first ≡ (if d.count == 0 then r else d.first)
    → level ≡ next_level o.film o.setup.buffer_ms d.level (wait_of o d r) → score ≡ d.score +ℤ gain_of o d r
    → (record { first = first; before = Some r; count = d.count + 1; level = level; score = score }) ≡ extended o d r
unfolding extended
extended_is o d r first level score f l s = λ i. record { first = f i; before = Some r; count = d.count + 1; level = l i; score = s i }

-- and it is one that is at most as long as the look ahead
pub draft_grows : (o : Lookahead) (d : Draft) (r first level : ℕ) (score : ℤ) → level ≡ next_level o.film o.setup.buffer_ms d.level (wait_of o d r) → score ≡ d.score +ℤ gain_of o d r
    → r < ladder_of o → o.film.seg_ms ≤ o.setup.buffer_ms → IsGain (gain_of o d r) → d.count < o.span → IsDraft o d
    → IsDraft o (record { first = first; before = Some r; count = d.count + 1; level = level; score = score })
draft_grows o d r first level score l s rung room gain more is = record {
  count = omega (arith, more);
  before = rung;
  level = omega (arith, l);
  least = let before = is.least in let here = gain.least in omega (arith, ints, s, before, here);
  most = let before = is.most in let here = gain.most in omega (arith, ints, s, before, here);
}

-- the first rung of a list of one
pub first_new : (n r f : ℕ) → n ≡ 0 → r ≡ (if n == 0 then r else f)
first_new n r f none = rw none refl

-- the first rung of a longer list stays
pub first_kept : (n r f : ℕ) → 0 < n → f ≡ (if n == 0 then r else f)
first_kept zero r f some = absurd (omega (arith, some))
first_kept (suc n) r f some = let no = eqb-suc-zero n in rw no refl

-- what one more rung takes by its change and by its stall is within limits
pub loss_most : (switch change stall late : ℕ) → switch ≤ 1000000 → change ≤ 1000000 → stall ≤ 1000000 → late ≤ 200000000000
    → switch * change + stall * late ≤ 200001000000000000
loss_most switch change stall late a b c d = let one = mul-le-mul a b in let two = mul-le-mul c d in omega (arith, one, two)

-- what a rung promises not is within limits
pub promise_most : (p stall wait over : ℕ) → p ≤ stall → stall ≤ 1000000 → over ≤ wait → wait ≤ 200000000000 → p * wait + (stall - p) * over ≤ 200000000000000000
promise_most p stall wait over low few less long =
    let rest = mul-le-mul_left (stall - p) less in
    let all = mul-le-mul few long in
    let same : p + (stall - p) ≡ stall = omega (arith, low) in
    let whole : (p + (stall - p)) * wait ≡ stall * wait = ap (λ (s : ℕ). s * wait) same in
    omega (arith, rest, all, whole)
