-- Rounding: the rounded label dominates the label, and is near it; on the grid 1, 1 it is the label.
use Rattle.std.proofs.Common.{◌≡◌, ◌∙◌, ℕ, suc, ◌+◌, ◌*◌, ◌/◌, ◌<◌, ◌≤◌, ⊎_elim, ap, arith, mul-le-mul_right}
use Rattle.std.specs.Int.{div_ceil}
use Rattle.std.proofs.lemmas.Bool.{cases_lt}
use Rattle.std.proofs.lemmas.Nat.{le-div}
use Rattle.std.specs.Prelude.{ℤ, pos, negsuc, neg_ℤ, ◌+ℤ◌, ◌≤ℤ◌}
use Rattle.std.proofs.lemmas.Int.{ints}
use Rattle.std.proofs.lemmas.Grind.{div_ceil_times}
use Rattle.lab_model.specs.declared.label.Label.{Label}
use Rattle.labels.specs.Labels.{Dominates}
use Rattle.labels.specs.Grid.{IsGrid, Rounding, exact, multiple_above, multiple_below, rounded}

-- a multiple below is no greater, and a multiple of 1 is the number
pub below_low : (step n : ℕ) → 1 ≤ step → multiple_below step n ≤ n
below_low step n some = omega arith

-- rounding down to a multiple of 1 changes nothing
pub below_one : (n : ℕ) → multiple_below 1 n ≡ n
below_one n = omega arith

-- a multiple above is no less, and less than a step away
pub above_high : (step : ℕ) (v : ℤ) → 1 ≤ step → (v ≤ℤ multiple_above step v) × (multiple_above step v ≤ℤ (v +ℤ pos step))
above_high step (pos n) some = let t = div_ceil_times n step some in (omega (arith, ints, t.0), omega (arith, ints, t.1))
above_high step (negsuc n) some = let low : multiple_below step (suc n) ≤ suc n = omega arith in let near : suc n ≤ multiple_below step (suc n) + step = omega arith in (omega (arith, ints, low), omega (arith, ints, near))

-- rounding up to a multiple of 1 changes nothing
pub above_one : (v : ℤ) → multiple_above 1 v ≡ v
above_one (pos n) = let t = div_ceil_times n 1 (omega arith) in let low = t.0 in let high = t.1 in ap pos (omega (arith, low, high))
above_one (negsuc n) = let e = below_one (suc n) in ap (λ m. neg_ℤ (pos m)) e

-- the rounded label dominates the label
pub round_dominates : (d : Rounding) → IsGrid d → (l : Label) → Dominates (rounded d l) l
round_dominates d is l = let time = is.time.0 in let value = is.value.0 in (below_low d.time l.t time, below_low d.time l.p time, (above_high d.value l.v value).0)

-- on the grid 1, 1 nothing changes
pub round_exact : (l : Label) → rounded exact l ≡ l
round_exact l =
    ap (λ (n : ℕ). record { t = n; p = multiple_below 1 l.p; v = multiple_above 1 l.v }) (below_one l.t) ∙ ap (λ (n : ℕ). record { t = l.t; p = n; v = multiple_above 1 l.v }) (below_one l.p)
    ∙ ap (λ (n : ℤ). record { t = l.t; p = l.p; v = n }) (above_one l.v)

-- it is a grid
pub exact_fits : IsGrid exact
exact_fits = record { time = (omega arith, omega arith); value = (omega arith, omega arith) }

-- ---- rounding keeps the order

below_in_order : (step n m : ℕ) → 1 ≤ step → n ≤ m → multiple_below step n ≤ multiple_below step m
below_in_order step n m some h =
    let low = below_low step n some in
    let less : n / step ≤ m / step = le-div (n / step) m step some (omega (arith, low, h)) in
    mul-le-mul_right step less

ceil_in_order : (step n m : ℕ) → 1 ≤ step → n ≤ m → div_ceil n step * step ≤ div_ceil m step * step
ceil_in_order step n m some h =
    let one = div_ceil_times n step some in
    let two = div_ceil_times m step some in
    let near = one.1 in
    let far = two.0 in
    ⊎_elim
    (λ (more : div_ceil m step < div_ceil n step).
    let wide : (div_ceil m step + 1) * step ≤ div_ceil n step * step = mul-le-mul_right step (omega (arith, more)) in
    absurd (omega (arith, wide, near, far, h)))
    (λ (less : div_ceil n step ≤ div_ceil m step). mul-le-mul_right step less) (cases_lt (div_ceil m step) (div_ceil n step))

above_in_order : (step : ℕ) (v w : ℤ) → 1 ≤ step → v ≤ℤ w → multiple_above step v ≤ℤ multiple_above step w
above_in_order step (pos n) (pos m) some h = let less = ceil_in_order step n m some (omega (arith, ints, h)) in omega (arith, ints, less)
above_in_order step (pos n) (negsuc m) some h = absurd (omega (arith, ints, h))
above_in_order step (negsuc n) (pos m) some h = omega (arith, ints)
above_in_order step (negsuc n) (negsuc m) some h = let less = below_in_order step (suc m) (suc n) some (omega (arith, ints, h)) in omega (arith, ints, less)

-- where a label dominates another, so it is rounded
pub round_inherits : (d : Rounding) → IsGrid d → (a b : Label) → Dominates a b → Dominates (rounded d a) (rounded d b)
round_inherits d is a b h =
    let time = is.time.0 in
    (below_in_order d.time a.t b.t time h.0, below_in_order d.time a.p b.p time h.1, above_in_order d.value b.v a.v is.value.0 h.2)
