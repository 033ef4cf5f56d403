-- The greatest of what a function gives at the first numbers: nothing is above it, and it is reached.
use Rattle.std.proofs.Common.{◌≡◌, ◌∙◌, ℕ, zero, suc, ◌≤◌, ⊎_elim, refl, sym, ap, subst, arith}
use Rattle.std.specs.Prelude.{ℤ, ◌≤ℤ◌}
use Rattle.std.specs.Int.{int_max}
use Rattle.std.proofs.lemmas.Bool.{cases_eq}
use Rattle.std.proofs.lemmas.Int.{clamps, ints}
use Rattle.lab_model.specs.Number.{IsNear}
use Rattle.completion_bounds.specs.Gain.{greatest_to}

-- nothing is above it
pub greatest_bounds : (f : ℕ → ℤ) (n k : ℕ) → k ≤ n → f k ≤ℤ greatest_to f n
unfolding greatest_to
greatest_bounds f zero k low = let first : 0 ≡ k = omega (arith, low) in subst (λ j. f j ≤ℤ f 0) first (omega (arith, ints))
greatest_bounds f (suc n) k low =
    ⊎_elim (λ (last : k ≡ suc n). subst (λ j. f j ≤ℤ int_max (greatest_to f n) (f (suc n))) (sym last) (omega (arith, ints, clamps)))
    (λ other. let before = greatest_bounds f n k (omega (arith, low, other)) in omega (arith, ints, clamps, before)) (cases_eq k (suc n))

-- functions that agree so far have the same greatest
pub greatest_same : (f h : ℕ → ℤ) (n : ℕ) → ((k : ℕ) → k ≤ n → f k ≡ h k) → greatest_to f n ≡ greatest_to h n
unfolding greatest_to
greatest_same f h zero e = e 0 (omega arith)
greatest_same f h (suc n) e =
    ap (λ v. int_max v (f (suc n))) (greatest_same f h n (λ k low. e k (omega (arith, low)))) ∙ ap (int_max (greatest_to h n)) (e (suc n) (omega arith))

-- the first number alone
pub greatest_first : (f : ℕ → ℤ) → greatest_to f 0 ≡ f 0
unfolding greatest_to
greatest_first f = refl

-- one number more
pub greatest_more : (f : ℕ → ℤ) (n : ℕ) → greatest_to f (suc n) ≡ int_max (greatest_to f n) (f (suc n))
unfolding greatest_to
greatest_more f n = refl

-- where all lie near 0, so does it
pub greatest_near : (far : ℕ) (f : ℕ → ℤ) (n : ℕ) → ((k : ℕ) → k ≤ n → IsNear far (f k)) → IsNear far (greatest_to f n)
unfolding greatest_to
greatest_near far f zero h = h 0 (omega arith)
greatest_near far f (suc n) h =
    let before = greatest_near far f n (λ k low. h k (omega (arith, low))) in
    let last = h (suc n) (omega arith) in
    let low = before.low in
    let high = before.high in
    let least = last.low in
    let most = last.high in
    record { low = omega (arith, ints, clamps, low, least); high = omega (arith, ints, clamps, high, most) }
