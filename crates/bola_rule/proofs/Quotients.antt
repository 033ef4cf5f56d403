-- Quotients of whole numbers, compared by cross products.
use Rattle.std.proofs.Common.{◌≡◌, ◌∙◌, ◌≤◌, ◌*◌, ℕ, zero, suc, ℤ, pos, ◌+ℤ◌, ◌*ℤ◌, ◌≤ℤ◌, true, false, Bool, int_le, refl, sym, ap, arith}
use Rattle.std.proofs.Math.IntN.{suc_ℤ-*ℤ, zero-*ℤ, pos-*ℤ-pos, *ℤ-zero, *ℤ_comm}
use Rattle.std.proofs.lemmas.Int.{ints}
use Rattle.lab_model.proofs.Orders.{≤ℤ_trans}

le_true : (a b : ℤ) → int_le a b ≡ true → a ≤ℤ b
le_true a b h = grind (arith, ints)

le_from : (a b : ℤ) → a ≤ℤ b → int_le a b ≡ true
le_from a b h = grind (arith, ints)

le_false : (a b : ℤ) → int_le a b ≡ false → b ≤ℤ a
le_false a b h = grind (arith, ints)

less_false : (a b : ℤ) → int_le a b ≡ false → (b +ℤ pos 1) ≤ℤ a
less_false a b h = grind (arith, ints)

times : (n : ℕ) (x y : ℤ) → x ≤ℤ y → (pos n *ℤ x) ≤ℤ (pos n *ℤ y)
times zero x y h = rw (zero-*ℤ x, zero-*ℤ y) (omega (arith, ints))
times (suc n) x y h =
    let later = times n x y h in
    rw (suc_ℤ-*ℤ (pos n) x, suc_ℤ-*ℤ (pos n) y) (omega (arith, ints, later))

over_sum : (n : ℕ) (y z : ℤ) → pos n *ℤ (y +ℤ z) ≡ pos n *ℤ y +ℤ pos n *ℤ z
over_sum zero y z = rw (zero-*ℤ (y +ℤ z), zero-*ℤ y, zero-*ℤ z) refl
over_sum (suc n) y z =
    let later = over_sum n y z in
    rw (suc_ℤ-*ℤ (pos n) (y +ℤ z), suc_ℤ-*ℤ (pos n) y, suc_ℤ-*ℤ (pos n) z) (omega (arith, ints, later))

one_more : (n : ℕ) (y : ℤ) → pos n *ℤ (y +ℤ pos 1) ≡ pos n *ℤ y +ℤ pos n
one_more n y =
    let same : n * 1 ≡ n = omega arith in
    over_sum n y (pos 1) ∙ ap (λ k. pos n *ℤ y +ℤ k) (pos-*ℤ-pos n 1 ∙ ap pos same)

swapped : (m n : ℕ) (x : ℤ) → pos m *ℤ (x *ℤ pos n) ≡ pos n *ℤ (x *ℤ pos m)
swapped zero n x = zero-*ℤ (x *ℤ pos n) ∙ sym (ap (λ y. pos n *ℤ y) (*ℤ-zero x) ∙ *ℤ-zero (pos n))
swapped (suc m) n x =
    let more : x *ℤ pos (suc m) ≡ x *ℤ pos m +ℤ x = *ℤ_comm x (pos (suc m)) ∙ suc_ℤ-*ℤ (pos m) x ∙ ap (λ y. y +ℤ x) (*ℤ_comm (pos m) x) in
    suc_ℤ-*ℤ (pos m) (x *ℤ pos n)
    ∙ ap (λ y. y +ℤ x *ℤ pos n) (swapped m n x)
    ∙ ap (λ y. pos n *ℤ (x *ℤ pos m) +ℤ y) (*ℤ_comm x (pos n))
    ∙ sym (ap (λ y. pos n *ℤ y) more ∙ over_sum n (x *ℤ pos m) x)

cancel : (d : ℕ) (x y : ℤ) → 1 ≤ d → (pos d *ℤ x) ≤ℤ (pos d *ℤ y) → int_le x y ≡ true
cancel d x y some h = by_test (int_le x y) refl
  where
    by_test : (t : Bool) → int_le x y ≡ t → t ≡ true
    by_test true is = refl
    by_test false is =
        let more = times d (y +ℤ pos 1) x (less_false x y is) in
        let split = one_more d y in
        absurd (omega (arith, ints, more, h, split, some))

-- a quotient is at most what is at most a third, where the one between has a divisor
pub through : (a c e : ℤ) (b d f : ℕ) → 1 ≤ d → int_le (a *ℤ pos d) (c *ℤ pos b) ≡ true → int_le (c *ℤ pos f) (e *ℤ pos d) ≡ true → int_le (a *ℤ pos f) (e *ℤ pos b) ≡ true
through a c e b d f some h k =
    let first = times f (a *ℤ pos d) (c *ℤ pos b) (le_true (a *ℤ pos d) (c *ℤ pos b) h) in
    let second = times b (c *ℤ pos f) (e *ℤ pos d) (le_true (c *ℤ pos f) (e *ℤ pos d) k) in
    let low : (pos d *ℤ (a *ℤ pos f)) ≤ℤ (pos b *ℤ (c *ℤ pos f)) = rw (swapped f d a, swapped f b c) at first in
    let high : (pos b *ℤ (c *ℤ pos f)) ≤ℤ (pos d *ℤ (e *ℤ pos b)) = rw (swapped b d e) at second in
    let whole = ≤ℤ_trans (pos d *ℤ (a *ℤ pos f)) (pos b *ℤ (c *ℤ pos f)) (pos d *ℤ (e *ℤ pos b)) low high in
    cancel d (a *ℤ pos f) (e *ℤ pos b) some whole

-- of two quotients one is at most the other
pub either_way : (x y : ℤ) → int_le x y ≡ false → int_le y x ≡ true
either_way x y h = le_from y x (le_false x y h)

-- a quotient is at most itself
pub same_way : (x : ℤ) → int_le x x ≡ true
same_way x = le_from x x (omega (arith, ints))
