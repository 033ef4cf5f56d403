-- Sums over the numbers below one.
use Rattle.std.proofs.Common.{◌≡◌, ℕ, zero, suc, ◌+◌, ◌-◌, ◌*◌, ◌<◌, ◌≤◌, add-one, add-zero, add-suc, ap, refl, arith}
use Rattle.network_clock.specs.Flow.{sum_below}

-- one number more adds what it gives
pub sum_below_more : (f : ℕ → ℕ) (n : ℕ) → sum_below f (n + 1) ≡ sum_below f n + f n
unfolding sum_below
sum_below_more f n = ap (sum_below f) (add-one n)

-- functions that agree have the same sum
pub sum_below_same : (f g : ℕ → ℕ) (n : ℕ) → ((i : ℕ) → i < n → f i ≡ g i) → sum_below f n ≡ sum_below g n
unfolding sum_below
sum_below_same f g zero h = refl
sum_below_same f g (suc n) h = let e = sum_below_same f g n (λ i l. h i (omega arith)) in let l = h n (omega arith) in omega (arith, e, l)

-- where each number gives the same, the sum is so many times that
pub sum_below_constant : (f : ℕ → ℕ) (c n : ℕ) → ((i : ℕ) → i < n → f i ≡ c) → sum_below f n ≡ n * c
unfolding sum_below
sum_below_constant f c zero h = omega arith
sum_below_constant f c (suc n) h = let e = sum_below_constant f c n (λ i l. h i (omega arith)) in let l = h n (omega arith) in omega (arith, e, l)

-- a sum is that below a number and that of the rest
pub sum_below_add : (f : ℕ → ℕ) (a n : ℕ) → sum_below f (a + n) ≡ sum_below f a + sum_below (λ i. f (a + i)) n
unfolding sum_below
sum_below_add f a zero = rw add-zero (omega arith)
sum_below_add f a (suc n) = let e = sum_below_add f a n in rw add-suc (omega (arith, e))

-- at least so much each
pub sum_below_at_least : (f : ℕ → ℕ) (c a n : ℕ) → ((i : ℕ) → c ≤ f i) → sum_below f a + n * c ≤ sum_below f (a + n)
unfolding sum_below
sum_below_at_least f c a zero h = rw add-zero (omega arith)
sum_below_at_least f c a (suc n) h = let e = sum_below_at_least f c a n h in let l = h (a + n) in rw add-suc (omega (arith, e, l))

-- a sum over more numbers is no less
pub sum_below_grows : (f : ℕ → ℕ) (a b : ℕ) → a ≤ b → sum_below f a ≤ sum_below f b
sum_below_grows f a b h = let e = sum_below_add f a (b - a) in let q : a + (b - a) ≡ b = omega arith in let w = ap (sum_below f) q in omega (arith, e, w)

-- at most so much each
pub sum_below_at_most : (f : ℕ → ℕ) (c n : ℕ) → ((i : ℕ) → f i ≤ c) → sum_below f n ≤ n * c
unfolding sum_below
sum_below_at_most f c zero h = omega arith
sum_below_at_most f c (suc n) h = let e = sum_below_at_most f c n h in let l = h n in omega (arith, e, l)
