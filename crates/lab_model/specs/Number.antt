-- Numbers: how near to 0 one is, and how two fractions compare.
use Rattle.std.specs.Prelude.{ℕ, ℤ, pos, ◌-ℤ◌, ◌*ℤ◌, ◌≤ℤ◌}
use Rattle.std.specs.declared.cmp.Ordering.{Ordering}
use Rattle.std.specs.Ordering.{int_cmp}

-- at most so far from 0
pub record IsNear (far : ℕ) (z : ℤ) : Type 0 where
  pub low : (pos 0 -ℤ pos far) ≤ℤ z
  pub high : z ≤ℤ pos far

-- how `a / b` compares with `c / d`: quotients compared by cross products, both divisors at least 1
abbrev pub cmp_fraction : ℤ → ℕ → ℤ → ℕ → Ordering
cmp_fraction a b c d = int_cmp (a *ℤ pos d) (c *ℤ pos b)
