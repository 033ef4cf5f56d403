-- The least number that passes a test.
use Rattle.std.specs.Prelude.{ℕ, zero, suc, Bool, if◌then◌else◌}

-- the least number below the bound that passes the test; the bound where none does
unfoldable pub least_below : ℕ → (ℕ → Bool) → ℕ
least_below zero test = zero
least_below (suc bound) test = if test zero then zero else suc (least_below bound (λ n. test (suc n)))
