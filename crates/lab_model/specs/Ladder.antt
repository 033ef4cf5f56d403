-- The rungs of a ladder, and the greatest or least of them that passes a test.
use Rattle.std.specs.Prelude.{ℕ, List, Bool, fold, find, unwrap_or, if◌then◌else◌}
use Rattle.std.specs.List.{range_with_len}

-- the rungs below a number, in order
abbrev pub rungs_below : ℕ → List ℕ
rungs_below count = range_with_len 0 count

-- the greatest rung that passes a test, or 0
abbrev pub greatest_rung : (ℕ → Bool) → ℕ → ℕ
greatest_rung passes count = fold (λ best q. if passes q then q else best) 0 (rungs_below count)

-- the least rung that passes a test, or 0
abbrev pub least_rung : (ℕ → Bool) → ℕ → ℕ
least_rung passes count = unwrap_or (find passes (rungs_below count)) 0
