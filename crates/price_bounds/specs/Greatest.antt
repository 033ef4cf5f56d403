-- The greatest of numbers.
use Rattle.std.specs.Prelude.{List, [], ◌∷◌, fold, ℤ, pos}
use Rattle.std.specs.Int.{int_max}

-- the greatest of numbers, 0 where there is none
abbrev pub greatest_of : List ℤ → ℤ
greatest_of [] = pos 0
greatest_of (x ∷ xs) = fold int_max x xs
