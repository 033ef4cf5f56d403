-- Rows of sizes, one after the other.
use Rattle.std.proofs.Common.{◌≡◌, ◌*◌, ◌/◌, ◌<◌, ℕ, List, [], ◌∷◌, length, length-append, arith}
use Rattle.std.specs.List.{All, concat}
use Rattle.std.proofs.lemmas.List.Elements.{All-append, All-head, All-nil, All-tail}
use Rattle.std.proofs.lemmas.Nat.{div-mul-add}
use Rattle.lab_model.specs.Film.{IsWithin}

-- a row of so many sizes within their limits
abbrev pub IsRow : ℕ → List ℕ → Type 0
IsRow rungs xs = (length xs ≡ rungs) × All (IsWithin 1 200000000) xs

-- joined rows have as many sizes as all rows together
pub length-concat : (rungs : ℕ) (rows : List (List ℕ)) → All (IsRow rungs) rows → length (concat rows) ≡ length rows * rungs
length-concat rungs [] h = omega arith
length-concat rungs (row ∷ rows) h =
    let first = All-head (IsRow rungs) row rows h in
    let rest = length-concat rungs rows (All-tail (IsRow rungs) row rows h) in
    let joined = length-append row (concat rows) in
    grind (arith, first.0, rest, joined)

-- the sizes of joined rows keep their limits
pub All-concat : (rungs : ℕ) (rows : List (List ℕ)) → All (IsRow rungs) rows → All (IsWithin 1 200000000) (concat rows)
All-concat rungs [] h = All-nil (IsWithin 1 200000000)
All-concat rungs (row ∷ rows) h =
    All-append (IsWithin 1 200000000) row (concat rows) (All-head (IsRow rungs) row rows h).1 (All-concat rungs rows (All-tail (IsRow rungs) row rows h))

-- the number of rows, from the number of sizes
pub rows_of_sizes : (sizes rows rungs : ℕ) → sizes ≡ rows * rungs → 0 < rungs → sizes / rungs ≡ rows
rows_of_sizes sizes rows rungs e h = let d = div-mul-add rows rungs 0 h in grind (arith, d, e)
