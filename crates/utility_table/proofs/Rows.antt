-- Rows one after the other, and each of them again.
use Rattle.std.proofs.Common.{◌≡◌, ◌+◌, ◌-◌, ◌*◌, ◌<◌, ℕ, zero, suc, List, [], ◌∷◌, get_or, length, length-append, arith}
use Rattle.std.specs.List.{All, concat}
use Rattle.std.proofs.Math.Seq.{drop-append-add, take-append_seam}
use Rattle.std.proofs.lemmas.List.Elements.{All-head, All-tail}
use Rattle.lab_model.specs.Row.{row_of}

-- a row of so many utilities
abbrev pub HasWidth : ℕ → List ℕ → Type 0
HasWidth rungs row = length row ≡ rungs

-- joined rows have as many utilities as all rows together
pub length-concat : (rungs : ℕ) (rows : List (List ℕ)) → All (HasWidth rungs) rows → length (concat rows) ≡ length rows * rungs
length-concat rungs [] h = omega arith
length-concat rungs (row ∷ rows) h =
    let first = All-head (HasWidth rungs) row rows h in
    let rest = length-concat rungs rows (All-tail (HasWidth rungs) row rows h) in
    let joined = length-append row (concat rows) in
    grind (arith, first, rest, joined)

-- the row at a place of joined rows is the one at that place
pub row_of-concat : (rungs : ℕ) (rows : List (List ℕ)) (k : ℕ) → All (HasWidth rungs) rows → k < length rows → row_of (concat rows) rungs k ≡ get_or rows k []
row_of-concat rungs [] k h low = absurd (omega arith)
row_of-concat rungs (row ∷ rows) zero h low =
    let first = All-head (HasWidth rungs) row rows h in
    let width : 0 * rungs + rungs - 0 * rungs ≡ length row = omega (arith, first) in
    let none : 0 * rungs ≡ 0 = omega arith in
    rw (width, none) (take-append_seam row (concat rows))
row_of-concat rungs (row ∷ rows) (suc k) h low =
    let first = All-head (HasWidth rungs) row rows h in
    let width : suc k * rungs + rungs - suc k * rungs ≡ k * rungs + rungs - k * rungs = omega arith in
    let start : suc k * rungs ≡ length row + k * rungs = omega (arith, first) in
    rw (width, start, drop-append-add row (concat rows) (k * rungs)) (row_of-concat rungs rows k (All-tail (HasWidth rungs) row rows h) (omega arith))
