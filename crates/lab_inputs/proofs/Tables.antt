-- Tables of utilities: one that was read fits its film, and so does the row of 0 that stands there before; and the weights that they make.
use Rattle.std.proofs.Common.{◌≡◌, ◌∙◌, ℕ, ◌+◌, ◌*◌, ◌/◌, ◌<◌, ◌≤◌, List, [], length, max, get_or, replicate, Option, Some, None, ap, sym, subst, arith}
use Rattle.std.specs.List.{All}
use Rattle.std.proofs.Math.Nat.{mul-div_cancel}
use Rattle.std.proofs.lemmas.List.{get_or-replicate, length-replicate}
use Rattle.std.proofs.lemmas.List.Elements.{All-replicate}
use Rattle.lab_io.specs.Sink.{Text}
use Rattle.lab_model.specs.Film.{Film, IsFilm, IsWithin, most_rungs, rungs_of, segments_of}
use Rattle.lab_model.specs.Row.{AreUtilities, AreWeights, IsRow, row_of}
use Rattle.lab_model.specs.Weighing.{IsWeighing}
use Rattle.lab_model.proofs.Rows.{weighing_within}
use Rattle.lab_words.specs.Limits.{AreWeighed}
use Rattle.lab_inputs.specs.Contents.{IsTable, no_table}
use Rattle.lab_inputs.specs.Inputs.{weights_by}

rows_counted : (table : List ℕ) (rungs rows : ℕ) → 1 ≤ rungs → 1 ≤ rows → length table ≡ max rows 1 * rungs → length table / rungs ≡ rows
rows_counted table rungs rows r n whole =
    let some : max rows 1 ≡ rows = omega (arith, n) in
    ap (λ k. k / rungs) (whole ∙ ap (λ k. k * rungs) some) ∙ mul-div_cancel rows {n = rungs} (omega (arith, r))

-- the utilities of a table that was read
pub table_is : (film : Film) (table : List ℕ) → IsFilm film → AreUtilities table (rungs_of film) (segments_of film) → IsTable film table
table_is film table is u = subst (λ n. AreUtilities table (rungs_of film) n) (sym (rows_counted table (rungs_of film) (segments_of film) is.rungs.0 is.segments.0 u.whole)) u

zeros : (n : ℕ) → IsRow (replicate n 0)
zeros n = record {
  limits = All-replicate (λ (u : ℕ). u ≤ 1000000) n 0 (omega arith);
  rise = λ rung low.
      let count = length-replicate {A = ℕ} n 0 in
      let here = get_or-replicate {A = ℕ} n rung 0 0 (omega (arith, low, count)) in
      let next = get_or-replicate {A = ℕ} n (rung + 1) 0 0 (omega (arith, low, count)) in
      omega (arith, here, next);
}

one_row : (n : ℕ) → IsWithin 1 most_rungs n → AreUtilities (replicate n 0) n 1
one_row n few =
    let count = length-replicate {A = ℕ} n 0 in
    let w = (weighing_within (replicate n 0) 0 0 0 (subst (IsWithin 1 most_rungs) (sym count) few) (zeros n) (record { switch_fits = omega arith; stall_fits = omega arith; startup_fits = omega arith })).utilities in
    let rows : AreUtilities (replicate n 0) n 0 = subst (λ k. AreUtilities (replicate n 0) k 0) count w in
    record { count_fits = few; rows_fit = omega arith; whole = rows.whole; each = λ row low. rows.each row low }

-- the row of 0
pub no_table_is : (film : Film) → IsFilm film → IsTable film (no_table film)
no_table_is film is =
    let row = one_row (rungs_of film) is.rungs in
    subst (λ n. AreUtilities (no_table film) (rungs_of film) n) (sym (rows_counted (no_table film) (rungs_of film) 1 is.rungs.0 (omega arith) row.whole)) row

-- the weights that the words ask for keep their limits
pub weights_are : (name : Option Text) (utilities table : List ℕ) (rungs switch stall startup : ℕ) → AreWeighed name utilities switch stall startup → AreUtilities table rungs (length table / rungs)
    → IsWeighing (weights_by name utilities table rungs switch stall startup)
weights_are None utilities table rungs switch stall startup h t = h
weights_are (Some name) utilities table rungs switch stall startup h t = record { utilities = t; weights = h.1 }
