-- Rows of utilities and the weights that they make.
use Rattle.std.proofs.Common.{◌≡◌, ◌∙◌, ℕ, ◌+◌, ◌-◌, ◌*◌, ◌<◌, ◌≤◌, ◌==◌, List, length, max, get_or, drop, take, ap, subst, sym, arith}
use Rattle.std.proofs.lemmas.List.{get_or-take, get_or-drop, get_or_default, length-drop, length-take-le, take_all}
use Rattle.std.proofs.lemmas.Nat.{row_fits}
use Rattle.std.proofs.lemmas.Bool.{cond_both}
use Rattle.std.proofs.lemmas.Bool.Decides.{nat_tests}
use Rattle.lab_model.specs.Film.{IsWithin, most_rungs}
use Rattle.lab_model.specs.Row.{AreWeights, IsRow, row_of}
use Rattle.lab_model.specs.Weighing.{HasUtility, IsWeighing, Weighing, row_no, utility_of, weighing}

-- a utility by its row and rung
row_at : (us : List ℕ) (count row rung : ℕ) → rung < count → get_or (row_of us count row) rung 0 ≡ get_or us (row * count + rung) 0
row_at us count row rung low =
    let width : rung < row * count + count - row * count = omega arith in
    get_or-take (row * count + count - row * count) (drop (row * count) us) rung 0 width ∙ get_or-drop (row * count) us rung 0

-- a row has as many utilities as the others
row_length : (us : List ℕ) (count row rows : ℕ) → length us ≡ rows * count → row < rows → length (row_of us count row) ≡ count
row_length us count row rows whole low =
    let end = row_fits row count rows count low (omega arith) in
    let left = length-drop (row * count) us in
    let width : row * count + count - row * count ≤ length (drop (row * count) us) = omega (arith, end, left, whole) in
    let all = length-take-le (row * count + count - row * count) (drop (row * count) us) width in
    omega (arith, all)

-- a segment that has a utility has a row
row_there : (w : Weighing) (segment rung : ℕ) → HasUtility w segment rung → row_no w segment < max w.rows 1
row_there w segment rung h =
    cond_both (w.rows == 0) 0 segment (λ row. row < max w.rows 1) (λ e. omega arith)
    (λ e. let some : 0 < w.rows = grind (arith, nat_tests, e) in let there = h.1 some in omega (arith, there))

-- and stands in the list
pub utility_there : (w : Weighing) (segment rung : ℕ) → IsWeighing w → HasUtility w segment rung → row_no w segment * w.count + rung < length w.utilities
utility_there w segment rung is h =
    let end = row_fits (row_no w segment) w.count (max w.rows 1) w.count (row_there w segment rung h) (omega arith) in
    omega (arith, end, is.utilities.whole, h.0)

-- a utility is at most 1000000
pub utility_limit : (w : Weighing) (segment rung : ℕ) → IsWeighing w → HasUtility w segment rung → utility_of w segment rung ≤ 1000000
utility_limit w segment rung is h =
    let row = row_no w segment in
    let there = row_there w segment rung h in
    let width = row_length w.utilities w.count row (max w.rows 1) is.utilities.whole there in
    let limit = (is.utilities.each row there).limits rung 0 (omega (arith, width, h.0)) in
    let same = row_at w.utilities w.count row rung h.0 in
    omega (arith, limit, same)

-- along the rungs utilities do not fall
pub utility_rises : (w : Weighing) (segment rung : ℕ) → IsWeighing w → HasUtility w segment (rung + 1) → utility_of w segment rung ≤ utility_of w segment (rung + 1)
utility_rises w segment rung is h =
    let row = row_no w segment in
    let there = row_there w segment (rung + 1) h in
    let width = row_length w.utilities w.count row (max w.rows 1) is.utilities.whole there in
    let rise = (is.utilities.each row there).rise rung (omega (arith, width, h.0)) in
    let here = row_at w.utilities w.count row rung (omega (arith, h.0)) in
    let next = row_at w.utilities w.count row (rung + 1) h.0 in
    omega (arith, rise, here, next)

-- what is read at the place of a utility is at most 1000000
pub utility_read : (w : Weighing) (segment rung row u : ℕ) → IsWeighing w → HasUtility w segment rung → row ≡ row_no w segment → u ≡ get_or w.utilities (row * w.count + rung) u → u ≤ 1000000
utility_read w segment rung row u is h r e =
    let at = rw r at e in
    let there = utility_there w segment rung is h in
    let same = get_or_default w.utilities (row_no w segment * w.count + rung) u 0 there in
    let limit = utility_limit w segment rung is h in
    omega (arith, at, same, limit)

-- the one row of a list that is one row is the list
row_alone : (us : List ℕ) (row : ℕ) → row < 1 → row_of us (length us) row ≡ us
row_alone us row low =
    let first : row * length us ≡ 0 = let e : row ≡ 0 = omega (arith, low) in rw e (omega arith) in
    ap (λ m. take (m + length us - m) (drop m us)) first ∙ take_all (0 + length us - 0) us (omega arith)

-- a row of 1 to 16 utilities and three weights within their limits are weights
pub weighing_within : (us : List ℕ) (switch stall startup : ℕ) → IsWithin 1 most_rungs (length us) → IsRow us → AreWeights switch stall startup → IsWeighing (weighing us switch stall startup)
weighing_within us switch stall startup few is weights = record {
  utilities = record {
    count_fits = few;
    rows_fit = omega arith;
    whole = omega arith;
    each = λ row low. subst IsRow (sym (row_alone us row (omega (arith, low)))) is;
  };
  weights = weights;
}
