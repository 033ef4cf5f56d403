-- Completion bounds along a list, and the table's bound.
use Rattle.std.proofs.Common.{◌≡◌, ◌∙◌, ℕ, zero, suc, ◌+◌, ◌-◌, ◌<◌, List, [], ◌∷◌, length, refl, sym, ap, subst, arith, add-one}
use Rattle.std.specs.Prelude.{◌≤ℤ◌, slice_index}
use Rattle.std.specs.List.{All}
use Rattle.std.proofs.lemmas.List.Elements.{All-cons, All-nil}
use Rattle.lab_model.proofs.Orders.{≤ℤ_trans}
use Rattle.lab_model.specs.Film.{rungs_of, segments_of}
use Rattle.player_core.specs.Scene.{IsTask, Task}
use Rattle.labels.specs.Labels.{AreRungs, end_value, label_at, next_label, start_label}
use Rattle.labels.proofs.Covered.{rung_at}
use Rattle.labels.proofs.LabelsAreValues.{labels_are_values}
use Rattle.labels.proofs.Path.{label_first, label_next}
use Rattle.completion_bounds.specs.Bound.{most_of, table_bound}
use Rattle.completion_bounds.specs.Grid.{GridParts, IsTableGrid}
use Rattle.completion_bounds.specs.Laws.{HopelessEndBelow, TableBounds, label_after}
use Rattle.completion_bounds.proofs.Bounded.{completions_bounded}
use Rattle.completion_bounds.proofs.Greatest.{greatest_bounds}

-- the rungs of a list behind a segment, so many
rungs_behind : List ℕ → ℕ → ℕ → List ℕ
rungs_behind rungs i zero = []
rungs_behind rungs i (suc left) = slice_index rungs (suc i) ∷ rungs_behind rungs (suc i) left

count_behind : (rungs : List ℕ) (i left : ℕ) → length (rungs_behind rungs i left) ≡ left
unfolding rungs_behind
count_behind rungs i zero = refl
count_behind rungs i (suc left) = let rest = count_behind rungs (suc i) left in omega (arith, rest)

module _ (g : Task) (rungs : List ℕ) where
  all_behind : (h : AreRungs g (segments_of g.film) rungs) (i left : ℕ) → i + suc left ≡ segments_of g.film → All (λ q. q < rungs_of g.film) (rungs_behind rungs i left)
  unfolding rungs_behind
  all_behind h i zero e = All-nil (λ q. q < rungs_of g.film)
  all_behind h i (suc left) e =
      All-cons (λ q. q < rungs_of g.film) (slice_index rungs (suc i)) (rungs_behind rungs (suc i) left)
      (rung_at g (segments_of g.film) rungs h (suc i) (omega (arith, e))) (all_behind h (suc i) left (omega (arith, e)))

  -- they lead to the labels along the list
  leads_along : (i left : ℕ) → label_after g i (slice_index rungs i) (label_at g rungs i) (rungs_behind rungs i left) ≡ label_at g rungs (i + left)
  unfolding rungs_behind
  leads_along i zero = ap (label_at g rungs) (omega arith)
  leads_along i (suc left) =
      let q = slice_index rungs i in
      let r = slice_index rungs (suc i) in
      let rest = rungs_behind rungs (suc i) left in
      ap (λ s. label_after g s r (next_label g s q (label_at g rungs i) r) rest) (add-one i)
      ∙ ap (λ l. label_after g (suc i) r l rest) (sym (label_next g rungs i)) ∙ leads_along (suc i) left ∙ ap (label_at g rungs) (omega arith)

  -- the last label ends at no more than a label along the list and its completion bound
  pub ends_below : IsTask g → (d : GridParts) → IsTableGrid d → AreRungs g (segments_of g.film) rungs → (i : ℕ) → i < segments_of g.film
      → end_value g (label_at g rungs (segments_of g.film - 1)) ≤ℤ most_of g d i (slice_index rungs i) (label_at g rungs i)
  ends_below is d grid h i low =
      let left = segments_of g.film - (i + 1) in
      let whole : i + suc left ≡ segments_of g.film = omega (arith, low) in
      let last : i + left ≡ segments_of g.film - 1 = omega (arith, low) in
      let l = label_at g rungs i in
      subst (λ m. end_value g m ≤ℤ most_of g d i (slice_index rungs i) l) (leads_along i left ∙ ap (label_at g rungs) last)
      (completions_bounded g is d grid i (slice_index rungs i) low l l (omega arith) (omega arith) (rungs_behind rungs i left)
      (count_behind rungs i left, all_behind h i left whole))

-- a list with a hopeless label ends below
pub hopeless_below : HopelessEndBelow
hopeless_below g is d grid rungs h i low most hopeless =
    subst (λ v. v ≤ℤ most) (sym (labels_are_values g is rungs h))
    (≤ℤ_trans (end_value g (label_at g rungs (segments_of g.film - 1))) (most_of g d i (slice_index rungs i) (label_at g rungs i)) most (ends_below g rungs is d grid h i low) hopeless)

-- each list ends below the table's bound
pub table_bounds : TableBounds
table_bounds g is d grid rungs h =
    let some = is.film.segments.0 in
    let q = slice_index rungs 0 in
    let rung = rung_at g (segments_of g.film) rungs h 0 (omega (arith, some)) in
    hopeless_below g is d grid rungs h 0 (omega (arith, some)) (table_bound g d)
    (subst (λ l. most_of g d 0 q l ≤ℤ table_bound g d) (sym (label_first g rungs))
    (greatest_bounds (λ r. most_of g d 0 r (start_label g r)) (rungs_of g.film - 1) q (omega (arith, rung))))
