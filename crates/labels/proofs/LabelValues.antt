-- The values of the labels along a rung list.
use Rattle.std.proofs.Common.{◌≡◌, ◌∙◌, ℕ, zero, suc, ◌+◌, ◌*◌, ◌<◌, List, [], ◌∷◌, length, slice_index, Some, None, refl, sym, ap, ap₂, arith}
use Rattle.std.specs.Prelude.{ℤ, pos, ◌-ℤ◌}
use Rattle.std.proofs.lemmas.Int.{ints}
use Rattle.lab_model.specs.declared.context.Played.{Played}
use Rattle.lab_model.specs.Weighing.{Weighing, change_of, utility_of}
use Rattle.lab_model.specs.Sums.{changes_of, last_rung, utilities_of}
use Rattle.lab_model.proofs.Pushes.{changes_push, last_push, utilities_push}
use Rattle.player_core.specs.Scene.{Task}
use Rattle.labels.specs.Labels.{label_at}
use Rattle.labels.specs.Along.{rungs_played}
use Rattle.labels.proofs.AlongLists.{played_next, segment_on}
use Rattle.labels.proofs.AlongSums.{value_next}

-- what so much of utilities and of changes is worth, after a delay at the start
abbrev pub worth : Weighing → ℕ → ℕ → ℕ → ℤ
worth w delay utilities changes = pos (1000 * utilities + w.stall * delay) -ℤ pos (w.startup * delay + w.switch * changes)

-- what played segments are worth, after a delay at the start
abbrev pub worth_of : Weighing → ℕ → List Played → ℤ
worth_of w delay ps = worth w delay (utilities_of w ps) (changes_of w None ps)

module _ (g : Task) (rungs : List ℕ) where
  last_played : (i : ℕ) → i < length rungs → last_rung None (rungs_played rungs (suc i)) ≡ Some (slice_index rungs i)
  last_played i low = ap (last_rung None) (played_next rungs i low) ∙ last_push None (rungs_played rungs i) (segment_on i (slice_index rungs i))

  -- the value of a label is what its segments are worth, after the first label's delay
  pub label_value : (i : ℕ) → i < length rungs → (label_at g rungs i).v ≡ worth_of g.setup.weights (label_at g rungs 0).p (rungs_played rungs (suc i))
  unfolding label_at
  label_value zero low =
      let first : (label_at g rungs 0).v ≡ worth_of g.setup.weights (label_at g rungs 0).p (segment_on 0 (slice_index rungs 0) ∷ []) = omega (arith, ints) in
      first ∙ ap (λ ps. worth_of g.setup.weights (label_at g rungs 0).p ps) (sym (played_next rungs 0 low))
  label_value (suc i) low =
      let w = g.setup.weights in
      let q = slice_index rungs i in
      let r = slice_index rungs (suc i) in
      let ps = rungs_played rungs (suc i) in
      let last = last_played i (omega (arith, low)) in
      let delay = (label_at g rungs 0).p in
      value_next (utilities_of w ps) (utility_of w (suc i) r) (changes_of w None ps) (change_of w (suc i) (Some q) r) w.stall w.startup w.switch delay (label_at g rungs i).v (label_at g rungs (suc i)).v (label_value i (omega (arith, low))) refl
      ∙ ap₂ (worth w delay) (sym (utilities_push w ps (segment_on (suc i) r))) (ap (λ o. changes_of w None ps + change_of w (suc i) o r) (sym last) ∙ sym (changes_push w None ps (segment_on (suc i) r)))
      ∙ ap (λ qs. worth_of w delay qs) (sym (played_next rungs (suc i) low))
