-- The labels along a rung list may be followed, and follow one another.
use Rattle.std.proofs.Common.{◌≡◌, ◌∙◌, ℕ, zero, suc, ◌-◌, ◌≤◌, ◌<◌, List, sym, ap, subst, arith}
use Rattle.std.specs.Prelude.{slice_index}
use Rattle.lab_model.specs.Film.{segments_of}
use Rattle.player_core.specs.Scene.{IsTask, Task}
use Rattle.labels.specs.Labels.{AreRungs, label_at, next_label}
use Rattle.labels.specs.Near.{CanFollow}
use Rattle.labels.proofs.Path.{label_next}
use Rattle.labels.proofs.Reached.{label_reach, reach_follows}

-- they are within the limits of the label calls
pub list_follows : (g : Task) → IsTask g → (rungs : List ℕ) → AreRungs g (segments_of g.film) rungs → (i : ℕ) → i < segments_of g.film → CanFollow (label_at g rungs i)
list_follows g is rungs fits i low = let few = is.film.segments.1 in reach_follows i (label_at g rungs i) (omega (arith, low, few)) (label_reach g is rungs fits i low)

-- each is the successor of the one before
pub list_next : (g : Task) (rungs : List ℕ) (i : ℕ) → 1 ≤ i → label_at g rungs i ≡ next_label g i (slice_index rungs (i - 1)) (label_at g rungs (i - 1)) (slice_index rungs i)
list_next g rungs zero some = absurd (omega (arith, some))
list_next g rungs (suc i) some =
    let back : i ≡ suc i - 1 = omega arith in
    subst (λ k. label_at g rungs (suc i) ≡ next_label g (suc i) (slice_index rungs k) (label_at g rungs k) (slice_index rungs (suc i))) back (label_next g rungs i)
