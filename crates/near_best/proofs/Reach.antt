-- The labels that are kept may be followed.
use Rattle.std.proofs.Common.{◌≡◌, ℕ, suc, ◌-◌, ◌<◌, ◌≤◌, subst, arith}
use Rattle.lab_model.specs.declared.label.Label.{Label}
use Rattle.lab_model.specs.Film.{rungs_of, segments_of}
use Rattle.player_core.specs.Scene.{IsTask, Task}
use Rattle.labels.specs.Labels.{next_label, start_label}
use Rattle.labels.specs.Near.{CanFollow}
use Rattle.labels.proofs.Reached as reached
use Rattle.near_best.specs.Kept.{IsInReach}

-- the two names of what is in reach
to_reached : (i : ℕ) (l : Label) → IsInReach i l → reached.IsInReach i l
to_reached i l h = record { time = h.time; delay = h.delay; value = h.value }

from_reached : (i : ℕ) (l : Label) → reached.IsInReach i l → IsInReach i l
from_reached i l h = record { time = h.time; delay = h.delay; value = h.value }

-- a label in reach may be followed
pub may_follow : (i : ℕ) (l : Label) → i < 2000 → IsInReach i l → CanFollow l
may_follow i l low h = reached.reach_follows i l low (to_reached i l h)

module _ (g : Task) (is : IsTask g) where
  -- the first label on a rung is in reach
  pub first_reach : (q : ℕ) → q < rungs_of g.film → IsInReach 0 (start_label g q)
  first_reach q rung = from_reached 0 (start_label g q) (reached.well_in_reach 0 (start_label g q) (reached.start_reach g is q rung))

  step_reach : (i q r : ℕ) (l : Label) → suc i < segments_of g.film → q < rungs_of g.film → r < rungs_of g.film → IsInReach i l → IsInReach (suc i) (next_label g (suc i) q l r)
  step_reach i q r l low before rung h =
      let next = next_label g (suc i) q l r in
      from_reached (suc i) next (reached.well_in_reach (suc i) next (reached.next_reach g is i q r low before rung l (to_reached i l h)))

  -- and so is the successor of one in reach
  pub later_reach : (i q r : ℕ) (l : Label) → 1 ≤ i → i < segments_of g.film → q < rungs_of g.film → r < rungs_of g.film → IsInReach (i - 1) l → IsInReach i (next_label g i q l r)
  later_reach i q r l some low before rung h =
      let back : suc (i - 1) ≡ i = omega (arith, some) in
      subst (λ k. IsInReach k (next_label g k q l r)) back (step_reach (i - 1) q r l (omega (arith, some, low)) before rung h)
