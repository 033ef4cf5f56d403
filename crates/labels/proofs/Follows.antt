-- The labels of coarse frontiers can be followed, and their successors rounded.
use Rattle.std.proofs.Common.{◌≡◌, ℕ, zero, suc, ◌-◌, ◌<◌, ◌≤◌, subst, arith}
use Rattle.std.specs.Prelude.{ℤ}
use Rattle.std.specs.List.{Contains}
use Rattle.std.proofs.lemmas.Int.{ints}
use Rattle.lab_model.specs.Number.{IsNear}
use Rattle.lab_model.specs.declared.label.Label.{Label}
use Rattle.lab_model.specs.Film.{rungs_of, segments_of}
use Rattle.player_core.specs.Scene.{Task}
use Rattle.labels.specs.Labels.{next_label, start_label}
use Rattle.labels.specs.Near.{CanFollow}
use Rattle.labels.specs.Grid.{Rounding}
use Rattle.labels.specs.Grown.{grown, CanPlan, grown_labels}
use Rattle.labels.proofs.Reached.{IsInReach, IsWellInReach, grown_reach, next_reach, reach_follows, start_reach}
use Rattle.labels.proofs.Walks.{from_by_rung}

near_wider : (most more : ℕ) (v : ℤ) → IsNear most v → most ≤ more → IsNear more v
near_wider most more v near wide = let low = near.low in let high = near.high in record { low = omega (arith, ints, low, wide); high = omega (arith, ints, high, wide) }

-- a label well in reach can be rounded
reach_rounds : (i : ℕ) (l : Label) → i < 2000 → IsWellInReach i l → IsNear 900000000000000000 l.v
reach_rounds i l low h = near_wider _ _ l.v h.value (omega (arith, low))

module _ (d : Rounding) (g : Task) (case : CanPlan d g) where
  few : (i : ℕ) → i < segments_of g.film → i < 2000
  few i low = let most = case.task.film.segments.1 in omega (arith, low, most)

  -- a label of a segment, with its rung
  pub in_reach : (i : ℕ) (c : ℕ × Label) → i < segments_of g.film → Contains (grown_labels d g i) c → (c.0 < rungs_of g.film) × IsInReach i c.1
  in_reach i c low h = let at = from_by_rung (rungs_of g.film) (grown d g i) c h in (at.0, grown_reach d case.grid g case.task i c.0 low at.0 c.1 at.1)

  -- it can be followed
  pub label_follows : (i : ℕ) (c : ℕ × Label) → i < segments_of g.film → Contains (grown_labels d g i) c → CanFollow c.1
  label_follows i c low h = reach_follows i c.1 (few i low) (in_reach i c low h).1

  -- and its successors rounded
  pub next_rounds : (i r : ℕ) (c : ℕ × Label) → 1 ≤ i → i < segments_of g.film → r < rungs_of g.film → Contains (grown_labels d g (i - 1)) c → IsNear 900000000000000000 (next_label g i c.0 c.1 r).v
  next_rounds zero r c some low rung h = absurd (omega (arith, some))
  next_rounds (suc i) r c some low rung h =
      let e : suc i - 1 ≡ i = omega arith in
      let there = subst (λ n. Contains (grown_labels d g n) c) e h in
      let old = in_reach i c (omega (arith, low)) there in
      reach_rounds (suc i) (next_label g (suc i) c.0 c.1 r) (few (suc i) low) (next_reach g case.task i c.0 r low old.0 rung c.1 old.1)

  -- and so can a start label
  pub start_rounds : (q : ℕ) → q < rungs_of g.film → IsNear 900000000000000000 (start_label g q).v
  start_rounds q rung = reach_rounds 0 (start_label g q) (omega arith) (start_reach g case.task q rung)
