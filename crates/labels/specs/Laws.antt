-- The laws of labels, frontiers and certificates.
use Rattle.std.specs.Prelude.{◌≡◌, ℕ, suc, ◌*◌, ◌≤◌, ◌<◌, length, ℤ, ◌≤ℤ◌}
use Rattle.std.specs.List.{Contains}
use Rattle.lab_model.specs.declared.label.Label.{Label}
use Rattle.lab_model.specs.Film.{rungs_of, segments_of}
use Rattle.labels.specs.Labels.{Dominates, end_value, next_label}
use Rattle.player_core.specs.Scene.{IsTask, Task}
use Rattle.labels.specs.Parts.{CertificateParts}
use Rattle.labels.specs.Frontier.{frontier, undominated}
use Rattle.labels.specs.Grid.{IsGrid, Rounding, exact}
use Rattle.labels.specs.Grown.{grown, successors}
use Rattle.labels.specs.Read.{bound_of, certificate_from, list_of_plan, list_value}
use Rattle.labels.specs.Valid.{IsValid}
use Rattle.labels.specs.Best.{Settles}

-- a label that dominates another of its segment and rung has a successor on each rung that dominates the other's
abbrev pub DominanceIsInherited : Type 0
DominanceIsInherited =
    (g : Task) → IsTask g → (i q r : ℕ) → i < segments_of g.film → r < rungs_of g.film
    → (a b : Label) → Dominates a b → Dominates (next_label g i q a r) (next_label g i q b r)

-- and an end value that is no less
abbrev pub EndValuesFollow : Type 0
EndValuesFollow = (g : Task) (a b : Label) → Dominates a b → end_value g b ≤ℤ end_value g a

-- on one frontier no two labels have equal time and delay
abbrev pub OneValueForTimes : Type 0
OneValueForTimes =
    (g : Task) (i q : ℕ) (a b : Label) → Contains (frontier g i q) a → Contains (frontier g i q) b → a.t ≡ b.t → a.p ≡ b.p → a ≡ b

-- the frontier of a later segment is what no different one dominates among the successors of the labels in the frontiers before it
abbrev pub FrontiersGrow : Type 0
FrontiersGrow =
    (g : Task) → IsTask g → (i r : ℕ) → suc i < segments_of g.film → r < rungs_of g.film
    → frontier g (suc i) r ≡ undominated (successors exact g (suc i) (frontier g i) r)

-- on the grid 1, 1 the coarse frontiers are the frontiers
abbrev pub ExactIsFrontier : Type 0
ExactIsFrontier =
    (g : Task) → IsTask g → (i q : ℕ) → i < segments_of g.film → q < rungs_of g.film → grown exact g i q ≡ frontier g i q

-- the list that is read off the frontiers has the greatest end value as its value, and no rung list has more
abbrev pub PlanIsBest : Type 0
PlanIsBest =
    (g : Task) → IsTask g → Settles g (list_of_plan exact g (frontier g)) (bound_of g (frontier g)) (bound_of g (frontier g))

-- the list that is read off coarse frontiers has its labels' value, and no rung list has more than their greatest end value
abbrev pub CoarseIsBound : Type 0
CoarseIsBound =
    (d : Rounding) → IsGrid d → (g : Task) → IsTask g
    → Settles g (list_of_plan d g (grown d g)) (list_value g (list_of_plan d g (grown d g))) (bound_of g (grown d g))

-- the certificate that is read off the frontiers is valid with its own score as the bound
abbrev pub PlanIsAccepted : Type 0
PlanIsAccepted =
    (g : Task) → IsTask g → IsValid g (certificate_from exact g (frontier g)) (certificate_from exact g (frontier g)).score

-- the certificate that is read off coarse frontiers is valid with their greatest end value as the bound
abbrev pub CoarseIsAccepted : Type 0
CoarseIsAccepted =
    (d : Rounding) → IsGrid d → (g : Task) → IsTask g → IsValid g (certificate_from d g (grown d g)) (bound_of g (grown d g))

-- a valid certificate proves what it says, whoever wrote it: its list has its score, and no rung list has more than the bound
abbrev pub ValidIsSound : Type 0
ValidIsSound =
    (g : Task) → IsTask g → (c : CertificateParts) (bound : ℤ) → length c.plan ≡ c.segments → IsValid g c bound
    → Settles g c.plan c.score bound

-- where the buffer holds at most two segments, no two labels of one frontier have equal values
abbrev pub SmallBuffersTellApart : Type 0
SmallBuffersTellApart =
    (g : Task) → IsTask g → g.setup.buffer_ms ≤ 2 * g.film.seg_ms → (i q : ℕ) → i < segments_of g.film → q < rungs_of g.film
    → (a b : Label) → Contains (frontier g i q) a → Contains (frontier g i q) b → a.v ≡ b.v → a ≡ b
