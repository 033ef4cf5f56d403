-- Candidates for a frontier, and which of them stay: each label with its first parent.
use Rattle.std.specs.Prelude.{◌≡◌, ℕ, ◌-◌, ◌<◌, ◌≤◌, List, length, map, slice_index_or}
use Rattle.std.specs.List.{Contains}
use Rattle.std.specs.Ordering.{ordering_then, nat_cmp}
use Rattle.std.specs.declared.cmp.Ordering.{Ordering}
use Rattle.lab_model.specs.declared.label.Label.{Label}
use Rattle.player_core.specs.Scene.{Task}
use Rattle.labels.specs.Frontier.{undominated}
use Rattle.labels.specs.Grid.{Rounding, rounded}
use Rattle.labels.specs.Grown.{grown, grown_labels}
use Rattle.labels.specs.Labels.{next_label}
use Rattle.labels.specs.Read.{no_label, parent_of}
use Rattle.frontier_planner.specs.declared.grow.Candidate.{Candidate}
use Rattle.frontier_planner.specs.declared.thin.Followed.{Followed}
use Rattle.frontier_planner.specs.Sweep.{sweep_cmp}

-- by the order of the sweep, then by parent
abbrev pub candidate_cmp : Candidate → Candidate → Ordering
candidate_cmp a b = ordering_then (sweep_cmp a.label b.label) (nat_cmp a.parent b.parent)

-- what stands where there is no candidate
abbrev pub no_candidate : Candidate
no_candidate = record { label = no_label; parent = 0 }

-- the labels of candidates
abbrev pub labels_in : List Candidate → List Label
labels_in cs = map (λ c. c.label) cs

-- the rounded successor, to a segment on a rung, of a label that is followed
abbrev pub follower : Rounding → Task → ℕ → ℕ → Followed → Candidate
follower d g segment rung c = record { label = rounded d (next_label g segment c.rung c.label rung); parent = c.place }

-- of candidates these have the labels that no other dominates, each once, with the least of its parents
pub record AreFirst (candidates kept : List Candidate) : Type 0 where
  pub labels : labels_in kept ≡ undominated (labels_in candidates)
  pub within : (k : Candidate) → Contains kept k → Contains candidates k
  pub first : (k c : Candidate) → Contains kept k → Contains candidates c → c.label ≡ k.label → k.parent ≤ c.parent

-- the parent's place is that of the first label of the segment before whose rounded successor this one is
pub record HasParent (d : Rounding) (g : Task) (segment rung : ℕ) (k : Candidate) : Type 0 where
  pub inside : k.parent < length (grown_labels d g (segment - 1))
  pub is : slice_index_or (grown_labels d g (segment - 1)) k.parent (0, no_label) ≡ parent_of d g (grown d g) (segment - 1) (rung, k.label)

-- these are the coarse frontier of a segment and a rung, each label with the place of its parent
pub record HaveParents (d : Rounding) (g : Task) (segment rung : ℕ) (kept : List Candidate) : Type 0 where
  pub labels : labels_in kept ≡ grown d g segment rung
  pub parents : (k : Candidate) → Contains kept k → 0 < segment → HasParent d g segment rung k
