-- Validity: what makes a certificate prove that no rung list has a greater value than a bound.
use Rattle.std.specs.Prelude.{◌≡◌, ℕ, ◌+◌, ◌-◌, ◌*◌, ◌≤◌, ◌<◌, [], length, ℤ, ◌≤ℤ◌, slice_index, slice_index_or}
use Rattle.lab_model.specs.declared.label.Label.{Label}
use Rattle.lab_model.specs.Film.{rungs_of, segments_of}
use Rattle.labels.specs.Labels.{Dominates, end_value, next_label, start_label}
use Rattle.player_core.specs.Scene.{Task}
use Rattle.labels.specs.Near.{farthest_ms}
use Rattle.labels.specs.Parts.{CertificateParts, ChainParts}
use Rattle.labels.specs.Read.{has_table, list_value, no_label}

-- what stands where there is no chain
abbrev pub no_chain : ChainParts
no_chain = record { labels = []; names = [] }

-- the chain of a segment and a rung
abbrev pub chain_in : CertificateParts → ℕ → ℕ → ChainParts
chain_in c i q = slice_index_or c.chains (i * c.rungs + q) no_chain

-- the number of labels of a segment on a rung
abbrev pub count_in : CertificateParts → ℕ → ℕ → ℕ
count_in c i q = length (chain_in c i q).labels

-- the label of a segment and a rung at a place
abbrev pub label_in : CertificateParts → ℕ → ℕ → ℕ → Label
label_in c i q k = slice_index_or (chain_in c i q).labels k no_label

-- the name, for a next rung, of the label of a segment and a rung at a place
abbrev pub name_in : CertificateParts → ℕ → ℕ → ℕ → ℕ → ℕ
name_in c i q k r = slice_index (chain_in c i q).names (k * c.rungs + r)

-- the start of a rung
abbrev pub start_in : CertificateParts → ℕ → ℕ
start_in c q = slice_index c.starts q

-- the place stands in the certificate
pub record IsPlace (c : CertificateParts) (i q k : ℕ) : Type 0 where
  pub segment : i < c.segments
  pub rung : q < c.rungs
  pub label : k < count_in c i q

-- V1: its counts are the film's, and it has a table exactly where the setup has one
pub record CountsMatch (g : Task) (c : CertificateParts) : Type 0 where
  pub segments : c.segments ≡ segments_of g.film
  pub rungs : c.rungs ≡ rungs_of g.film
  pub table : c.table ≡ has_table g.setup

-- V2: its numbers are in range
pub record InRange (c : CertificateParts) : Type 0 where
  pub plan : (i : ℕ) → i < c.segments → slice_index c.plan i < c.rungs
  pub starts : (q : ℕ) → q < c.rungs → start_in c q < count_in c 0 q
  pub times : (i q k : ℕ) → IsPlace c i q k → ((label_in c i q k).t ≤ farthest_ms) × ((label_in c i q k).p ≤ farthest_ms)
  pub names : (i q k r : ℕ) → IsPlace c i q k → i + 1 < c.segments → r < c.rungs → name_in c i q k r < count_in c (i + 1) r

-- V3: the label that a start names dominates the start label
pub record StartsHold (g : Task) (c : CertificateParts) : Type 0 where
  pub holds : (q : ℕ) → q < c.rungs → Dominates (label_in c 0 q (start_in c q)) (start_label g q)

-- V4: the label that a name names dominates the successor
pub record NamesHold (g : Task) (c : CertificateParts) : Type 0 where
  pub holds : (i q k r : ℕ) → IsPlace c i q k → i + 1 < c.segments → r < c.rungs
      → Dominates (label_in c (i + 1) r (name_in c i q k r)) (next_label g (i + 1) q (label_in c i q k) r)

-- V5: no label of the last segment has an end value above the bound
pub record EndsBelow (g : Task) (c : CertificateParts) (bound : ℤ) : Type 0 where
  pub holds : (q k : ℕ) → IsPlace c (c.segments - 1) q k → end_value g (label_in c (c.segments - 1) q k) ≤ℤ bound

-- V6: the plan's own labels end at the score
pub record ScoreHolds (g : Task) (c : CertificateParts) : Type 0 where
  pub holds : list_value g c.plan ≡ c.score

-- all six clauses
pub record IsValid (g : Task) (c : CertificateParts) (bound : ℤ) : Type 0 where
  pub v1 : CountsMatch g c
  pub v2 : InRange c
  pub v3 : StartsHold g c
  pub v4 : NamesHold g c
  pub v5 : EndsBelow g c bound
  pub v6 : ScoreHolds g c
