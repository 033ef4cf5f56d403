-- The clauses of validity as tests of what they read: parts of the head, and the chains of a segment and of the next one.
use Rattle.std.specs.Prelude.{ℕ, ◌+◌, ◌*◌, ◌==◌, ◌&&◌, Bool, not, List, length, map, slice_index, slice_index_or, nat_le, nat_lt, int_le, ℤ, if◌then◌else◌}
use Rattle.std.specs.Ordering.{int_eq}
use Rattle.lab_model.specs.declared.label.Label.{Label}
use Rattle.lab_model.specs.Film.{rungs_of, segments_of}
use Rattle.labels.specs.declared.plans.Chain.{Chain}
use Rattle.player_core.specs.Scene.{Task}
use Rattle.labels.specs.Labels.{dominates, end_value, next_label, start_label}
use Rattle.labels.specs.Near.{farthest_ms}
use Rattle.labels.specs.Parts.{ChainParts, chain_parts}
use Rattle.labels.specs.Read.{has_table, list_value, no_label}
use Rattle.labels.specs.Valid.{no_chain}
use Rattle.certificate_check.specs.declared.verdict.Verdict.{Verdict}
use Rattle.certificate_check.specs.Scheme.{both, first_no, tested}

-- the chains of a segment, by rung
abbrev pub Layer : Type 0
Layer = ℕ → ChainParts

-- the chains of a segment as the code holds them
abbrev pub chains_by_rung : List Chain → Layer
chains_by_rung chains q = slice_index_or (map chain_parts chains) q no_chain

-- the number of labels of a chain
abbrev pub count_of : ChainParts → ℕ
count_of chain = length chain.labels

-- the label of a chain at a place
abbrev pub label_of : ChainParts → ℕ → Label
label_of chain k = slice_index_or chain.labels k no_label

-- the name, for a next rung, of the label at a place, where each label has so many names
abbrev pub name_of : ℕ → ChainParts → ℕ → ℕ → ℕ
name_of per chain k r = slice_index chain.names (k * per + r)

-- a test of the labels of a segment on so many rungs, by rung, then place
abbrev pub over_labels : ℕ → Layer → (ℕ → ℕ → Verdict) → Verdict
over_labels rungs here test = first_no (λ q. first_no (test q) (count_of (here q))) rungs

-- V1: the counts are the film's, and there is a table exactly where the setup has one
abbrev pub counts_verdict : Task → Bool → ℕ → ℕ → Verdict
counts_verdict g table segments rungs =
    tested 1 0 0 0 (segments == segments_of g.film && rungs == rungs_of g.film && (if table then has_table g.setup else not (has_table g.setup)))

-- V2 of the plan: each rung is one of the ladder
abbrev pub plan_verdict : ℕ → ℕ → List ℕ → Verdict
plan_verdict segments rungs plan = first_no (λ i. tested 2 i 0 0 (nat_lt (slice_index plan i) rungs)) segments

-- V2 of the starts: each is a place of its rung's chain in segment 0
abbrev pub starts_verdict : ℕ → List ℕ → Layer → Verdict
starts_verdict rungs starts first = first_no (λ q. tested 2 0 q 0 (nat_lt (slice_index starts q) (count_of (first q)))) rungs

-- the times of a label are in range
abbrev pub is_near : Label → Bool
is_near l = nat_le l.t farthest_ms && nat_le l.p farthest_ms

-- V2 of the names of a label: each is a place of the named chain of the next segment
abbrev pub name_ranges : ℕ → ℕ → ℕ → ChainParts → Layer → ℕ → Verdict
name_ranges per i q chain next k = first_no (λ r. tested 2 i q k (nat_lt (name_of per chain k r) (count_of (next r)))) per

-- V2 of a label: its times and its names
abbrev pub range_verdict : ℕ → ℕ → ℕ → ChainParts → Layer → ℕ → Verdict
range_verdict per i q chain next k = both (tested 2 i q k (is_near (label_of chain k))) (name_ranges per i q chain next k)

-- V2 of the labels of a segment
abbrev pub ranges_verdict : ℕ → ℕ → ℕ → Layer → Layer → Verdict
ranges_verdict per rungs i here next = over_labels rungs here (λ q. range_verdict per i q (here q) next)

-- V3: the label that a start names dominates the start label
abbrev pub starts_held : Task → ℕ → List ℕ → Layer → Verdict
starts_held g rungs starts first =
    first_no (λ q. tested 3 0 q (slice_index starts q) (dominates (label_of (first q) (slice_index starts q)) (start_label g q))) rungs

-- V4 of a label: for each next rung the named label dominates the successor
abbrev pub name_verdict : Task → ℕ → ℕ → ℕ → ChainParts → Layer → ℕ → Verdict
name_verdict g per i q chain next k =
    first_no (λ r. tested 4 i q k (dominates (label_of (next r) (name_of per chain k r)) (next_label g (i + 1) q (label_of chain k) r))) per

-- V4 of the labels of a segment
abbrev pub names_verdict : Task → ℕ → ℕ → ℕ → Layer → Layer → Verdict
names_verdict g per rungs i here next = over_labels rungs here (λ q. name_verdict g per i q (here q) next)

-- V5 of a label of the last segment: its end value isn't above the bound
abbrev pub end_verdict : Task → ℤ → ℕ → ℕ → ChainParts → ℕ → Verdict
end_verdict g bound i q chain k = tested 5 i q k (int_le (end_value g (label_of chain k)) bound)

-- V5 of the labels of the last segment
abbrev pub ends_verdict : Task → ℤ → ℕ → ℕ → Layer → Verdict
ends_verdict g bound rungs i here =
    over_labels rungs here (λ q. end_verdict g bound i q (here q))

-- V6: the plan's own labels end at the score
abbrev pub score_verdict : Task → List ℕ → ℤ → Verdict
score_verdict g plan score = tested 6 0 0 0 (int_eq (list_value g plan) score)
