-- The plan that is read off chains of labels: its end, its rung list, its names and starts, and the number of labels.
use Rattle.std.specs.Prelude.{ℕ, zero, suc, ◌+◌, ◌-◌, ◌≤◌, ◌<◌, ◌==◌, Bool, not, List, [], ◌∷◌, ◌++◌, length, map, ℤ, pos, int_lt, nat_lt, unwrap_or, if◌then◌else◌}
use Rattle.std.specs.List.{best_of, find, flat_map, position_or_len}
use Rattle.lab_model.specs.declared.label.Label.{Label}
use Rattle.lab_model.specs.Ladder.{rungs_below}
use Rattle.lab_model.specs.Film.{rungs_of, segments_of}
use Rattle.lab_model.specs.declared.setup.Setup.{Setup}
use Rattle.player_core.specs.Scene.{Task}
use Rattle.labels.specs.Labels.{dominates, end_value, label_at, next_label, start_label}
use Rattle.labels.specs.Frontier.{by_rung, is_same}
use Rattle.labels.specs.Grid.{Rounding, rounded}
use Rattle.labels.specs.Parts.{CertificateParts, ChainParts}

-- chains of labels, by segment and rung
abbrev pub Chains : Type 0
Chains = ℕ → ℕ → List Label

-- what stands where there is no label
abbrev pub no_label : Label
no_label = record { t = 0; p = 0; v = pos 0 }

-- the labels of a segment with their rungs, by rung, then place
abbrev pub labels_of : Task → Chains → ℕ → List (ℕ × Label)
labels_of g chains i = by_rung (rungs_of g.film) (chains i)

-- the second ends at more than the first
abbrev pub ends_higher : Task → ℕ × Label → ℕ × Label → Bool
ends_higher g c b = int_lt (end_value g b.1) (end_value g c.1)

-- the first of those with the greatest end value
abbrev pub best_in : Task → List (ℕ × Label) → ℕ × Label
best_in g [] = (0, no_label)
best_in g (c ∷ cs) = best_of (ends_higher g) c cs

-- the label that the plan ends in, with its rung: the first of the last segment, by rung, then place, with the greatest end value
abbrev pub end_of_plan : Task → Chains → ℕ × Label
end_of_plan g chains = best_in g (labels_of g chains (segments_of g.film - 1))

-- the greatest end value of the last segment
abbrev pub bound_of : Task → Chains → ℤ
bound_of g chains = end_value g (end_of_plan g chains).1

-- whether the rounded successor of the first, to a segment, is the second
abbrev pub leads_to : Rounding → Task → ℕ → ℕ × Label → ℕ × Label → Bool
leads_to d g segment b c = is_same (rounded d (next_label g segment b.0 b.1 c.0)) c.1

-- the first label of segment `i`, by rung, then place, whose rounded successor is this one of segment `i + 1`
abbrev pub parent_of : Rounding → Task → Chains → ℕ → ℕ × Label → ℕ × Label
parent_of d g chains i c = unwrap_or (find (λ b. leads_to d g (suc i) b c) (labels_of g chains i)) (0, no_label)

-- the rungs up to a label of a segment, read backwards
unfoldable pub rungs_back : Rounding → Task → Chains → ℕ → ℕ × Label → List ℕ
rungs_back d g chains zero c = c.0 ∷ []
rungs_back d g chains (suc i) c = rungs_back d g chains i (parent_of d g chains i c) ++ c.0 ∷ []

-- the plan's rung list
unfoldable pub list_of_plan : Rounding → Task → Chains → List ℕ
list_of_plan d g chains = rungs_back d g chains (segments_of g.film - 1) (end_of_plan g chains)

-- the value of a rung list by its labels
abbrev pub list_value : Task → List ℕ → ℤ
list_value g rungs = end_value g (label_at g rungs (segments_of g.film - 1))

-- the first place of a label that dominates this one
abbrev pub place_above : List Label → Label → ℕ
place_above chain l = position_or_len (λ m. dominates m l) chain

-- the starts: for each rung the first place of a label of segment 0 that dominates its start label
abbrev pub starts_of : Task → Chains → List ℕ
starts_of g chains = map (λ q. place_above (chains 0 q) (start_label g q)) (rungs_below (rungs_of g.film))

-- the names of a label of segment `i` on rung `q`: for each next rung the first place of a label that dominates the successor
abbrev pub names_of_label : Task → Chains → ℕ → ℕ → Label → List ℕ
names_of_label g chains i q l = map (λ r. place_above (chains (suc i) r) (next_label g (suc i) q l r)) (rungs_below (rungs_of g.film))

-- the names of a chain: those of its labels, one after the other; the last segment has none
abbrev pub names_of : Task → Chains → ℕ → ℕ → List ℕ
names_of g chains i q =
    if nat_lt (suc i) (segments_of g.film) then flat_map (names_of_label g chains i q) (chains i q) else []

-- the chain of a segment and a rung with its names
abbrev pub chain_with_names : Task → Chains → ℕ → ℕ → ChainParts
chain_with_names g chains i q = record { labels = chains i q; names = names_of g chains i q }

-- the chains by segment, then rung
abbrev pub chain_list : Task → Chains → List ChainParts
chain_list g chains =
    flat_map (λ i. map (λ q. chain_with_names g chains i q) (rungs_below (rungs_of g.film))) (rungs_below (segments_of g.film))

-- whether the setup has a utility table
abbrev pub has_table : Setup → Bool
has_table s = not (s.weights.rows == 0)

-- the certificate that is read off the chains: its score is that of its list
abbrev pub certificate_from : Rounding → Task → Chains → CertificateParts
certificate_from d g chains = record {
  table = has_table g.setup;
  segments = segments_of g.film;
  rungs = rungs_of g.film;
  score = list_value g (list_of_plan d g chains);
  plan = list_of_plan d g chains;
  starts = starts_of g chains;
  chains = chain_list g chains;
}

-- the number of labels of the segments below a number
unfoldable pub labels_before : Task → Chains → ℕ → ℕ
labels_before g chains zero = 0
labels_before g chains (suc i) = labels_before g chains i + length (labels_of g chains i)

-- the number of labels of all segments
abbrev pub labels_in : Task → Chains → ℕ
labels_in g chains = labels_before g chains (segments_of g.film)

-- the first segment at whose end the labels so far are more than the budget
pub record SpentAt (g : Task) (chains : Chains) (budget segment : ℕ) : Type 0 where
  pub inside : segment < segments_of g.film
  pub before : labels_before g chains segment ≤ budget
  pub above : budget < labels_before g chains (suc segment)
