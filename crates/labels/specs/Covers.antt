-- Chains that cover all rung lists: whatever list is taken, they hold a label that dominates its label.
use Rattle.std.specs.Prelude.{ℕ, ◌+◌, ◌<◌, List}
use Rattle.std.specs.List.{Contains}
use Rattle.lab_model.specs.declared.label.Label.{Label}
use Rattle.lab_model.specs.Film.{rungs_of, segments_of}
use Rattle.labels.specs.Labels.{Dominates, next_label, start_label}
use Rattle.player_core.specs.Scene.{Task}
use Rattle.labels.specs.Read.{Chains}

-- a label of the list dominates this one
abbrev pub HasAbove : List Label → Label → Type 0
HasAbove ls l = (m : Label) × Contains ls m × Dominates m l

-- each start label is dominated, and so is each successor of a label of the chains
pub record Covers (g : Task) (chains : Chains) : Type 0 where
  pub starts : (q : ℕ) → q < rungs_of g.film → HasAbove (chains 0 q) (start_label g q)
  pub goes_on : (i q r : ℕ) → i + 1 < segments_of g.film → q < rungs_of g.film → r < rungs_of g.film
      → (l : Label) → Contains (chains i q) l → HasAbove (chains (i + 1) r) (next_label g (i + 1) q l r)
