-- Frontiers in an arena: the chain of each segment and rung, whose nodes are linked to those of their parents.
use Rattle.std.specs.Prelude.{◌≡◌, ℕ, zero, suc, ◌+◌, ◌-◌, ◌*◌, ◌<◌, ◌≤◌, true, false, List, [], ◌∷◌, Option, None, Some, length, map, slice_set}
use Rattle.std.specs.List.{Contains}
use Rattle.lab_model.specs.declared.label.Label.{Label}
use Rattle.lab_model.specs.Film.{rungs_of, segments_of}
use Rattle.label_arena.specs.Chains.{Holdings, Standing, StandsIn, StandsSealed, chain_at, linked_chain}
use Rattle.label_arena.specs.declared.node.NodeId.{NodeId}
use Rattle.label_arena.specs.declared.walk.Step.{Step}
use Rattle.labels.specs.Grid.{Rounding}
use Rattle.player_core.specs.Scene.{Task}
use Rattle.labels.specs.Grown.{grown, grown_labels}
use Rattle.labels.specs.Read.{no_label, parent_of}
use Rattle.frontier_planner.specs.declared.chains.Reached.{Reached}
use Rattle.frontier_planner.specs.declared.grow.Candidate.{Candidate}

-- ---- labels that stand in the arena

-- what stands where there is no label
abbrev pub no_reached : Reached
no_reached = record { rung = 0; label = no_label; node = record { 0 = 0 } }

-- the label with its rung
abbrev pub pair_of : Reached → ℕ × Label
pair_of x = (x.rung, x.label)

-- the labels of these nodes with a rung
abbrev pub reached_in : ℕ → List Standing → List Reached
reached_in q ns = map (λ s. record { rung = q; label = s.label; node = s.node }) ns

-- the label of a step along a chain, with a rung
abbrev pub step_reached : ℕ → Step → Reached
step_reached q s = record { rung = q; label = s.label; node = s.node }

-- the labels of these nodes
abbrev pub labels_held : List Standing → List Label
labels_held ns = map (λ s. s.label) ns

-- the label stands in the chain of a segment and its rung
abbrev pub StandsAt : Task → Holdings → ℕ → Reached → Type 0
StandsAt g a segment x =
    (x.rung < rungs_of g.film) × (s : Standing) × Contains (chain_at a (segment * rungs_of g.film + x.rung)).nodes s × (s.label ≡ x.label) × (s.node ≡ x.node)

-- a node stands in a chain of a segment
abbrev pub StandsOn : Task → Holdings → ℕ → NodeId → Type 0
StandsOn g a segment k = (q : ℕ) × (q < rungs_of g.film) × StandsIn a (segment * rungs_of g.film + q) k

-- the labels of a segment, by rung, then place, as they stand in the arena
pub record AreReached (d : Rounding) (g : Task) (a : Holdings) (segment : ℕ) (reached : List Reached) : Type 0 where
  pub labels : map pair_of reached ≡ grown_labels d g segment
  pub stand : (x : Reached) → Contains reached x → StandsAt g a segment x

-- the labels of the segment before one, and none for segment 0
pub record AreBefore (d : Rounding) (g : Task) (a : Holdings) (segment : ℕ) (reached : List Reached) : Type 0 where
  pub first : segment ≡ 0 → reached ≡ []
  pub later : 0 < segment → AreReached d g a (segment - 1) reached

-- ---- frontiers in the arena

-- a node of a later segment is linked to the first label of the segment before whose rounded successor its label is
abbrev pub IsLinked : Rounding → Task → Holdings → ℕ → ℕ → Standing → Type 0
IsLinked d g a segment rung s =
    0 < segment → (x : Reached) × (s.parent ≡ Some x.node) × (pair_of x ≡ parent_of d g (grown d g) (segment - 1) (rung, s.label)) × StandsAt g a (segment - 1) x

-- a sealed chain holds the coarse frontier of a segment and a rung
pub record HoldsFrontier (d : Rounding) (g : Task) (a : Holdings) (segment rung : ℕ) : Type 0 where
  pub sealed : (chain_at a (segment * rungs_of g.film + rung)).sealed ≡ true
  pub labels : labels_held (chain_at a (segment * rungs_of g.film + rung)).nodes ≡ grown d g segment rung
  pub linked : (s : Standing) → Contains (chain_at a (segment * rungs_of g.film + rung)).nodes s → IsLinked d g a segment rung s

-- the chains below a number hold their frontiers, and the others are open and empty
pub record HoldsBelow (d : Rounding) (g : Task) (a : Holdings) (number : ℕ) : Type 0 where
  pub count : length a.chains ≡ segments_of g.film * rungs_of g.film
  pub holds : (i q : ℕ) → q < rungs_of g.film → i * rungs_of g.film + q < number → HoldsFrontier d g a i q
  pub empty : (c : ℕ) → number ≤ c → chain_at a c ≡ linked_chain [] false

-- the chains of a segment hold its frontiers
pub record HoldsSegment (d : Rounding) (g : Task) (a : Holdings) (segment : ℕ) : Type 0 where
  pub count : length a.chains ≡ segments_of g.film * rungs_of g.film
  pub holds : (q : ℕ) → q < rungs_of g.film → HoldsFrontier d g a segment q

-- all chains hold their frontiers
abbrev pub HoldsAll : Rounding → Task → Holdings → Type 0
HoldsAll d g a = HoldsBelow d g a (segments_of g.film * rungs_of g.film)

-- ---- a frontier that is added

-- the node of the label at a place, if there is one
abbrev pub node_of : List Reached → ℕ → Option NodeId
node_of [] k = None
node_of (x ∷ xs) zero = Some x.node
node_of (x ∷ xs) (suc k) = node_of xs k

-- these labels stand in sealed chains
abbrev pub HaveNodes : Holdings → List Reached → Type 0
HaveNodes a before = (x : Reached) → Contains before x → StandsSealed a x.node

-- what a node of a chain holds
abbrev pub part_of : Standing → Label × Option NodeId
part_of s = (s.label, s.parent)

-- what a candidate's node holds, after these labels of the segment before
abbrev pub part_for : List Reached → Candidate → Label × Option NodeId
part_for before k = (k.label, node_of before k.parent)

-- these nodes hold the candidates, and fewer are spare
pub record Appends (a b : Holdings) (chain : ℕ) (frontier : List Candidate) (before : List Reached) : Type 0 where
  pub chains : b.chains ≡ slice_set a.chains chain (linked_chain (chain_at b chain).nodes false)
  pub parts : map part_of (chain_at b chain).nodes ≡ map (part_for before) frontier

-- the same, with the chain sealed
pub record AddsFrontier (a b : Holdings) (chain : ℕ) (frontier : List Candidate) (before : List Reached) : Type 0 where
  pub chains : b.chains ≡ slice_set a.chains chain (linked_chain (chain_at b chain).nodes true)
  pub parts : map part_of (chain_at b chain).nodes ≡ map (part_for before) frontier
