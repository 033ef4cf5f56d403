-- What the planner holds while it grows frontiers: those of each segment, as vectors.
use Rattle.std.specs.Prelude.{◌≡◌, ℕ, ◌+◌, ◌*◌, ◌≤◌, ◌<◌, List, length, map, Result, Ok, Err, Vec, slice_index_or}
use Rattle.std.specs.Global.{Global}
use Rattle.lab_model.specs.declared.label.Label.{Label}
use Rattle.label_arena.specs.Chains.{Holdings, node_count}
use Rattle.lab_model.specs.Ladder.{rungs_below}
use Rattle.lab_model.specs.Film.{rungs_of, segments_of}
use Rattle.labels.specs.Grid.{Rounding}
use Rattle.frontier_planner.specs.declared.frontiers.Frontiers.{Frontiers}
use Rattle.frontier_planner.specs.declared.frontiers.Layer.{Layer}
use Rattle.frontier_planner.specs.declared.plans.PlanErr.{PlanErr}
use Rattle.frontier_planner.specs.declared.plans.PlanErr.TheVariants as fault
use Rattle.player_core.specs.Scene.{Task}
use Rattle.labels.specs.Grown.{CanPlan, grown, grown_labels}
use Rattle.frontier_planner.specs.Linked.{HoldsAll, HoldsBelow}
use Rattle.labels.specs.Parts.{ChainParts}
use Rattle.labels.specs.Read.{SpentAt, chain_with_names, labels_in, names_of_label, rungs_back}

-- the rungs up to a label of a segment, read backwards through the coarse frontiers
abbrev pub rungs_read : Rounding → Task → ℕ → ℕ × Label → List ℕ
rungs_read d g segment c = rungs_back d g (grown d g) segment c

-- the chains of a segment, which vectors hold
abbrev pub held : List (Vec Label Global) → List (List Label)
held chains = map (λ (v : Vec Label Global). v.items) chains

-- the layer holds the coarse frontiers of a segment, chain by chain
pub record HoldsFrontiers (d : Rounding) (g : Task) (segment : ℕ) (l : Layer) : Type 0 where
  pub chains : held l.chains.items ≡ map (grown d g segment) (rungs_below (rungs_of g.film))

-- the layers hold those of the segments from 0 on
abbrev pub HoldAll : Rounding → Task → List Layer → Type 0
HoldAll d g layers = (i : ℕ) (x : Layer) → i < length layers → HoldsFrontiers d g i (slice_index_or layers i x)

-- the layers hold all coarse frontiers, which have no more labels than a certificate may have
pub record HoldPlan (d : Rounding) (g : Task) (layers : List Layer) : Type 0 where
  pub case : CanPlan d g
  pub holds : HoldAll d g layers
  pub count : length layers ≡ segments_of g.film
  pub few : labels_in g (grown d g) ≤ 1000000

-- the names of a label of a segment for the coarse frontiers of the next
abbrev pub names_read : Rounding → Task → ℕ → ℕ × Label → List ℕ
names_read d g segment c = names_of_label g (grown d g) segment c.0 c.1

-- a chain of the plan with its names
abbrev pub chain_read : Rounding → Task → ℕ → ℕ → ChainParts
chain_read d g segment rung = chain_with_names g (grown d g) segment rung

-- the chains of a segment with their names
abbrev pub chains_read : Rounding → Task → ℕ → List ChainParts
chains_read d g segment = map (λ q. chain_read d g segment q) (rungs_below (rungs_of g.film))

-- what a segment's frontiers leave of the budget, with their chains in the arena, or that its labels are more than those left
abbrev pub SegmentAnswer : Rounding → Task → ℕ → ℕ → Holdings → Holdings → Result ℕ PlanErr → Type 0
SegmentAnswer d g segment left a b (Ok rest) =
    HoldsBelow d g b ((segment + 1) * rungs_of g.film) × (rest + length (grown_labels d g segment) ≡ left) × (node_count b + rest ≡ node_count a + left)
SegmentAnswer d g segment left a b (Err (fault.BudgetSpent s)) = (s ≡ segment) × (left < length (grown_labels d g segment))
SegmentAnswer d g segment left a b (Err fault.Memory) = Unit {0}

-- all frontiers with the number of their labels, or the segment at which the budget is spent
abbrev pub FrontiersAnswer : Rounding → Task → ℕ → Result Frontiers PlanErr → Type 0
FrontiersAnswer d g budget (Ok f) = HoldsAll d g f.arena × (f.labels ≡ labels_in g (grown d g)) × (f.labels ≤ budget)
FrontiersAnswer d g budget (Err (fault.BudgetSpent s)) = SpentAt g (grown d g) budget s
FrontiersAnswer d g budget (Err fault.Memory) = Unit {0}
