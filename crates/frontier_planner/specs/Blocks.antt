-- Staircases over blocks of a chain.
use Rattle.std.specs.Prelude.{◌≡◌, ℕ, ◌+◌, ◌*◌, ◌<◌, ◌≤◌, false, IsTrue, List, length, Vec, slice_index_or}
use Rattle.std.specs.Global.{Global}
use Rattle.std.specs.List.{All}
use Rattle.lab_model.specs.declared.label.Label.{Label}
use Rattle.frontier_planner.specs.declared.blocks.Finder.{Finder}
use Rattle.frontier_planner.specs.declared.blocks.Level.{Level}
use Rattle.frontier_planner.specs.declared.frontiers.Layer.{Layer}
use Rattle.frontier_planner.specs.declared.staircase.Staircase.{Staircase}
use Rattle.frontier_planner.specs.Climbing.{IsClimbing}
use Rattle.labels.specs.Labels.{dominates}
use Rattle.labels.specs.Read.{no_label}
use Rattle.frontier_planner.specs.Staircase.{IsRising}
use Rattle.frontier_planner.specs.Sweep.{HasUnder}

-- each label of a chain from a place to before another has a step with no longer a delay and no less a value
abbrev pub IsOver : List Label → ℕ → ℕ → List Label → Type 0
IsOver chain from to steps = (k : ℕ) → from ≤ k → k < to → HasUnder steps (slice_index_or chain k no_label).p (slice_index_or chain k no_label).v

-- the staircases of a level stand over the blocks of a chain, which they cover
pub record IsLevel (chain : List Label) (level : Level) : Type 0 where
  pub some : 1 ≤ level.size
  pub small : level.size ≤ 65536
  pub all : length chain ≤ length level.blocks.items * level.size
  pub rising : (b : ℕ) (s : Staircase) → b < length level.blocks.items → IsRising (slice_index_or level.blocks.items b s).steps.items
  pub over : (b k : ℕ) (s : Staircase) → b < length level.blocks.items → b * level.size ≤ k → k < (b + 1) * level.size → k < length chain
      → HasUnder (slice_index_or level.blocks.items b s).steps.items (slice_index_or chain k no_label).p (slice_index_or chain k no_label).v

-- the finder of a chain: where it says so the chain climbs, and its levels are levels of it
pub record IsFinder (chain : List Label) (f : Finder) : Type 0 where
  pub climbs : IsTrue f.climbs → IsClimbing chain
  pub levels : All (IsLevel chain) f.levels.items

-- so many chains have their finders
pub record HaveFinders (chains : List (Vec Label Global)) (finders : List Finder) : Type 0 where
  pub count : length finders ≡ length chains
  pub each : (q : ℕ) (v : Vec Label Global) (x : Finder) → q < length chains → IsFinder (slice_index_or chains q v).items (slice_index_or finders q x)

-- the finders are those of a layer, if there is such a layer
abbrev pub AreOver : List Layer → ℕ → List Finder → Type 0
AreOver layers segment finders = segment < length layers → (x : Layer) → HaveFinders (slice_index_or layers segment x).chains.items finders

-- no label before a place dominates this one
abbrev pub NoneBefore : List Label → Label → ℕ → Type 0
NoneBefore chain l place = (k : ℕ) → k < place → k < length chain → dominates (slice_index_or chain k no_label) l ≡ false
