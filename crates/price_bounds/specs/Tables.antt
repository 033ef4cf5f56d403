-- Not part of the model: what the proofs keep.
-- A bound's two parts step by step, from the last segment to the first.
use Rattle.std.specs.Prelude.{◌≡◌, ℕ, suc, ◌+◌, ◌-◌, ◌*◌, ◌≤◌, ◌<◌, List, length, slice_index, slice_index_or, Some, ℤ, pos, ◌-ℤ◌, ◌≤ℤ◌}
use Rattle.lab_model.specs.Film.{rungs_of, size_of}
use Rattle.lab_model.specs.Weighing.{change_of, utility_of}
use Rattle.player_core.specs.Scene.{Task}
use Rattle.price_bounds.specs.declared.window.Window.{Window}
use Rattle.price_bounds.specs.Cells.{cells_of, farthest_delay, greatest_delay, least_delay}
use Rattle.price_bounds.specs.LinkPart.{begin_at, carried_to, end_at}
use Rattle.price_bounds.specs.Steps.{Gains, IsMost, Moves}
use Rattle.price_bounds.specs.Windows.{price_beginning, price_ending, price_of, price_unit}

-- any rung may follow any
abbrev pub rung_moves : Task → Moves
rung_moves g = record { least = λ _. 0; count = rungs_of g.film }

-- what a rung gains at a segment of this price after another rung
abbrev pub rung_gain : Task → ℕ → ℕ → ℕ → ℕ → ℤ
rung_gain g price segment before rung =
    let w = g.setup.weights in
    pos (price_unit * (1000 * utility_of w segment rung))
    -ℤ pos (price_unit * (w.switch * change_of w segment (Some before) rung) + 1000 * (price * size_of g.film segment rung))

-- the gains of rungs
abbrev pub rung_gains : Task → List Window → Gains
rung_gains g ws = record { step = λ segment before rung. rung_gain g (price_of ws segment) segment before rung; end = λ _. pos 0 }

-- a cell may follow itself and those before it
abbrev pub cell_moves : ℕ → Moves
cell_moves first = record { least = λ before. before; count = cells_of first }

-- the worth of the windows that end with a segment, up to the latest end that its cell allows
abbrev pub ending_worth : Task → List Window → ℕ → ℕ → ℕ → ℕ
ending_worth g ws first segment cell = price_ending ws segment * carried_to g (end_at g segment (greatest_delay first cell))

-- the worth of the windows that begin with a segment, before the earliest begin that the cell before allows
abbrev pub beginning_worth : Task → List Window → ℕ → ℕ → ℕ → ℕ
beginning_worth g ws first segment before = price_beginning ws segment * carried_to g (begin_at g first segment (least_delay first before))

-- what the stalls cost up to a cell
abbrev pub stall_cost : Task → ℕ → ℕ → ℕ
stall_cost g first cell = price_unit * (g.setup.weights.stall * (least_delay first cell - first))

-- the gains of cells
abbrev pub cell_gains : Task → List Window → ℕ → Gains
cell_gains g ws first = record {
  step = λ segment before cell. pos (ending_worth g ws first segment cell) -ℤ pos (beginning_worth g ws first segment before);
  end = λ cell. pos 0 -ℤ pos (stall_cost g first cell);
}

-- the least delays of the cells behind a first delay, and of one cell more
pub record AreEdges (first : ℕ) (edges : List ℕ) : Type 0 where
  pub near : first ≤ farthest_delay
  pub count : length edges ≡ cells_of first + 1
  pub each : (c : ℕ) → c ≤ cells_of first → slice_index edges c ≡ least_delay first c

-- what the stalls up to each cell cost, as losses
pub record AreLosses (g : Task) (first : ℕ) (losses : List ℤ) : Type 0 where
  pub count : length losses ≡ cells_of first
  pub each : (c : ℕ) → c < cells_of first → slice_index_or losses c (pos 0) ≡ pos 0 -ℤ pos (stall_cost g first c)

-- what a first rung and its startup come to lies no farther from 0
abbrev pub most_start_worth : ℕ
most_start_worth = 1000000000000000000000000000

-- no list part lies farther from 0
abbrev pub most_list_worth : ℕ
most_list_worth = 2000000000000000000000000000000

-- what the windows' prices make of what the network carries until the latest end
abbrev pub most_worth : ℕ
most_worth = 40640000000000000000000000000000000000

-- no link part lies farther from 0
abbrev pub most_link_worth : ℕ
most_link_worth = 40650000000000000000000000000000000000

-- no bound on a first rung lies farther from 0, in parts of a thousandth of a point
abbrev pub most_bound : ℕ
most_bound = 40660000000000000000000000000000000000

-- without windows no bound on a first rung is greater, in these parts
abbrev pub most_plain_bound : ℕ
most_plain_bound = 3000000000000000000000000000000

-- the edges as far as they have come, the last of them being `edge`
pub record AreEdgesSoFar (first edge : ℕ) (edges : List ℕ) : Type 0 where
  pub some : 1 ≤ length edges
  pub last : edge ≡ least_delay first (length edges - 1)
  pub each : (c : ℕ) → c < length edges → slice_index edges c ≡ least_delay first c
  pub near : (c : ℕ) → c + 1 < length edges → least_delay first c ≤ farthest_delay

-- the greatest worth of the last so many places below a count
pub record IsBestOf (count last : ℕ) (worth : ℕ → ℤ) (best : ℤ) : Type 0 where
  pub place : ℕ
  pub below : place < count
  pub among : count ≤ place + last
  pub reached : best ≡ worth place
  pub bounds : (c : ℕ) → c < count → count ≤ c + last → worth c ≤ℤ best

-- a table that is put in place of an old one, of which the last so many places are done
pub record IsSteppedTo (m : Moves) (f : Gains) (n i : ℕ) (old : List ℤ) (done : ℕ) (table : List ℤ) : Type 0 where
  pub count : length table ≡ m.count
  pub kept : (c : ℕ) → c + done < m.count → slice_index_or table c (pos 0) ≡ slice_index_or old c (pos 0)
  pub each : (c : ℕ) → c < m.count → m.count ≤ c + done → IsMost m f (suc n) i c (slice_index_or table c (pos 0))

-- the greatest worth of the places below a count
pub record IsBestBelow (count : ℕ) (worth : ℕ → ℤ) (best : ℤ) : Type 0 where
  pub place : ℕ
  pub below : place < count
  pub reached : best ≡ worth place
  pub bounds : (c : ℕ) → c < count → worth c ≤ℤ best

-- a table of the places below a number
pub record IsTableTo (m : Moves) (f : Gains) (n i to : ℕ) (table : List ℤ) : Type 0 where
  pub count : length table ≡ to
  pub each : (c : ℕ) → c < to → IsMost m f n i c (slice_index_or table c (pos 0))
