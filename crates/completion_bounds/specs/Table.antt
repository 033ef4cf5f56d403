-- Not part of the model: what the proofs keep.
-- What stands in a table, and how it is found.
use Rattle.std.specs.Prelude.{◌≡◌, ◌⊎◌, ℕ, ◌+◌, ◌-◌, ◌*◌, ◌/◌, ◌<◌, ◌≤◌, ◌==◌, List, length, max, Some, ℤ, pos, ◌-ℤ◌, slice_index_or, if◌then◌else◌, Vec}
use Rattle.std.specs.Global.{Global}
use Rattle.lab_model.specs.declared.label.Label.{Label}
use Rattle.lab_model.specs.Film.{rungs_of, segments_of}
use Rattle.lab_model.specs.Weighing.{Weighing, change_of, utility_of}
use Rattle.player_core.specs.Scene.{IsTask, Task}
use Rattle.labels.specs.Labels.{came_at, there_at}
use Rattle.completion_bounds.specs.declared.cells.Way.{Way}
use Rattle.completion_bounds.specs.Gain.{after_lead, column_of, gain_left, less_lead}
use Rattle.completion_bounds.specs.Grid.{GridParts, IsGridOf, kinds_of, layer_numbers, row_delay, delay_row, row_steps}

-- the earliest request of a segment after the labels whose row and column come to so many steps
abbrev pub request_after : Task → GridParts → ℕ → ℕ → ℕ
request_after g d next steps = max (after_lead g next (d.step * steps)) (there_at g next)

-- the number of the cell of a row and a column
abbrev pub cell_at : GridParts → ℕ → ℕ → ℕ
cell_at d row column = row * (d.columns + 1) + column

-- the number of cells
abbrev pub cells_of : GridParts → ℕ
cells_of d = length d.rows * (d.columns + 1)

-- the cell of a label of a segment
abbrev pub cell_of : Task → GridParts → ℕ → Label → ℕ
cell_of g d segment l = cell_at d (delay_row d l.p) (column_of g d segment l)

-- a label whose value doesn't count
abbrev pub point : ℕ → ℕ → Label
point t p = record { t = t; p = p; v = pos 0 }

-- the label of a segment that comes at an instant, after the labels of a row
abbrev pub came_after : Task → GridParts → ℕ → ℕ → ℕ → Label
came_after g d segment came row = point came (max (row_delay d row) (came - segment * g.film.seg_ms))

-- what a segment that comes at an instant leads to
pub record IsWay (g : Task) (d : GridParts) (segment came : ℕ) (w : Way) : Type 0 where
  pub delay : w.delay ≡ came - segment * g.film.seg_ms
  pub late : w.late ≡ less_lead g (segment + 1) (max came (there_at g (segment + 1))) / d.step
  pub cell : w.cell ≡ cell_of g d segment (point came (came - segment * g.film.seg_ms))

-- what stands where there is no way
abbrev pub no_way : Way
no_way = record { delay = 0; late = 0; cell = 0 }

-- what each rung of a segment leads to when it is asked for after so many steps
pub record AreWays (g : Task) (d : GridParts) (segment steps : ℕ) (ways : List Way) : Type 0 where
  pub count : length ways ≡ rungs_of g.film
  pub each : (r : ℕ) → r < rungs_of g.film → IsWay g d segment (came_at g (request_after g d segment steps) segment r) (slice_index_or ways r no_way)

-- the kind of a rung: where one serves all it is 0
abbrev pub kind_among : ℕ → ℕ → ℕ
kind_among kinds rung = if kinds == 1 then 0 else rung

-- what a rung of a segment gains by itself after another rung
abbrev pub step_gain : Weighing → ℕ → ℕ → ℕ → ℤ
step_gain w segment before rung = pos (1000 * utility_of w segment rung) -ℤ pos (w.switch * change_of w segment (Some before) rung)

-- the same for each rung after each kind
pub record AreStepGains (g : Task) (segment : ℕ) (own : List ℤ) : Type 0 where
  pub count : length own ≡ kinds_of g * rungs_of g.film
  pub each : (q r : ℕ) → q < kinds_of g → r < rungs_of g.film → slice_index_or own (q * rungs_of g.film + r) (pos 0) ≡ step_gain g.setup.weights segment q r

-- so far as they have come
pub record AreStepGainsTo (g : Task) (segment place : ℕ) (own : List ℤ) : Type 0 where
  pub count : length own ≡ place
  pub each : (q r : ℕ) → q < kinds_of g → r < rungs_of g.film → q * rungs_of g.film + r < place
      → slice_index_or own (q * rungs_of g.film + r) (pos 0) ≡ step_gain g.setup.weights segment q r

-- what is gained behind a segment on each rung below one, where it is asked for after so many steps, after the labels of a row
pub record AreGainsTo (g : Task) (d : GridParts) (left segment steps row to : ℕ) (gains : List ℤ) : Type 0 where
  pub each : (r : ℕ) → r < to → slice_index_or gains r (pos 0)
      ≡ (let l = came_after g d segment (came_at g (request_after g d segment steps) segment r) row in gain_left g d left r (delay_row d l.p) (column_of g d segment l))

-- the same on each rung
pub record AreGains (g : Task) (d : GridParts) (left segment steps row : ℕ) (gains : List ℤ) : Type 0 where
  pub count : length gains ≡ rungs_of g.film
  pub all : AreGainsTo g d left segment steps row (rungs_of g.film) gains

-- a layer holds the completion bounds with so many segments left
pub record IsGainLayer (g : Task) (d : GridParts) (left : ℕ) (layer : List ℤ) : Type 0 where
  pub count : length layer ≡ layer_numbers g d
  pub each : (k c q : ℕ) → k < length d.rows → c ≤ d.columns → q < kinds_of g
      → slice_index_or layer (cell_at d k c * kinds_of g + q) (pos 0) ≡ gain_left g d left q k c

-- it holds those whose row and column come to fewer steps
pub record IsLayerBelow (g : Task) (d : GridParts) (left steps : ℕ) (layer : List ℤ) : Type 0 where
  pub count : length layer ≡ layer_numbers g d
  pub each : (k c q : ℕ) → k < length d.rows → c ≤ d.columns → q < kinds_of g → row_steps d k + c < steps
      → slice_index_or layer (cell_at d k c * kinds_of g + q) (pos 0) ≡ gain_left g d left q k c

-- and those that come to just so many, of the rows before one
pub record IsLayerAt (g : Task) (d : GridParts) (left steps row : ℕ) (layer : List ℤ) : Type 0 where
  pub count : length layer ≡ layer_numbers g d
  pub each : (k c q : ℕ) → k < length d.rows → c ≤ d.columns → q < kinds_of g
      → ((row_steps d k + c < steps) ⊎ ((row_steps d k + c ≡ steps) × (k < row)))
      → slice_index_or layer (cell_at d k c * kinds_of g + q) (pos 0) ≡ gain_left g d left q k c

-- no completion bound lies farther from 0
abbrev pub most_gain : ℕ
most_gain = 1002000000000000000

-- what a rung gains by itself lies no farther from 0
abbrev pub most_step : ℕ
most_step = 1000000000000

-- what a table stands for
pub record TableValue : Type 0 where
  pub scene : Task
  pub grid : GridParts

-- the layers of a table, from the last segment on, so many
pub record AreLayers (g : Task) (d : GridParts) (n : ℕ) (held : List (Vec ℤ Global)) : Type 0 where
  pub count : length held ≡ n
  pub each : (left : ℕ) (none : Vec ℤ Global) → left < n → IsGainLayer g d left (slice_index_or held left none).items

-- a table within the limits
pub record IsGainTable (g : Task) (d : GridParts) (held : List (Vec ℤ Global)) : Type 0 where
  pub task : IsTask g
  pub grid : IsGridOf g d
  pub layers : AreLayers g d (segments_of g.film) held
