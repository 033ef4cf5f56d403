-- Completion bounds: the most that a label still gains, by its rung, row and column.
use Rattle.std.specs.Prelude.{ℕ, zero, suc, ◌+◌, ◌-◌, ◌*◌, ◌/◌, max, min, ℤ, pos, ◌-ℤ◌}
use Rattle.std.specs.Int.{int_max}
use Rattle.lab_model.specs.declared.label.Label.{Label}
use Rattle.lab_model.specs.Film.{rungs_of, segments_of}
use Rattle.player_core.specs.Scene.{Task}
use Rattle.labels.specs.Labels.{came_at, next_value, request_at, there_at}
use Rattle.completion_bounds.specs.Grid.{GridParts, row_delay, delay_row, row_steps}

-- A segment's lead is `(segment + 1) * S - B`, which may be negative: the earliest request of the segment that the buffer admits, less
-- the delay of the label before. Below it is only added to a delay, and taken off a request.

-- the earliest request of a segment that the buffer admits after a delay: the delay and the lead, or 0 where that is negative
abbrev pub after_lead : Task → ℕ → ℕ → ℕ
after_lead g segment delay = delay + (segment + 1) * g.film.seg_ms - g.setup.buffer_ms

-- a request of a segment less the lead
abbrev pub less_lead : Task → ℕ → ℕ → ℕ
less_lead g segment request = request + g.setup.buffer_ms - (segment + 1) * g.film.seg_ms

-- the column, in a row, of a label whose next segment is asked for at an instant
abbrev pub column_at : Task → GridParts → ℕ → ℕ → ℕ → ℕ
column_at g d next row request = min d.columns (less_lead g next request / d.step - row_steps d row)

-- the column of a label of a segment, in its own row
abbrev pub column_of : Task → GridParts → ℕ → Label → ℕ
column_of g d segment l = column_at g d (segment + 1) (delay_row d l.p) (request_at g (segment + 1) l)

-- the earliest request of a segment after the labels of a row and a column
abbrev pub cell_request : Task → GridParts → ℕ → ℕ → ℕ → ℕ
cell_request g d next row column = max (after_lead g next (d.step * (row_steps d row + column))) (there_at g next)

-- no label of a segment on a rung that follows those of a row and a column has an earlier time or a shorter delay (its value doesn't count)
abbrev pub point_of : Task → GridParts → ℕ → ℕ → ℕ → ℕ → Label
point_of g d next row column rung =
    let t = came_at g (cell_request g d next row column) next rung in
    record { t = t; p = max (row_delay d row) (t - next * g.film.seg_ms); v = pos 0 }

-- the greatest of what a function gives at the numbers from 0 to one
unfoldable pub greatest_to : (ℕ → ℤ) → ℕ → ℤ
greatest_to f zero = f 0
greatest_to f (suc n) = int_max (greatest_to f n) (f (suc n))

-- the greatest over the rungs
abbrev pub greatest_on : Task → (ℕ → ℤ) → ℤ
greatest_on g f = greatest_to f (rungs_of g.film - 1)

-- the most that the labels of a rung, a row and a column gain with so many segments left
unfoldable pub gain_left : Task → GridParts → ℕ → ℕ → ℕ → ℕ → ℤ
gain_left g d zero q k c = pos 0 -ℤ pos (g.setup.weights.stall * row_delay d k)
gain_left g d (suc left) q k c =
    let next = segments_of g.film - suc left in
    greatest_on g (λ r.
    let l = point_of g d next k c r in
    next_value g.setup.weights next q (gain_left g d left r (delay_row d l.p) (column_of g d next l)) r)

-- the completion bound of a segment, a rung, a row and a column
abbrev pub gain : Task → GridParts → ℕ → ℕ → ℕ → ℕ → ℤ
gain g d segment q k c = gain_left g d (segments_of g.film - (segment + 1)) q k c

-- the completion bound of a label of a segment on a rung, at its own row and column
abbrev pub label_gain : Task → GridParts → ℕ → ℕ → Label → ℤ
label_gain g d segment q l = gain g d segment q (delay_row d l.p) (column_of g d segment l)
