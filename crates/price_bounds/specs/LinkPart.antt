-- The link part of a bound: the most that the windows' bits are worth at their prices, less the stalls that it takes.
use Rattle.std.specs.Prelude.{ℕ, ◌+◌, ◌-◌, ◌*◌, ◌&&◌, Bool, true, List, [], ◌∷◌, map, max, nat_le, slice_index, ℤ, pos, ◌-ℤ◌}
use Rattle.std.specs.List.{filter, sum_by}
use Rattle.lab_model.specs.Film.{segments_of}
use Rattle.lab_model.specs.Mpc.{lists_of}
use Rattle.network_clock.specs.Flow.{sum_below}
use Rattle.network_clock.specs.Network.{period_at}
use Rattle.player_core.specs.Scene.{Task}
use Rattle.labels.specs.Labels.{there_at}
use Rattle.price_bounds.specs.declared.window.Window.{Window}
use Rattle.price_bounds.specs.Cells.{cells_of, greatest_delay, least_delay}
use Rattle.price_bounds.specs.Greatest.{greatest_of}
use Rattle.price_bounds.specs.Windows.{price_unit}

-- what the network carries before an instant, in thousandths of a bit
abbrev pub carried_to : Task → ℕ → ℕ
carried_to g instant = sum_below (λ t. (period_at g.periods t).bandwidth) instant

-- no download of a segment is asked for earlier, after this delay of the segment before: not before the first delay, nor without room in
-- the buffer, nor before it is there
abbrev pub begin_at : Task → ℕ → ℕ → ℕ → ℕ
begin_at g first segment delay = max (max first (delay + (segment + 1) * g.film.seg_ms - g.setup.buffer_ms)) (there_at g segment)

-- no download of a segment ends later, where its delay is at most this
abbrev pub end_at : Task → ℕ → ℕ → ℕ
end_at g segment delay = delay + segment * g.film.seg_ms

-- the cell of a segment among those of all segments but the first, whose own is 0
abbrev pub cell_in : List ℕ → ℕ → ℕ
cell_in cells segment = slice_index (0 ∷ cells) segment

-- what the network carries up to the latest end of a window, times its price
abbrev pub worth_to_end : Task → ℕ → List ℕ → Window → ℕ
worth_to_end g first cells w = w.price * carried_to g (end_at g w.last (greatest_delay first (cell_in cells w.last)))

-- what it carries before its earliest begin, times its price
abbrev pub worth_to_begin : Task → ℕ → List ℕ → Window → ℕ
worth_to_begin g first cells w = w.price * carried_to g (begin_at g first w.first (least_delay first (cell_in cells (w.first - 1))))

-- what the windows' bits are worth where the delays of segments lie in these cells, less the stalls up to the last
abbrev pub link_gain : Task → List Window → ℕ → List ℕ → ℤ
link_gain g ws first cells =
    let last = least_delay first (cell_in cells (segments_of g.film - 1)) in
    pos (sum_by (worth_to_end g first cells) ws)
    -ℤ pos (sum_by (worth_to_begin g first cells) ws + price_unit * (g.setup.weights.stall * (last - first)))

-- cells from one on that don't fall
abbrev pub is_rising : ℕ → List ℕ → Bool
is_rising low [] = true
is_rising low (c ∷ cs) = nat_le low c && is_rising c cs

-- the lists of cells that don't fall, for all segments but the first
abbrev pub rising_cells : ℕ → ℕ → List (List ℕ)
rising_cells segments first = filter (is_rising 0) (lists_of (cells_of first) (segments - 1))

-- the most that the windows' bits are worth over all of them
unfoldable pub link_part : Task → List Window → ℕ → ℤ
link_part g ws first = greatest_of (map (link_gain g ws first) (rising_cells (segments_of g.film) first))
