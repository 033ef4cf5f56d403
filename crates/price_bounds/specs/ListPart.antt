-- The list part of a bound: the most that rungs gain after the first segment, less the prices of their bits.
use Rattle.std.specs.Prelude.{ℕ, ◌+◌, ◌-◌, ◌*◌, List, map, Some, ℤ, pos, ◌-ℤ◌}
use Rattle.std.specs.List.{sum_by}
use Rattle.lab_model.specs.declared.context.Played.{Played}
use Rattle.lab_model.specs.Film.{rungs_of, segments_of, size_of}
use Rattle.lab_model.specs.Mpc.{lists_of}
use Rattle.lab_model.specs.Sums.{changes_of, played_from, utilities_of}
use Rattle.player_core.specs.Scene.{Task}
use Rattle.price_bounds.specs.declared.window.Window.{Window}
use Rattle.price_bounds.specs.Greatest.{greatest_of}
use Rattle.price_bounds.specs.Windows.{price_of, price_unit}

-- the bits of segments on their rungs, each times its segment's price
abbrev pub priced_bits : Task → List Window → List Played → ℕ
priced_bits g ws ps = sum_by (λ p. price_of ws p.segment * size_of g.film p.segment p.rung) ps

-- what rungs gain from a segment on, after a rung: utilities less changes, less the thousandths of a bit at their prices
abbrev pub list_gain : Task → List Window → ℕ → ℕ → List ℕ → ℤ
list_gain g ws segment before rungs =
    let w = g.setup.weights in
    let ps = played_from segment rungs in
    pos (price_unit * (1000 * utilities_of w ps)) -ℤ pos (price_unit * (w.switch * changes_of w (Some before) ps) + 1000 * priced_bits g ws ps)

-- the most that all rungs after the first segment gain, where that has rung `q`
unfoldable pub list_part : Task → List Window → ℕ → ℤ
list_part g ws q = greatest_of (map (list_gain g ws 1 q) (lists_of (rungs_of g.film) (segments_of g.film - 1)))
