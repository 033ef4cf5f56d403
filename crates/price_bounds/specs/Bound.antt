-- The bound of windows.
use Rattle.std.specs.Prelude.{ℕ, suc, ◌*◌, ◌/◌, List, map, ℤ, pos, negsuc, neg_ℤ, ◌+ℤ◌, ◌-ℤ◌}
use Rattle.std.specs.Int.{div_ceil}
use Rattle.lab_model.specs.Film.{rungs_of}
use Rattle.lab_model.specs.Ladder.{rungs_below}
use Rattle.lab_model.specs.Weighing.{utility_of}
use Rattle.player_core.specs.Scene.{Task}
use Rattle.labels.specs.Labels.{start_label}
use Rattle.price_bounds.specs.declared.window.Window.{Window}
use Rattle.price_bounds.specs.Greatest.{greatest_of}
use Rattle.price_bounds.specs.LinkPart.{link_part}
use Rattle.price_bounds.specs.ListPart.{list_part}
use Rattle.price_bounds.specs.Windows.{price_unit}

-- the first delay where the first segment has rung `q`: that of its label
abbrev pub first_delay : Task → ℕ → ℕ
first_delay g q = (start_label g q).p

-- what a first rung gains, less what its startup costs, where its segment comes at `first`
abbrev pub start_worth : Task → ℕ → ℕ → ℤ
start_worth g q first =
    let w = g.setup.weights in pos (price_unit * (1000 * utility_of w 0 q)) -ℤ pos (price_unit * (w.startup * first))

-- the bound on the lists that begin with rung `q`, in parts of a thousandth of a point
unfoldable pub bound_on : Task → List Window → ℕ → ℤ
bound_on g ws q = let first = first_delay g q in (start_worth g q first +ℤ list_part g ws q) +ℤ link_part g ws first

-- the least whole number that isn't below so many parts
abbrev pub rounded_up : ℤ → ℤ
rounded_up (pos n) = pos (div_ceil n price_unit)
rounded_up (negsuc n) = neg_ℤ (pos (suc n / price_unit))

-- the bound of the windows: the least whole number, in thousandths of a point, that is below the bound on no first rung
unfoldable pub bound_of : Task → List Window → ℤ
bound_of g ws = rounded_up (greatest_of (map (bound_on g ws) (rungs_below (rungs_of g.film))))
