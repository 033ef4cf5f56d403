use Rattle.std.proofs.Common.{◌-◌, length, leb-true, le-leb}
use Rattle.completion_bounds.specs.Grid.{GridParts}
use Rattle.completion_bounds.proofs.Grids.{delays_low}
use Rattle.completion_bounds.proofs.grid.are_short.Goals as goal

pub returns : goal.returns
returns c =
    let d : GridParts = record { step = c.args.step; columns = 1; rows = c.args.rows.now } in
    (λ short. delays_low d c.requires.rising c.requires.some (leb-true _ _ short), λ all. le-leb _ _ (all (length c.args.rows.now - 1)))
