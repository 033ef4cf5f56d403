use Rattle.std.proofs.Common.{◌+◌, ◌*◌, ap, arith}
use Rattle.completion_bounds.proofs.Sizes.{cell_inside}
use Rattle.completion_bounds.proofs.cells.cell_at.Goals as goal

pub returns-clause-inside : goal.returns-clause-inside
returns-clause-inside c =
    let place = cell_inside c.args.grid.now c.args.row c.args.column c.requires.row c.requires.column in
    let wide = ap (λ w. c.args.row * w + c.args.column) c.width.ensures in
    omega (arith, place, wide)
