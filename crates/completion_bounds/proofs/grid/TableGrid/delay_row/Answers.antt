use Rattle.std.proofs.Common.{◌≡◌, ◌+◌, ◌*◌, ◌<◌, get_or, subst, arith}
use Rattle.completion_bounds.specs.Grid.{GridParts, delay_row}
use Rattle.completion_bounds.proofs.Grids.{row_is}
use Rattle.completion_bounds.proofs.grid.TableGrid.delay_row.Goals as goal

pub returns-clause-value : goal.returns-clause-value
returns-clause-value c =
    let inside = c.self.inside in
    let d : GridParts = record { step = inside.step; columns = inside.columns; rows = inside.rows.items } in
    let loop = c.loop-high.invariant in
    let order = loop.order in
    let place = loop.place in
    let above = loop.above in
    let done = c.loop-high-test.false in
    let last : c.loop-high.high ≡ c.loop-high.low + 1 = omega (arith, order, done) in
    subst (λ v. c.loop-high.low ≡ delay_row v c.args.delay) c.self.view_is
    (row_is d c.self.invariant.rising c.args.delay c.loop-high.low (omega (arith, order, place)) loop.below
    (λ more. subst (λ h. c.args.delay < inside.step * get_or inside.rows.items h 0) last (above (omega (arith, last, more)))))
