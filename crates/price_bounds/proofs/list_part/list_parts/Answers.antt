use Rattle.std.proofs.Common.{◌≡◌, ◌-◌, ◌<◌, ℕ, sym, subst, arith}
use Rattle.std.specs.Prelude.{pos, slice_index_or}
use Rattle.lab_model.specs.Film.{rungs_of, segments_of}
use Rattle.price_bounds.specs.Tables.{rung_gains, rung_moves}
use Rattle.price_bounds.proofs.ListSteps.{turn_last}
use Rattle.price_bounds.proofs.ListTable.{list_part_is, table_near}
use Rattle.price_bounds.proofs.PriceSums.{each_price}
use Rattle.price_bounds.proofs.list_part.list_parts.Goals as goal

pub returns-clause-parts : goal.returns-clause-parts
returns-clause-parts c =
    let g = c.args.scene.now in
    let ws = c.args.windows.now in
    let n = segments_of g.film in
    let count = c.segments-count.ensures.value in
    let some = c.segments-count.ensures.task.film.segments.0 in
    let last = turn_last (rung_moves g) (rung_gains g ws) n c.loop-done.gains.items c.loop-done.done some (omega (arith, count, some)) c.loop-done.invariant in
    λ q low. list_part_is g ws q (slice_index_or c.loop-done.gains.items q (pos 0)) (last.each q low)

pub returns-clause-near : goal.returns-clause-near
returns-clause-near c =
    let g = c.args.scene.now in
    let ws = c.args.windows.now in
    let n = segments_of g.film in
    let is = c.segments-count.ensures.task in
    let count = c.segments-count.ensures.value in
    let some = is.film.segments.0 in
    let last = turn_last (rung_moves g) (rung_gains g ws) n c.loop-done.gains.items c.loop-done.done some (omega (arith, count, some)) c.loop-done.invariant in
    table_near g is ws (each_price n ws c.requires) (n - 1) 1 c.loop-done.gains.items (omega (arith, some)) last
