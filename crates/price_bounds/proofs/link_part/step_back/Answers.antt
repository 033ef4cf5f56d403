use mir.Val.{SFits, of_z, to_z}
use Rattle.std.proofs.Common.{◌≡◌, ◌∙◌, ℕ, suc, ◌+◌, ◌-◌, ◌≤◌, ◌<◌, List, length, max, sym, ap, subst, arith, rules}
use Rattle.std.specs.Int.{int_max, w128}
use Rattle.std.specs.Prelude.{ℤ, pos, ◌+ℤ◌, ◌-ℤ◌, slice_index, slice_index_or}
use Rattle.std.proofs.lemmas.Int.{clamps, ints, to_z-of_z}
use Rattle.lab_model.specs.Film.{segments_of}
use Rattle.lab_model.specs.Number.{IsNear}
use Rattle.price_bounds.specs.Cells.{cells_of}
use Rattle.price_bounds.specs.Steps.{IsTable}
use Rattle.price_bounds.specs.Tables.{IsBestOf, beginning_worth, cell_gains, cell_moves, ending_worth, most_link_worth, most_worth}
use Rattle.price_bounds.proofs.CellLaws.{cells_some}
use Rattle.price_bounds.proofs.CellCode.{all_done, begin_is, begun, best_begun, best_near, edge_from, edge_low, end_is, ending_low, less_fits, less_is, next_low, old_near, went_on}
use Rattle.price_bounds.proofs.CellSteps.{best_more}
use Rattle.price_bounds.proofs.PriceSums.{are_cheap}
use Rattle.price_bounds.proofs.link_part.step_back.Goals as goal

pub price_ending-ending-requires : goal.price_ending-ending-requires
price_ending-ending-requires c = are_cheap (segments_of c.args.scene.now.film) c.args.windows.now c.requires.windows

pub price_beginning-beginning-requires : goal.price_beginning-beginning-requires
price_beginning-beginning-requires c = are_cheap (segments_of c.args.scene.now.film) c.args.windows.now c.requires.windows

pub overflow_sub-last : goal.overflow_sub-last
overflow_sub-last c =
    let some = cells_some (slice_index c.args.edges.now 0) c.requires.edges.near in
    let count = c.requires.table.count in
    omega (arith, some, count)

pub bounds-edges-last : goal.bounds-edges-last
bounds-edges-last c =
    let some = cells_some (slice_index c.args.edges.now 0) c.requires.edges.near in
    let count = c.requires.table.count in
    let long = c.requires.edges.count in
    omega (arith, some, count, long)

pub worth_to_end-last_end-requires-clause-edge : goal.worth_to_end-last_end-requires-clause-edge
worth_to_end-last_end-requires-clause-edge c =
    let edges = c.args.edges.now in
    let some = cells_some (slice_index edges 0) c.requires.edges.near in
    let count = c.requires.table.count in
    next_low (slice_index edges 0) edges c.requires.edges (length c.args.table.now - 1) (omega (arith, some, count))

pub slice_copy_out-best : goal.slice_copy_out-best
slice_copy_out-best c =
    let some = cells_some (slice_index c.args.edges.now 0) c.requires.edges.near in
    let count = c.requires.table.count in
    omega (arith, some, count)

pub overflow_add-best : goal.overflow_add-best
overflow_add-best c =
    let g = c.args.scene.now in
    let first = slice_index c.args.edges.now 0 in
    let old = c.args.table.now in
    let some = cells_some first c.requires.edges.near in
    let count = c.requires.table.count in
    let inside = c.requires.segment.1 in
    let near = old_near g c.segments.ensures.task c.args.windows.now c.requires.windows first (segments_of g.film - (c.args.segment + 1)) (c.args.segment + 1) old (omega (arith, inside)) c.requires.table
    (length old - 1) (omega (arith, some, count)) in
    let low = near.low in
    let high = near.high in
    let limit = c.worth_to_end-last_end.ensures.limit in
    omega (arith, ints, low, high, limit)

pub loop-done-init : goal.loop-done-init
loop-done-init c =
    let g = c.args.scene.now in
    let ws = c.args.windows.now in
    let edges = c.args.edges.now in
    let first = slice_index edges 0 in
    let i = c.args.segment in
    let n = segments_of g.film - (i + 1) in
    let old = c.args.table.now in
    let last = length old - 1 in
    let some = cells_some first c.requires.edges.near in
    let count = c.requires.table.count in
    let inside = c.requires.segment.1 in
    let below : last < cells_of first = omega (arith, some, count) in
    let near = old_near g c.segments.ensures.task ws c.requires.windows first n (i + 1) old (omega (arith, inside)) c.requires.table last below in
    let low = near.low in
    let high = near.high in
    let limit = c.worth_to_end-last_end.ensures.limit in
    let end = end_is first edges c.requires.edges g ws i last c.price_ending-ending.result c.worth_to_end-last_end.result below c.price_ending-ending.ensures.value c.worth_to_end-last_end.ensures.value in
    let at : last ≡ cells_of first - 1 = omega (arith, count) in
    let worth = ap (ending_worth g ws first i) at in
    let read = ap (λ (k : ℕ). slice_index_or old k (pos 0)) at in
    record {
      best = best_begun g ws first i n old c.requires.table _ some (omega (arith, ints, low, high, limit, end, worth, read));
      table = begun g ws first i n old c.requires.table;
    }

pub worth_to_end-end-requires-clause-edge : goal.worth_to_end-end-requires-clause-edge
worth_to_end-end-requires-clause-edge c =
    let edges = c.args.edges.now in
    let some = cells_some (slice_index edges 0) c.requires.edges.near in
    let count = c.requires.table.count in
    next_low (slice_index edges 0) edges c.requires.edges (length c.args.table.now - 1 - c.loop-done.done) (omega (arith, some, count))

pub overflow_add-here : goal.overflow_add-here
overflow_add-here c =
    let g = c.args.scene.now in
    let first = slice_index c.args.edges.now 0 in
    let old = c.args.table.now in
    let cell = length old - 1 - c.loop-done.done in
    let some = cells_some first c.requires.edges.near in
    let count = c.requires.table.count in
    let inside = c.requires.segment.1 in
    let below : cell < cells_of first = omega (arith, some, count) in
    let near = old_near g c.segments.ensures.task c.args.windows.now c.requires.windows first (segments_of g.film - (c.args.segment + 1)) (c.args.segment + 1) old (omega (arith, inside)) c.requires.table cell below in
    let low = near.low in
    let high = near.high in
    let kept = c.loop-done.invariant.table.kept cell (omega (arith, some, count)) in
    let limit = c.worth_to_end-end.ensures.limit in
    omega (arith, ints, low, high, kept, limit)

pub worth_to_begin-begin-requires-clause-first : goal.worth_to_begin-begin-requires-clause-first
worth_to_begin-begin-requires-clause-first c =
    let edges = c.args.edges.now in
    let some = cells_some (slice_index edges 0) c.requires.edges.near in
    let count = c.requires.table.count in
    edge_from (slice_index edges 0) edges c.requires.edges (length c.args.table.now - 1 - c.loop-done.done) (omega (arith, some, count))

pub worth_to_begin-begin-requires-clause-edge : goal.worth_to_begin-begin-requires-clause-edge
worth_to_begin-begin-requires-clause-edge c =
    let edges = c.args.edges.now in
    let some = cells_some (slice_index edges 0) c.requires.edges.near in
    let count = c.requires.table.count in
    edge_low (slice_index edges 0) edges c.requires.edges (length c.args.table.now - 1 - c.loop-done.done) (omega (arith, some, count))

pub overflow_sub-table : goal.overflow_sub-table
overflow_sub-table c =
    let g = c.args.scene.now in
    let is = c.segments.ensures.task in
    let ws = c.args.windows.now in
    let edges = c.args.edges.now in
    let first = slice_index edges 0 in
    let i = c.args.segment in
    let n = segments_of g.film - (i + 1) in
    let old = c.args.table.now in
    let done = c.loop-done.done in
    let cell = length old - 1 - done in
    let some = cells_some first c.requires.edges.near in
    let count = c.requires.table.count in
    let inside = c.requires.segment.1 in
    let below : cell < cells_of first = omega (arith, some, count) in
    let place : cell + done + 1 ≡ cells_of first = omega (arith, some, count) in
    let nears = old_near g is ws c.requires.windows first n (i + 1) old (omega (arith, inside)) c.requires.table in
    let near = nears cell below in
    let low = near.low in
    let high = near.high in
    let kept = c.loop-done.invariant.table.kept cell (omega (arith, place)) in
    let limit = c.worth_to_end-end.ensures.limit in
    let end = end_is first edges c.requires.edges g ws i cell c.price_ending-ending.result c.worth_to_end-end.result below c.price_ending-ending.ensures.value c.worth_to_end-end.ensures.value in
    let up : c.max-best.result ≡ int_max (to_z w128 c.loop-done.best-bits) (pos (ending_worth g ws first i cell) +ℤ slice_index_or old cell (pos 0)) = omega (arith, ints, clamps, low, high, kept, limit, end) in
    let more = best_more (cells_of first) (λ k. pos (ending_worth g ws first i k) +ℤ slice_index_or old k (pos 0)) done cell (to_z w128 c.loop-done.best-bits) place c.loop-done.invariant.best in
    let best = subst (IsBestOf (cells_of first) (max (done + 1) 1) (λ k. pos (ending_worth g ws first i k) +ℤ slice_index_or old k (pos 0))) (sym up) more in
    let far = best_near g ws first i (max (done + 1) 1) old c.max-best.result (ending_low g is ws c.requires.windows first i inside) nears best in
    less_fits c.max-best.result c.worth_to_begin-begin.result far c.worth_to_begin-begin.ensures.limit

pub loop-done-preserved : goal.loop-done-preserved
loop-done-preserved c =
    let g = c.args.scene.now in
    let is = c.segments.ensures.task in
    let ws = c.args.windows.now in
    let edges = c.args.edges.now in
    let first = slice_index edges 0 in
    let i = c.args.segment in
    let n = segments_of g.film - (i + 1) in
    let old = c.args.table.now in
    let done = c.loop-done.done in
    let cell = length old - 1 - done in
    let some = cells_some first c.requires.edges.near in
    let count = c.requires.table.count in
    let inside = c.requires.segment.1 in
    let below : cell < cells_of first = omega (arith, some, count) in
    let place : cell + done + 1 ≡ cells_of first = omega (arith, some, count) in
    let nears = old_near g is ws c.requires.windows first n (i + 1) old (omega (arith, inside)) c.requires.table in
    let near = nears cell below in
    let low = near.low in
    let high = near.high in
    let kept = c.loop-done.invariant.table.kept cell (omega (arith, place)) in
    let limit = c.worth_to_end-end.ensures.limit in
    let end = end_is first edges c.requires.edges g ws i cell c.price_ending-ending.result c.worth_to_end-end.result below c.price_ending-ending.ensures.value c.worth_to_end-end.ensures.value in
    let up : c.max-best.result ≡ int_max (to_z w128 c.loop-done.best-bits) (pos (ending_worth g ws first i cell) +ℤ slice_index_or old cell (pos 0)) = omega (arith, ints, clamps, low, high, kept, limit, end) in
    let more = best_more (cells_of first) (λ k. pos (ending_worth g ws first i k) +ℤ slice_index_or old k (pos 0)) done cell (to_z w128 c.loop-done.best-bits) place c.loop-done.invariant.best in
    let best = subst (IsBestOf (cells_of first) (max (done + 1) 1) (λ k. pos (ending_worth g ws first i k) +ℤ slice_index_or old k (pos 0))) (sym up) more in
    let far = best_near g ws first i (max (done + 1) 1) old c.max-best.result (ending_low g is ws c.requires.windows first i inside) nears best in
    let start = c.worth_to_begin-begin.ensures.limit in
    let begin = begin_is first edges c.requires.edges g ws i cell c.price_beginning-beginning.result c.worth_to_begin-begin.result below c.price_beginning-beginning.ensures.value c.worth_to_begin-begin.ensures.value in
    let fits : SFits w128 c.max-best.result = search rules in
    record {
      best = subst (IsBestOf (cells_of first) (max (done + 1) 1) (λ k. pos (ending_worth g ws first i k) +ℤ slice_index_or old k (pos 0))) (sym (to_z-of_z w128 c.max-best.result fits)) best;
      table = went_on g ws first i n old c.requires.table done cell c.loop-done.table c.max-best.result _ place (less_is c.max-best.result c.worth_to_begin-begin.result (beginning_worth g ws first i cell) far start begin) c.loop-done.invariant.table best;
    }

pub returns : goal.returns
returns c =
    let g = c.args.scene.now in
    let ws = c.args.windows.now in
    let first = slice_index c.args.edges.now 0 in
    let i = c.args.segment in
    let n = segments_of g.film - (i + 1) in
    let count = c.requires.table.count in
    let inside = c.requires.segment.1 in
    let steps : suc n ≡ segments_of g.film - i = omega (arith, inside) in
    subst (λ k. IsTable (cell_moves first) (cell_gains g ws first) k i c.loop-done.table) steps
    (all_done g ws first i n c.args.table.now c.requires.table c.loop-done.done c.loop-done.table (omega (arith, count)) c.loop-done.invariant.table)
