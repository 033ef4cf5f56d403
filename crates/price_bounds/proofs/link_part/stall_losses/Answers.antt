use mir.Val.{SFits, of_z, to_z}
use Rattle.std.proofs.Common.{◌≡◌, ◌∙◌, ℕ, ◌+◌, ◌-◌, ◌*◌, ◌<◌, [], ◌∷◌, ◌++◌, length, ap, sym, subst, arith, length-append, rules}
use Rattle.std.specs.Int.{w128}
use Rattle.std.proofs.lemmas.Int.{to_z-of_z}
use Rattle.std.specs.Prelude.{pos, ◌-ℤ◌, slice_index, slice_index_or}
use Rattle.price_bounds.specs.Cells.{cells_of}
use Rattle.price_bounds.specs.Tables.{stall_cost}
use Rattle.price_bounds.specs.Windows.{price_unit}
use Rattle.price_bounds.proofs.CellCode.{edge_from, edge_is, edge_low, pushed}
use Rattle.price_bounds.proofs.link_part.stall_losses.Goals as goal

pub cost_of_stalls-cost-requires-clause-first : goal.cost_of_stalls-cost-requires-clause-first
cost_of_stalls-cost-requires-clause-first c =
    let edges = c.args.edges.now in
    let count = c.requires.edges.count in
    edge_from (slice_index edges 0) edges c.requires.edges c.loop-cell.cell (omega (arith, count))

pub cost_of_stalls-cost-requires-clause-delay : goal.cost_of_stalls-cost-requires-clause-delay
cost_of_stalls-cost-requires-clause-delay c =
    let edges = c.args.edges.now in
    let count = c.requires.edges.count in
    edge_low (slice_index edges 0) edges c.requires.edges c.loop-cell.cell (omega (arith, count))

pub loop-cell-preserved : goal.loop-cell-preserved
loop-cell-preserved c =
    let g = c.args.scene.now in
    let edges = c.args.edges.now in
    let first = slice_index edges 0 in
    let cell = c.loop-cell.cell in
    let losses = c.loop-cell.losses.items in
    let fits : SFits w128 c.difference.result = search rules in
    let loss = to_z w128 (of_z w128 c.difference.result) in
    let edge_count = c.requires.edges.count in
    let low : cell < cells_of first = omega (arith, edge_count) in
    let count = c.loop-cell.invariant.count in
    let long = length-append losses (loss ∷ []) in
    let items = c.in_ok-push.ensures.items in
    let cost = c.cost_of_stalls-cost.ensures.value ∙ ap (λ d. price_unit * (g.setup.weights.stall * (d - first))) (edge_is first edges c.requires.edges cell low) in
    let own = to_z-of_z w128 c.difference.result fits ∙ c.difference.ensures ∙ ap (λ n. pos 0 -ℤ pos n) cost in
    let each = pushed (λ k. pos 0 -ℤ pos (stall_cost g first k)) cell losses loss count c.loop-cell.invariant.each own in
    record {
      count = ap length items ∙ omega (arith, count, long);
      each = λ k below. ap (λ xs. slice_index_or xs k (pos 0)) items ∙ each k below;
    }
