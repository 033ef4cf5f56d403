use Rattle.std.proofs.Common.{◌≡◌, ◌∙◌, inl, inr, ⊎_elim, ℕ, suc, ◌+◌, ◌-◌, ◌*◌, ◌≤◌, ◌<◌, length, sym, ap, ap₂, subst, arith, mul-le-mul}
use Rattle.std.specs.Prelude.{pos, slice_index, slice_index_or}
use Rattle.lab_model.specs.Film.{segments_of}
use Rattle.completion_bounds.specs.Grid.{kinds_of, row_steps}
use Rattle.completion_bounds.specs.Table.{IsLayerAt, cell_at, cells_of}
use Rattle.completion_bounds.proofs.Grids.{rows_in_order}
use Rattle.completion_bounds.proofs.LayerLaws.{gains_near, layer_first, layer_last, layer_more, steps_near}
use Rattle.completion_bounds.proofs.Sizes.{cells_few, columns_few, layer_few, steps_low}
use Rattle.completion_bounds.proofs.layers.fill_steps.Goals as goal

pub find_ways-requires-clause-steps : goal.find_ways-requires-clause-steps
find_ways-requires-clause-steps c =
    let d = c.args.grid.now in
    let fits = c.requires.grid in
    steps_low d.step (row_steps d c.args.first) d.columns c.args.steps fits.grid.step.1 (fits.grid.delays c.args.first) (columns_few c.args.scene.now c.kinds-kinds.ensures.task d fits) c.requires.steps.1

pub find_ways-requires-clause-cells : goal.find_ways-requires-clause-cells
find_ways-requires-clause-cells c = cells_few c.args.scene.now c.kinds-kinds.ensures.task c.args.grid.now c.requires.grid

pub loop-row-init : goal.loop-row-init
loop-row-init c = record {
  from = omega arith;
  gains = c.requires.gains;
  layer = layer_first c.args.scene.now c.args.grid.now (segments_of c.args.scene.now.film - c.args.segment) c.args.steps c.args.first c.args.layer.now c.requires.before c.requires.layer;
}

pub returns-then-own_steps-steps-clause-layer : goal.returns-then-own_steps-steps-clause-layer
returns-then-own_steps-steps-clause-layer c =
    let g = c.args.scene.now in
    let d = c.args.grid.now in
    let row = c.loop-row.row in
    let more = c.if-own_steps-steps.true in
    let own = ap (λ rs. slice_index rs row) c.rows-rows.ensures.value in
    layer_last g d (segments_of g.film - c.args.segment) c.args.steps row c.loop-row.layer
    (λ k low inside. let order = rows_in_order d c.requires.grid.grid.rising row k low inside in omega (arith, order, more, own)) c.loop-row.invariant.layer

pub returns-clause-layer : goal.returns-clause-layer
returns-clause-layer c =
    let g = c.args.scene.now in
    let d = c.args.grid.now in
    let done = c.loop-row-test.false in
    let all = ap length c.rows-rows.ensures.value in
    layer_last g d (segments_of g.film - c.args.segment) c.args.steps c.loop-row.row c.loop-row.layer
    (λ k low inside. absurd (omega (arith, low, inside, done, all))) c.loop-row.invariant.layer

pub take_gains-requires-clause-cells : goal.take_gains-requires-clause-cells
take_gains-requires-clause-cells c = cells_few c.args.scene.now c.kinds-kinds.ensures.task c.args.grid.now c.requires.grid

pub take_gains-requires-clause-few : goal.take_gains-requires-clause-few
take_gains-requires-clause-few c =
    let few = layer_few c.args.scene.now c.kinds-kinds.ensures.task c.args.grid.now c.requires.grid in
    let count = c.requires.behind.count in
    omega (arith, few, count)

pub cell_at-cell-requires-clause-column : goal.cell_at-cell-requires-clause-column
cell_at-cell-requires-clause-column c =
    let d = c.args.grid.now in
    let row = c.loop-row.row in
    let inside = c.loop-row-test.true in
    let all = ap length c.rows-rows.ensures.value in
    let own = ap (λ rs. slice_index rs row) c.rows-rows.ensures.value in
    let order = rows_in_order d c.requires.grid.grid.rising c.args.first row c.loop-row.invariant.from (omega (arith, inside, all)) in
    let high = c.requires.steps.1 in
    omega (arith, order, high, own)

pub cell_at-cell-requires-clause-cells : goal.cell_at-cell-requires-clause-cells
cell_at-cell-requires-clause-cells c = cells_few c.args.scene.now c.kinds-kinds.ensures.task c.args.grid.now c.requires.grid

pub fill_cell-requires-clause-own : goal.fill_cell-requires-clause-own
fill_cell-requires-clause-own c = steps_near c.args.scene.now c.kinds-kinds.ensures.task c.args.segment c.args.own.now c.requires.segment.1 c.requires.own

pub fill_cell-requires-clause-gains : goal.fill_cell-requires-clause-gains
fill_cell-requires-clause-gains c =
    let g = c.args.scene.now in
    let d = c.args.grid.now in
    let i = c.args.segment in
    let left = segments_of g.film - (i + 1) in
    let inside = c.requires.segment.1 in
    gains_near g c.kinds-kinds.ensures.task d c.requires.grid.grid left i c.args.steps c.loop-row.row c.take_gains.new.gains (omega (arith, inside))
    (c.take_gains.ensures.gains g left i c.args.steps c.kinds-kinds.ensures.value c.find_ways.ensures.ways c.requires.behind)

pub fill_cell-requires-clause-inside : goal.fill_cell-requires-clause-inside
fill_cell-requires-clause-inside c =
    let cells = cells_of c.args.grid.now in
    let kinds = c.kinds-kinds.result in
    let cell = c.cell_at-cell.ensures.inside in
    let next : c.cell_at-cell.result + 1 ≤ cells = omega (arith, cell) in
    let same : kinds ≤ kinds = omega arith in
    let far = mul-le-mul next same in
    let count = c.loop-row.invariant.layer.count ∙ ap (λ n. cells * n) (sym c.kinds-kinds.ensures.value) in
    omega (arith, far, count)

pub fill_cell-requires-clause-numbers : goal.fill_cell-requires-clause-numbers
fill_cell-requires-clause-numbers c =
    let few = layer_few c.args.scene.now c.kinds-kinds.ensures.task c.args.grid.now c.requires.grid in
    let count = c.loop-row.invariant.layer.count in
    omega (arith, few, count)

pub loop-row-preserved : goal.loop-row-preserved
loop-row-preserved c =
    let g = c.args.scene.now in
    let d = c.args.grid.now in
    let i = c.args.segment in
    let is = c.kinds-kinds.ensures.task in
    let steps = c.args.steps in
    let row = c.loop-row.row in
    let left = segments_of g.film - (i + 1) in
    let inside = c.requires.segment.1 in
    let whole : i + suc left ≡ segments_of g.film = omega (arith, inside) in
    let same : suc left ≡ segments_of g.film - i = omega (arith, inside) in
    let here = c.loop-row-test.true in
    let all = ap length c.rows-rows.ensures.value in
    let own = ap (λ rs. slice_index rs row) c.rows-rows.ensures.value in
    let order = rows_in_order d c.requires.grid.grid.rising c.args.first row c.loop-row.invariant.from (omega (arith, here, all)) in
    let high = c.requires.steps.1 in
    let low = c.if-own_steps-steps.false in
    let some = is.film.rungs.0 in
    let kinds = c.kinds-kinds.ensures.value in
    let cell = cell_at d row (steps - row_steps d row) in
    let at : c.cell_at-cell.result ≡ cell = c.cell_at-cell.ensures.value ∙ ap (λ m. cell_at d row (steps - m)) own in
    let base : c.cell_at-cell.result * c.kinds-kinds.result ≡ cell * kinds_of g = ap₂ (λ (x y : ℕ). x * y) at kinds in
    let gains = c.take_gains.new.gains in
    let new = c.fill_cell.new.layer in
    let old = subst (λ n. IsLayerAt g d n steps row c.loop-row.layer) (sym same) c.loop-row.invariant.layer in
    record {
      from = let from = c.loop-row.invariant.from in omega (arith, from);
      gains = c.take_gains.ensures.count ∙ c.loop-row.invariant.gains;
      layer = subst (λ n. IsLayerAt g d n steps (row + 1) new) same
          (layer_more g d left i steps row c.args.own.now gains c.loop-row.layer new whole some (omega (arith, low, own)) (omega (arith, order, high)) c.requires.own
          (c.take_gains.ensures.gains g left i steps kinds c.find_ways.ensures.ways c.requires.behind)
          c.fill_cell.ensures.count
          (λ x away. c.fill_cell.ensures.kept x
          (⊎_elim (λ (before : x < cell * kinds_of g). inl (omega (arith, base, before))) (λ (behind : cell * kinds_of g + kinds_of g ≤ x). inr (omega (arith, base, kinds, behind))) away))
          (λ q kind. ap (λ x. slice_index_or new (x + q) (pos 0)) (sym base) ∙ c.fill_cell.ensures.put q (omega (arith, kind, kinds)))
          old);
    }
