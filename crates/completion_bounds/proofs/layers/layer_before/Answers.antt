use Rattle.std.proofs.Common.{◌≡◌, ◌∙◌, ⊎_elim, ◌+◌, ◌-◌, length, max, sym, ap, subst, arith, rules, Fits, w32}
use Rattle.std.specs.Prelude.{slice_index}
use Rattle.std.proofs.lemmas.Bool.{cases_eq}
use Rattle.lab_model.specs.Film.{segments_of}
use Rattle.completion_bounds.specs.Grid.{row_steps}
use Rattle.completion_bounds.specs.Table.{IsLayerBelow}
use Rattle.completion_bounds.proofs.Grids.{rows_in_order}
use Rattle.completion_bounds.proofs.LayerLaws.{layer_all, layer_skip, layer_weaker}
use Rattle.completion_bounds.proofs.Sizes.{cells_few, columns_few}
use Rattle.completion_bounds.proofs.layers.layer_before.Goals as goal

pub new-requires-clause-cells : goal.new-requires-clause-cells
new-requires-clause-cells c = cells_few c.args.scene.now c.film.ensures.task c.args.grid.now c.requires.grid

pub overflow_add-end : goal.overflow_add-end
overflow_add-end c =
    let few = columns_few c.args.scene.now c.film.ensures.task c.args.grid.now c.requires.grid in
    let wide = c.width.ensures in
    let steps : Fits w32 (slice_index c.rows.result.now c.loop-row.row) = search rules in
    omega (arith, few, wide, steps)

pub loop-sum-init : goal.loop-sum-init
loop-sum-init c =
    let g = c.args.scene.now in
    let d = c.args.grid.now in
    let row = c.loop-row.row in
    let left = segments_of g.film - c.args.segment in
    let own = ap (λ rs. slice_index rs row) c.rows.ensures.value in
    let here = c.loop-row-test.true in
    let all = ap length c.rows-row-end.ensures.value in
    record {
      ways = c.loop-row.invariant.ways;
      gains = c.loop-row.invariant.gains;
      layer = subst (λ n. IsLayerBelow g d left n c.loop-row.layer.items) (ap (λ m. max m c.loop-row.from) (sym own) ∙ sym c.max-sum.ensures)
          (layer_skip g d c.requires.grid.grid left c.loop-row.from row c.loop-row.layer.items (omega (arith, here, all)) c.loop-row.invariant.short c.loop-row.invariant.layer);
    }

pub fill_steps-requires-clause-before : goal.fill_steps-requires-clause-before
fill_steps-requires-clause-before c = λ k low.
    let short = c.loop-row.invariant.short k low in
    let from = c.max-sum.ensures in
    omega (arith, short, from)

pub loop-row-preserved : goal.loop-row-preserved
loop-row-preserved c =
    let g = c.args.scene.now in
    let d = c.args.grid.now in
    let row = c.loop-row.row in
    let left = segments_of g.film - c.args.segment in
    let own = ap (λ rs. slice_index rs row) c.rows.ensures.value in
    let wide = c.width.ensures in
    let done = c.loop-sum-test.false in
    let here = c.loop-row-test.true in
    let all = ap length c.rows-row-end.ensures.value in
    record {
      ways = c.loop-sum.invariant.ways;
      gains = c.loop-sum.invariant.gains;
      short = λ k low. ⊎_elim (λ (last : k ≡ row). let same = ap (row_steps d) last in omega (arith, same, own, wide))
          (λ (other : k ≡ row → ⊥).
          let order = rows_in_order d c.requires.grid.grid.rising k row (omega (arith, low, other)) (omega (arith, here, all)) in
          omega (arith, order, own, wide)) (cases_eq k row);
      layer = layer_weaker g d left c.loop-sum.sum (slice_index c.rows.result.now row + c.width.result) c.loop-sum.layer.items (omega (arith, done)) c.loop-sum.invariant.layer;
    }

pub returns : goal.returns
returns c =
    let g = c.args.scene.now in
    let d = c.args.grid.now in
    let done = c.loop-row-test.false in
    let all = ap length c.rows-row-end.ensures.value in
    layer_all g d (segments_of g.film - c.args.segment) c.loop-row.from c.loop-row.layer.items (λ k inside. c.loop-row.invariant.short k (omega (arith, inside, done, all))) c.loop-row.invariant.layer
