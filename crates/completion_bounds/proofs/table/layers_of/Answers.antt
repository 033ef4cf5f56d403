use Rattle.std.proofs.Common.{◌≡◌, ◌∙◌, ◌+◌, ◌-◌, sym, ap, subst, arith}
use Rattle.lab_model.specs.Film.{segments_of}
use Rattle.completion_bounds.specs.Table.{AreLayers, IsGainLayer}
use Rattle.completion_bounds.proofs.LayerLaws.{layers_more}
use Rattle.completion_bounds.proofs.table.layers_of.Goals as goal

pub loop-left-preserved : goal.loop-left-preserved
loop-left-preserved c =
    let g = c.args.scene.now in
    let d = c.args.grid.now in
    let left = c.loop-left.left in
    let count = c.segments-count.ensures.value ∙ ap segments_of c.film.ensures.value in
    let inside = c.loop-left-test.true in
    let same : segments_of g.film - (c.segments-count.result - left) ≡ left = omega (arith, count, inside) in
    record {
      some = omega arith;
      layers = subst (AreLayers g d (left + 1)) (sym c.in_ok-push-2.ensures.items)
          (layers_more g d left c.loop-left.layers.items c.in_ok-layer.layer c.loop-left.invariant.layers (subst (λ n. IsGainLayer g d n c.in_ok-layer.layer.items) same c.in_ok-layer.ensures));
    }
