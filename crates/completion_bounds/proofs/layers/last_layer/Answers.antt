use mir.Val.{SFits, of_z, to_z}
use Rattle.std.proofs.Common.{◌≡◌, ◌∙◌, ℕ, ◌*◌, ◌/◌, [], ◌∷◌, length, length-append, ap, ap₂, arith, rules}
use Rattle.std.specs.Int.{w64}
use Rattle.std.specs.Prelude.{ℤ, pos, ◌-ℤ◌, slice_index, slice_index_or}
use Rattle.std.proofs.lemmas.Int.{to_z-of_z}
use Rattle.completion_bounds.specs.Grid.{row_delay}
use Rattle.completion_bounds.proofs.LayerLaws.{last_is_layer, last_more}
use Rattle.completion_bounds.proofs.Sizes.{layer_few, row_few}
use Rattle.completion_bounds.proofs.layers.last_layer.Goals as goal

pub overflow_mul-per_row : goal.overflow_mul-per_row
overflow_mul-per_row c =
    let few = row_few c.args.scene.now c.kinds.ensures.task c.args.grid.now c.requires in
    let same = ap₂ (λ (x y : ℕ). x * y) c.width.ensures c.kinds.ensures.value in
    omega (arith, few, same)

pub overflow_mul-count : goal.overflow_mul-count
overflow_mul-count c =
    let few = layer_few c.args.scene.now c.kinds.ensures.task c.args.grid.now c.requires in
    let same = ap₂ (λ (x y : ℕ). x * y) (ap length c.rows-rows.ensures.value) (ap₂ (λ (x y : ℕ). x * y) c.width.ensures c.kinds.ensures.value) in
    omega (arith, few, same)

pub loop-place-preserved : goal.loop-place-preserved
loop-place-preserved c =
    let g = c.args.scene.now in
    let d = c.args.grid.now in
    let place = c.loop-place.place in
    let layer = c.loop-place.layer.items in
    let value = c.stall_loss.result in
    let row = place / (c.width.result * c.kinds.result) in
    let worth : ℕ → ℤ = λ x. pos 0 -ℤ pos (g.setup.weights.stall * row_delay d (x / (c.width.result * c.kinds.result))) in
    let fits : SFits w64 value = search rules in
    let v = to_z w64 (of_z w64 value) in
    let delay : c.step.result * slice_index c.rows-rows.result.now row ≡ row_delay d row = ap₂ (λ (x y : ℕ). x * y) c.step.ensures.value (ap (λ rs. slice_index rs row) c.rows-rows.ensures.value) in
    let e : v ≡ worth place = to_z-of_z w64 value fits ∙ c.stall_loss.ensures ∙ ap (λ x. pos 0 -ℤ pos (g.setup.weights.stall * x)) delay in
    let count = c.loop-place.invariant.count in
    record {
      count = ap length c.in_ok-push.ensures.items ∙ length-append layer (v ∷ []) ∙ omega (arith, count);
      each = λ x low. ap (λ xs. slice_index_or xs x (pos 0)) c.in_ok-push.ensures.items ∙ last_more worth place layer v count c.loop-place.invariant.each e x low;
    }

pub returns : goal.returns
returns c =
    let d = c.args.grid.now in
    let done = c.loop-place-test.false in
    let end = c.loop-place.auto in
    let wide = ap₂ (λ (x y : ℕ). x * y) c.width.ensures c.kinds.ensures.value in
    last_is_layer c.args.scene.now d (c.width.result * c.kinds.result) c.loop-place.place c.loop-place.layer.items wide c.loop-place.invariant.count
    (let all = ap (λ n. n * (c.width.result * c.kinds.result)) (ap length c.rows-rows.ensures.value) in omega (arith, done, end, all)) c.loop-place.invariant.each
