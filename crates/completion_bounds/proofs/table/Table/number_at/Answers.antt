use mir.Val.{SFits, of_z, to_z}
use Rattle.std.proofs.Common.{◌≡◌, ◌∙◌, ℕ, ◌+◌, ◌*◌, ◌<◌, ◌≤◌, length, sym, ap, subst, arith, rules}
use Rattle.std.specs.Int.{w64}
use Rattle.std.specs.Prelude.{ℤ, pos, slice_index_or, Vec}
use Rattle.std.specs.Global.{Global}
use Rattle.std.proofs.lemmas.Int.{to_z-of_z}
use Rattle.std.proofs.lemmas.List.{get_or_default}
use Rattle.lab_model.specs.Film.{segments_of}
use Rattle.completion_bounds.specs.Gain.{gain_left}
use Rattle.completion_bounds.specs.Grid.{kinds_of}
use Rattle.completion_bounds.specs.Table.{IsGainLayer, TableValue, cell_at, cells_of}
use Rattle.completion_bounds.proofs.Sizes.{place_inside}
use Rattle.completion_bounds.proofs.table.Table.number_at.Goals as goal

pub index-requires : goal.index-requires
index-requires c =
    let g = c.self.inside.scene.now in
    let d = c.self.inside.grid in
    let left = subst (λ (v : TableValue). c.args.left < segments_of v.scene.film) (sym c.self.view_is) c.requires.left in
    let cell = subst (λ (v : TableValue). c.args.cell < cells_of v.grid) (sym c.self.view_is) c.requires.cell in
    let kind = subst (λ (v : TableValue). c.args.kind < kinds_of v.scene) (sym c.self.view_is) c.requires.kind in
    let layer = subst (λ (v : Vec ℤ Global). IsGainLayer g d c.args.left v.items) (sym c.index-layer.ensures) (c.self.invariant.layers.each c.args.left c.index-layer.result.now left) in
    let kinds = c.kinds.ensures.value in
    let place = place_inside (cells_of d) c.kinds.result c.args.cell c.args.kind cell (omega (arith, kind, kinds)) in
    let count = layer.count ∙ ap (λ n. cells_of d * n) (sym kinds) in
    omega (arith, place, count)

pub returns : goal.returns
returns c =
    let g = c.self.inside.scene.now in
    let d = c.self.inside.grid in
    let left = subst (λ (v : TableValue). c.args.left < segments_of v.scene.film) (sym c.self.view_is) c.requires.left in
    let cell = subst (λ (v : TableValue). c.args.cell < cells_of v.grid) (sym c.self.view_is) c.requires.cell in
    let kind = subst (λ (v : TableValue). c.args.kind < kinds_of v.scene) (sym c.self.view_is) c.requires.kind in
    let layer = subst (λ (v : Vec ℤ Global). IsGainLayer g d c.args.left v.items) (sym c.index-layer.ensures) (c.self.invariant.layers.each c.args.left c.index-layer.result.now left) in
    let kinds = c.kinds.ensures.value in
    let items = c.index-layer.result.now.items in
    let value = c.index.result.now in
    let fits : SFits w64 value = search rules in
    let place = c.args.cell * c.kinds.result + c.args.kind in
    let inside = place_inside (cells_of d) c.kinds.result c.args.cell c.args.kind cell (omega (arith, kind, kinds)) in
    let count = layer.count ∙ ap (λ n. cells_of d * n) (sym kinds) in
    subst (λ (v : TableValue). (k column : ℕ) → c.args.cell ≡ cell_at v.grid k column → k < length v.grid.rows → column ≤ v.grid.columns
    → to_z w64 (of_z w64 value) ≡ gain_left v.scene v.grid c.args.left c.args.kind k column) c.self.view_is
    (λ k column at row short.
    to_z-of_z w64 value fits ∙ c.index.ensures ∙ get_or_default items place value (pos 0) (omega (arith, inside, count))
    ∙ ap (λ n. slice_index_or items (c.args.cell * n + c.args.kind) (pos 0)) kinds ∙ ap (λ x. slice_index_or items (x * kinds_of g + c.args.kind) (pos 0)) at
    ∙ layer.each k column c.args.kind row short kind)
