use mir.Val.{SFits, of_z, to_z}
use Rattle.std.proofs.Common.{◌≡◌, ◌∙◌, ◌+◌, ◌-◌, ◌<◌, length, sym, ap, subst, arith, rules}
use Rattle.std.specs.Int.{w64}
use Rattle.std.proofs.lemmas.Int.{to_z-of_z}
use Rattle.lab_model.specs.Film.{segments_of}
use Rattle.lab_model.specs.Number.{IsNear}
use Rattle.player_core.specs.Scene.{IsTask, Task}
use Rattle.completion_bounds.specs.Gain.{column_of, gain, gain_left, label_gain}
use Rattle.completion_bounds.specs.Grid.{GridParts, IsTableGrid, kinds_of, delay_row}
use Rattle.completion_bounds.specs.Table.{TableValue, cell_at, kind_among, most_gain}
use Rattle.completion_bounds.proofs.Gains.{gain_near, number_is_gain}
use Rattle.completion_bounds.proofs.Sizes.{cells_few}
use Rattle.completion_bounds.proofs.table.Table.gain.Goals as goal

pub cell_at-cell-requires-clause-cells : goal.cell_at-cell-requires-clause-cells
cell_at-cell-requires-clause-cells c = cells_few c.self.inside.scene.now c.self.invariant.task c.self.inside.grid c.self.invariant.grid

pub returns : goal.returns
returns c =
    let g = c.args.self.now.scene in
    let d = c.args.self.now.grid in
    let scene = ap (λ (v : TableValue). v.scene) c.self.view_is in
    let grid = ap (λ (v : TableValue). v.grid) c.self.view_is in
    let i = c.args.segment in
    let q = c.args.rung in
    let l = c.args.label in
    let row = c.delay_row-row.result in
    let column = c.column_of-column.result in
    let at = c.cell_at-cell.ensures.value ∙ ap (λ x. cell_at x row column) grid in
    let inside = subst (λ (x : GridParts). row < length x.rows) grid c.delay_row-row.ensures.inside in
    let short = c.column_of-column.ensures.inside in
    let count = c.segments.ensures.value ∙ ap segments_of c.film.ensures.value ∙ ap (λ (x : Task). segments_of x.film) scene in
    let left = c.segments.result - 1 - i in
    let rest : left ≡ segments_of g.film - (i + 1) = omega (arith, count) in
    let kind = c.kind_among-kind.ensures ∙ ap (λ n. kind_among n q) (c.kinds.ensures.value ∙ ap kinds_of scene) in
    let own = c.delay_row-row.ensures.value ∙ ap (λ x. delay_row x l.p) grid in
    let fits : SFits w64 c.number_at.result = search rules in
    let value : to_z w64 (of_z w64 c.number_at.result) ≡ label_gain g d i q l =
    to_z-of_z w64 c.number_at.result fits ∙ c.number_at.ensures row column at inside short
    ∙ ap (λ k. gain_left g d left k row column) kind
    ∙ number_is_gain g d i q row column (column_of g d i l) left c.requires.rung rest c.column_of-column.ensures.value
    ∙ ap (λ k. gain g d i q k (column_of g d i l)) own in
    let is = subst IsTask scene c.self.invariant.task in
    let good = subst IsTableGrid grid c.self.invariant.grid.grid in
    let some = c.requires.segment in
    record {
      value = value;
      near = subst (IsNear most_gain) (sym value) (gain_near g is d good (segments_of g.film - (i + 1)) q (delay_row d l.p) (column_of g d i l) (omega (arith, some)) c.requires.rung);
    }
