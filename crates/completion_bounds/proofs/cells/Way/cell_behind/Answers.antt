use Rattle.std.proofs.Common.{◌≡◌, ◌∙◌, ◌-◌, ◌*◌, ap, arith}
use Rattle.std.specs.Prelude.{min, slice_index}
use Rattle.completion_bounds.specs.Grid.{row_delay}
use Rattle.completion_bounds.specs.Table.{cell_at}
use Rattle.completion_bounds.proofs.CellLaws.{cell_within}
use Rattle.completion_bounds.proofs.cells.Way.cell_behind.Goals as goal

pub returns-clause-value : goal.returns-clause-value
returns-clause-value c = λ g segment came way.
    let d = c.args.grid.now in
    let k = c.args.row in
    let less = c.if-self-step.false in
    let delay : c.step.result * slice_index c.rows.result.now k ≡ row_delay d k = ap (λ s. s * slice_index c.rows.result.now k) c.step.ensures.value ∙ ap (λ rs. d.step * slice_index rs k) c.rows.ensures.value in
    c.cell_at.ensures.value ∙ ap (cell_at d k) c.column_in.ensures.value
    ∙ ap (λ rs. cell_at d k (min d.columns (c.args.self.now.late - slice_index rs k))) c.rows.ensures.value
    ∙ cell_within g d c.rows.ensures.grid segment came c.args.self.now way k c.requires.row (omega (arith, less, delay))
