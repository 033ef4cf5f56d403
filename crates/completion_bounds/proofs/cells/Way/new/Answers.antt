use Rattle.std.proofs.Common.{◌≡◌, ◌∙◌, ◌+◌, ◌-◌, ◌*◌, ◌/◌, max, sym, ap, ap₂}
use Rattle.std.specs.Prelude.{ℕ, min, slice_index}
use Rattle.labels.specs.Labels.{request_at, there_at}
use Rattle.completion_bounds.specs.Gain.{column_at, less_lead}
use Rattle.completion_bounds.specs.Grid.{delay_row, row_steps}
use Rattle.completion_bounds.specs.Table.{cell_at, point}
use Rattle.completion_bounds.proofs.CellLaws.{column_late}
use Rattle.completion_bounds.proofs.cells.Way.new.Goals as goal

pub returns-clause-way : goal.returns-clause-way
returns-clause-way c =
    let g = c.args.scene.now in
    let d = c.args.grid.now in
    let i = c.args.segment in
    let came = c.args.came in
    let p = came - i * g.film.seg_ms in
    let asked = max came (there_at g (i + 1)) in
    let row = c.delay_row-row.result in
    let seg : c.seg_ms.result ≡ g.film.seg_ms = c.seg_ms.ensures.value ∙ ap (λ f. f.seg_ms) c.film-film.ensures.value in
    let delay : c.saturating_sub-delay.result ≡ p = c.saturating_sub-delay.ensures ∙ ap (λ s. came - i * s) seg in
    let back : c.less_lead.result ≡ less_lead g (i + 1) asked = c.less_lead.ensures ∙ ap (less_lead g (i + 1)) (c.max-asked.ensures ∙ ap (max came) c.there_at.ensures.value) in
    let late : c.less_lead.result / c.step-step.result ≡ less_lead g (i + 1) asked / d.step = ap₂ (λ (x s : ℕ). x / s) back c.step-step.ensures.value in
    let own : c.saturating_sub-delay.result / c.step-step.result ≡ p / d.step = ap₂ (λ (x s : ℕ). x / s) delay c.step-step.ensures.value in
    let later : c.max.result ≡ max (less_lead g (i + 1) asked / d.step) (p / d.step) = c.max.ensures ∙ ap₂ max late own in
    let steps : slice_index c.rows.result.now row ≡ row_steps d row = ap (λ rs. slice_index rs row) c.rows.ensures.value in
    let column = c.column_in-column.ensures.value ∙ ap₂ (λ (x s : ℕ). min d.columns (x - s)) later steps ∙ sym (column_late g d c.delay_row-row.ensures.grid i came p row) in
    record {
      delay = delay;
      late = late;
      cell = c.cell_at.ensures.value ∙ ap (cell_at d row) column
          ∙ ap (λ k. cell_at d k (column_at g d (i + 1) k (request_at g (i + 1) (point came p)))) (c.delay_row-row.ensures.value ∙ ap (delay_row d) delay);
    }
