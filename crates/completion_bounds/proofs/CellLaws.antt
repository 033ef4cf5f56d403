-- The cells of labels that come at an instant.
use Rattle.std.proofs.Common.{◌≡◌, ◌∙◌, ℕ, ◌+◌, ◌-◌, ◌*◌, ◌/◌, ◌<◌, ◌≤◌, ⊎_elim, length, sym, ap, arith}
use Rattle.std.specs.Prelude.{max, min}
use Rattle.std.proofs.Math.Nat.{mul-div-le, mul-div_cancel_left}
use Rattle.std.proofs.lemmas.Bool.{cases_lt}
use Rattle.std.proofs.lemmas.Nat.{le-div}
use Rattle.player_core.specs.Scene.{Task}
use Rattle.labels.specs.Labels.{request_at, there_at}
use Rattle.completion_bounds.specs.declared.cells.Way.{Way}
use Rattle.completion_bounds.specs.Gain.{column_at, column_of, less_lead}
use Rattle.completion_bounds.specs.Grid.{GridParts, IsTableGrid, row_delay, delay_row, row_steps}
use Rattle.completion_bounds.specs.Table.{IsWay, came_after, cell_at, cell_of, cells_of, point}
use Rattle.completion_bounds.proofs.Grids.{row_inside, row_of_own}
use Rattle.completion_bounds.proofs.Sizes.{cell_inside}

div_in_order : (a b step : ℕ) → 1 ≤ step → a ≤ b → a / step ≤ b / step
div_in_order a b step some low = let whole = mul-div-le a step in le-div (a / step) b step some (omega (arith, whole, low))

-- the quotient of the greater is the greater quotient
div_max : (a b step : ℕ) → 1 ≤ step → max a b / step ≡ max (a / step) (b / step)
div_max a b step some =
    ⊎_elim (λ (less : a < b). let top : max a b ≡ b = omega (arith, less) in let order = div_in_order a b step some (omega (arith, less)) in ap (λ x. x / step) top ∙ omega (arith, order))
    (λ (more : b ≤ a). let top : max a b ≡ a = omega (arith, more) in let order = div_in_order b a step some more in ap (λ x. x / step) top ∙ omega (arith, order)) (cases_lt a b)

-- a request that a delay may put off, less the lead: the delay, where it does
put_off : (came delay lead buffer there : ℕ) → (max (max came ((delay + lead) - buffer)) there + buffer) - lead ≡ max ((max came there + buffer) - lead) delay
put_off came delay lead buffer there = omega arith

module _ (g : Task) (d : GridParts) (is : IsTableGrid d) where
  -- the column, in its row, of a label that comes at an instant, by what is late without its delay
  pub column_late : (segment came delay row : ℕ) → column_at g d (segment + 1) row (request_at g (segment + 1) (point came delay))
      ≡ min d.columns (max (less_lead g (segment + 1) (max came (there_at g (segment + 1))) / d.step) (delay / d.step) - row_steps d row)
  column_late segment came delay row =
      let lead = (segment + 1 + 1) * g.film.seg_ms in
      let there = there_at g (segment + 1) in
      ap (λ x. min d.columns (x / d.step - row_steps d row)) (put_off came delay lead g.setup.buffer_ms there)
      ∙ ap (λ x. min d.columns (x - row_steps d row)) (div_max ((max came there + g.setup.buffer_ms) - lead) delay d.step is.step.0)

  -- a cell of a label is one of the cells
  pub cell_of_inside : (segment : ℕ) (t p : ℕ) → cell_of g d segment (point t p) < cells_of d
  cell_of_inside segment t p = cell_inside d (delay_row d p) (column_of g d segment (point t p)) (row_inside d is.some p) (omega arith)

  module _ (segment came : ℕ) (w : Way) (way : IsWay g d segment came w) where
    -- where the delay is longer than the row's
    pub cell_beyond : (row : ℕ) → row_delay d row < w.delay → w.cell ≡ cell_of g d segment (came_after g d segment came row)
    cell_beyond row more =
        let own = way.delay in
        let same : came - segment * g.film.seg_ms ≡ max (row_delay d row) (came - segment * g.film.seg_ms) = omega (arith, own, more) in
        way.cell ∙ ap (λ p. cell_of g d segment (point came p)) same

    -- where it isn't
    pub cell_within : (row : ℕ) → row < length d.rows → w.delay ≤ row_delay d row → cell_at d row (min d.columns (w.late - row_steps d row)) ≡ cell_of g d segment (came_after g d segment came row)
    cell_within row inside less =
        let own = way.delay in
        let delay = row_delay d row in
        let same : delay ≡ max delay (came - segment * g.film.seg_ms) = omega (arith, own, less) in
        let late = way.late in
        let steps : delay / d.step ≡ row_steps d row = mul-div_cancel_left (row_steps d row) is.step.0 in
        let rest : w.late - row_steps d row ≡ max w.late (delay / d.step) - row_steps d row = omega (arith, steps) in
        let column = column_late segment came delay row in
        ap (λ x. cell_at d row (min d.columns x)) rest
        ∙ ap (λ x. cell_at d row (min d.columns (max x (delay / d.step) - row_steps d row))) late
        ∙ ap (cell_at d row) (sym column)
        ∙ ap (λ k. cell_at d k (column_at g d (segment + 1) k (request_at g (segment + 1) (point came delay)))) (sym (row_of_own d is row inside))
        ∙ ap (λ p. cell_of g d segment (point came p)) same
