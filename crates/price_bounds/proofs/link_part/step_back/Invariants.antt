use Rattle.std.proofs.Common.{◌+◌, ◌-◌, max}
use Rattle.std.specs.Prelude.{pos, ◌+ℤ◌, slice_index, slice_index_or}
use Rattle.lab_model.specs.Film.{segments_of}
use Rattle.price_bounds.specs.Cells.{cells_of}
use Rattle.price_bounds.specs.Tables.{IsBestOf, IsSteppedTo, cell_gains, cell_moves, ending_worth}
use Rattle.price_bounds.proofs.link_part.step_back.Given as goal

abbrev pub invariant-loop-done : goal.invariant-loop-done
invariant-loop-done l =
    let first = slice_index l.edges 0 in
    record {
      best : IsBestOf (cells_of first) (max l.done 1) (λ c. pos (ending_worth l.scene l.windows first l.segment c) +ℤ slice_index_or l.initial.table c (pos 0)) l.best;
      table : IsSteppedTo (cell_moves first) (cell_gains l.scene l.windows first) (segments_of l.scene.film - (l.segment + 1)) l.segment l.initial.table l.done l.table;
    }
