use Rattle.std.specs.Prelude.{pos, ◌+ℤ◌, slice_index_or}
use Rattle.price_bounds.specs.Tables.{IsBestBelow, rung_gain}
use Rattle.price_bounds.proofs.list_part.best_gain.Given as goal

abbrev pub invariant-loop-rung : goal.invariant-loop-rung
invariant-loop-rung l = IsBestBelow l.rung (λ r. rung_gain l.scene l.price l.segment l.before r +ℤ slice_index_or l.behind r (pos 0)) l.best
