use Rattle.std.proofs.Common.{◌-◌}
use Rattle.lab_model.specs.Film.{segments_of}
use Rattle.price_bounds.specs.Tables.{IsTableTo, rung_gains, rung_moves}
use Rattle.price_bounds.proofs.list_part.gains_from.Given as goal

abbrev pub invariant-loop-before : goal.invariant-loop-before
invariant-loop-before l = IsTableTo (rung_moves l.scene) (rung_gains l.scene l.windows) (segments_of l.scene.film - l.segment) l.segment l.before l.gains.items
