use Rattle.std.proofs.Common.{◌+◌, ◌-◌}
use Rattle.lab_model.specs.Film.{segments_of}
use Rattle.price_bounds.specs.Steps.{IsTable}
use Rattle.price_bounds.specs.Tables.{rung_gains, rung_moves}
use Rattle.price_bounds.proofs.list_part.list_parts.Given as goal

abbrev pub invariant-loop-done : goal.invariant-loop-done
invariant-loop-done l =
    let n = segments_of l.scene.film in
    IsTable (rung_moves l.scene) (rung_gains l.scene l.windows) (n - ((n - l.done) + 1)) ((n - l.done) + 1) l.gains.items
