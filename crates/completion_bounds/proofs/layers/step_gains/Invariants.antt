use Rattle.std.proofs.Common.{◌+◌, ◌*◌}
use Rattle.lab_model.specs.Film.{rungs_of}
use Rattle.completion_bounds.specs.Table.{AreStepGainsTo}
use Rattle.completion_bounds.proofs.layers.step_gains.Given as goal

abbrev pub invariant-loop-rung : goal.invariant-loop-rung
invariant-loop-rung l = AreStepGainsTo l.scene l.segment (l.before * rungs_of l.scene.film + l.rung) l.gains.items

abbrev pub invariant-loop-before : goal.invariant-loop-before
invariant-loop-before l = AreStepGainsTo l.scene l.segment (l.before * rungs_of l.scene.film) l.gains.items
