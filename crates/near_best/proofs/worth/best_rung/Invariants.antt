use Rattle.std.proofs.Common.{◌<◌}
use Rattle.lab_model.specs.Film.{rungs_of}
use Rattle.near_best.proofs.worth.best_rung.Given as goal

abbrev pub invariant-loop-rung : goal.invariant-loop-rung
invariant-loop-rung l = l.best < rungs_of l.scene.film
