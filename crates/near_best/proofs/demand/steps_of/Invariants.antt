use Rattle.std.proofs.Common.{◌<◌}
use Rattle.lab_model.specs.Film.{rungs_of}
use Rattle.near_best.proofs.demand.steps_of.Given as goal

abbrev pub invariant-loop : goal.invariant-loop
invariant-loop l = l.rung < rungs_of l.scene.film
