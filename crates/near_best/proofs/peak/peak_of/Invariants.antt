use Rattle.std.proofs.Common.{◌<◌}
use Rattle.lab_model.specs.Film.{rungs_of}
use Rattle.near_best.proofs.peak.peak_of.Given as goal

abbrev pub invariant-loop-rung : goal.invariant-loop-rung
invariant-loop-rung l = l.peak.rung < rungs_of l.scene.film
