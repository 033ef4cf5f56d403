use Rattle.std.proofs.Common.{◌<◌, IfSome}
use Rattle.lab_model.specs.Film.{rungs_of}
use Rattle.near_best.proofs.demand.steepest_rise.Given as goal

abbrev pub invariant-loop-rung : goal.invariant-loop-rung
invariant-loop-rung l = IfSome l.best (λ r. r.rung < rungs_of l.scene.film)
