use Rattle.std.proofs.Common.{◌<◌}
use Rattle.lab_model.specs.Film.{rungs_of}
use Rattle.near_best.specs.Prices.{ArePriced, IsLook}
use Rattle.near_best.proofs.play.play.Given as goal

abbrev pub invariant-loop-look : goal.invariant-loop-look
invariant-loop-look l = record {
  means : ArePriced l.scene l.means;
  best : IsLook l.scene l.best;
  rung : l.rung < rungs_of l.scene.film;
}
