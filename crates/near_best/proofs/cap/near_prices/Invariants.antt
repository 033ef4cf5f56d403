use Rattle.near_best.specs.Prices.{ArePriced}
use Rattle.near_best.proofs.cap.near_prices.Given as goal

abbrev pub invariant-loop-rung : goal.invariant-loop-rung
invariant-loop-rung l = ArePriced l.scene l.best
