use Rattle.near_best.specs.Prices.{ArePriced}
use Rattle.near_best.proofs.delay.priced_on.Given as goal

abbrev pub invariant-loop-by : goal.invariant-loop-by
invariant-loop-by l = ArePriced l.scene l.best

abbrev pub decreases-loop-by : goal.decreases-loop-by
decreases-loop-by l = l.by
