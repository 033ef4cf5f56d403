use Rattle.near_best.specs.Prices.{ArePriced}
use Rattle.near_best.proofs.play.take_turns.Given as goal

abbrev pub invariant-loop-turn : goal.invariant-loop-turn
invariant-loop-turn l = ArePriced l.scene l.priced
