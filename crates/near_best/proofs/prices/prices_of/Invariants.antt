use Rattle.std.proofs.Common.{◌≡◌, ◌+◌, length}
use Rattle.near_best.proofs.prices.prices_of.Given as goal

abbrev pub invariant-loop-back : goal.invariant-loop-back
invariant-loop-back l = length l.prices.items ≡ length l.limits.items + 1
