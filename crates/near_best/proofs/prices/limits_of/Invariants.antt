use Rattle.std.proofs.Common.{◌≡◌, ◌+◌, length}
use Rattle.near_best.proofs.prices.limits_of.Given as goal

abbrev pub invariant-loop-segment : goal.invariant-loop-segment
invariant-loop-segment l = length l.limits.items + 1 ≡ l.segment
