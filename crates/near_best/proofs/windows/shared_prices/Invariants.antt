use Rattle.std.proofs.Common.{◌≡◌, length}
use Rattle.near_best.proofs.windows.shared_prices.Given as goal

abbrev pub invariant-loop-segment : goal.invariant-loop-segment
invariant-loop-segment l = length l.shared.items ≡ l.segment
