use Rattle.std.proofs.Common.{◌≡◌, length}
use Rattle.near_best.proofs.cap.prices_under.Given as goal

abbrev pub invariant-loop-place : goal.invariant-loop-place
invariant-loop-place l = length l.capped.items ≡ l.place
