use Rattle.std.proofs.Common.{◌≡◌, length}
use Rattle.near_best.proofs.stalls.stall_losses.Given as goal

abbrev pub invariant-loop-place : goal.invariant-loop-place
invariant-loop-place l = length l.losses.items ≡ l.place
