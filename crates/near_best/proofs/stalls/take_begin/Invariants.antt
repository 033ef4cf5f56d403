use Rattle.std.proofs.Common.{◌≡◌, length}
use Rattle.near_best.proofs.stalls.take_begin.Given as goal

abbrev pub invariant-loop-place : goal.invariant-loop-place
invariant-loop-place l = length l.table ≡ length l.delays
