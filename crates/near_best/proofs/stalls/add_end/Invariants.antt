use Rattle.std.proofs.Common.{◌≡◌, length}
use Rattle.near_best.proofs.stalls.add_end.Given as goal

abbrev pub invariant-loop-done : goal.invariant-loop-done
invariant-loop-done l = length l.table ≡ length l.delays
