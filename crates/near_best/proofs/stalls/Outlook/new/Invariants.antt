use Rattle.std.proofs.Common.{◌≡◌, length}
use Rattle.near_best.proofs.stalls.Outlook.new.Given as goal

abbrev pub invariant-loop-done : goal.invariant-loop-done
invariant-loop-done l = length l.table.items ≡ length l.delays.items
