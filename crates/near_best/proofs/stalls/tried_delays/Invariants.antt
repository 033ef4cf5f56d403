use Rattle.std.proofs.Common.{◌≤◌, ◌-◌, length}
use Rattle.near_best.proofs.stalls.tried_delays.Given as goal

abbrev pub invariant-loop-delay : goal.invariant-loop-delay
invariant-loop-delay l = 1 ≤ length l.delays.items

abbrev pub decreases-loop-delay : goal.decreases-loop-delay
decreases-loop-delay l = 1000000000000 - l.delay
