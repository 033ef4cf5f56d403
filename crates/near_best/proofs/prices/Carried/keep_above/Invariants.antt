use Rattle.std.proofs.Common.{◌≤◌, length}
use Rattle.near_best.proofs.prices.Carried.keep_above.Given as goal

abbrev pub invariant-loop-under : goal.invariant-loop-under
invariant-loop-under l = l.left ≤ length l.self.steps.items

abbrev pub decreases-loop-under : goal.decreases-loop-under
decreases-loop-under l = l.left
