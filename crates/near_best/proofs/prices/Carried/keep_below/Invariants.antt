use Rattle.std.proofs.Common.{◌≤◌, ◌-◌, length}
use Rattle.near_best.proofs.prices.Carried.keep_below.Given as goal

abbrev pub invariant-loop-over : goal.invariant-loop-over
invariant-loop-over l = l.gone ≤ length l.self.steps.items

abbrev pub decreases-loop-over : goal.decreases-loop-over
decreases-loop-over l = length l.self.steps.items - l.gone
