use Rattle.std.proofs.Common.{◌-◌}
use Rattle.near_best.proofs.prospect.grid_delays.Given as goal

abbrev pub decreases-loop-behind : goal.decreases-loop-behind
decreases-loop-behind l = 1000000000000 - l.behind
