use Rattle.std.proofs.Common.{◌-◌, ◌<◌, ◌≤◌, get_or, length}
use Rattle.network_clock.proofs.meter.place_between.Given as goal

abbrev pub invariant-loop-high : goal.invariant-loop-high
invariant-loop-high l = record {
  order : l.low < l.high;
  place : l.high < length l.sums;
  above : get_or l.sums l.low 0 < l.target;
  below : l.target ≤ get_or l.sums l.high 0;
}

abbrev pub decreases-loop-high : goal.decreases-loop-high
decreases-loop-high l = l.high - l.low
