use Rattle.std.proofs.Common.{◌≡◌, ◌+◌, ◌-◌, ◌<◌, ◌≤◌, get_or, length}
use Rattle.network_clock.proofs.meter.place_from.Given as goal

abbrev pub invariant-loop-step : goal.invariant-loop-step
invariant-loop-step l = record {
  all : l.last + 1 ≡ length l.sums;
  low : l.low < l.last;
  some : 1 ≤ l.step;
  small : l.step ≤ l.low + 1;
  above : get_or l.sums l.low 0 < l.target;
}

abbrev pub decreases-loop-step : goal.decreases-loop-step
decreases-loop-step l = l.last - l.low
