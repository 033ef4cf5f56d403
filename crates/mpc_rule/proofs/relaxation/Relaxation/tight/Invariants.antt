use Rattle.std.proofs.Common.{◌-◌, ◌≤◌}
use Rattle.mpc_rule.specs.Lookahead.{weights_of}
use Rattle.mpc_rule.proofs.relaxation.Relaxation.tight.Given as goal

abbrev pub decreases-loop-low : goal.decreases-loop-low
decreases-loop-low l = l.high - l.low

abbrev pub invariant-loop-low : goal.invariant-loop-low
invariant-loop-low l = record {
  order : l.low ≤ l.high;
  high : l.high ≤ (weights_of l.forecast).stall;
}
