use Rattle.std.proofs.Common.{◌≡◌, drop}
use Rattle.price_bounds.specs.Verdict.{bad_rung}
use Rattle.price_bounds.proofs.check.bad_rung.Given as goal

abbrev pub invariant-loop-segment : goal.invariant-loop-segment
invariant-loop-segment l = bad_rung l.rungs 0 l.plan ≡ bad_rung l.rungs l.segment (drop l.segment l.plan)
