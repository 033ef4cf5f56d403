use Rattle.std.proofs.Common.{◌≡◌, drop}
use Rattle.price_bounds.specs.Verdict.{bad_window}
use Rattle.price_bounds.proofs.check.bad_window.Given as goal

abbrev pub invariant-loop-number : goal.invariant-loop-number
invariant-loop-number l = bad_window l.segments 0 0 0 l.windows ≡ bad_window l.segments l.first l.last l.number (drop l.number l.windows)
