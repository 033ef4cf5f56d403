use Rattle.std.proofs.Common.{◌+◌, ◌<◌, ℕ}
use Rattle.std.specs.Prelude.{◌≤ℤ◌}
use Rattle.mpc_rule.specs.Relaxations.{IsPromise, promise_of}
use Rattle.mpc_rule.proofs.forecast.Forecast.greatest_promise.Given as goal

abbrev pub invariant-loop-rung : goal.invariant-loop-rung
invariant-loop-rung l = record {
  most : (rung : ℕ) → rung < l.rung → promise_of l.self l.price (l.self.context.next + l.count) rung ≤ℤ l.most;
  limits : IsPromise l.most;
}
