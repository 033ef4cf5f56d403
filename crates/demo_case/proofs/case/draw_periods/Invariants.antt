use Rattle.std.proofs.Common.{◌≡◌, ◌*◌}
use Rattle.demo_case.specs.Case.{periods_from}
use Rattle.demo_case.specs.Draws.{state_after}
use Rattle.demo_case.proofs.case.draw_periods.Given as goal

abbrev pub invariant-loop : goal.invariant-loop
invariant-loop l = record {
  periods : l.periods.items ≡ periods_from l.fn.draws l.counter;
  state : l.draws ≡ state_after l.fn.draws (2 * l.counter);
}
