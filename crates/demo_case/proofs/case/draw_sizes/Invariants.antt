use Rattle.std.proofs.Common.{◌≡◌}
use Rattle.demo_case.specs.Case.{sizes_from}
use Rattle.demo_case.specs.Draws.{state_after}
use Rattle.demo_case.proofs.case.draw_sizes.Given as goal

abbrev pub invariant-loop : goal.invariant-loop
invariant-loop l = record {
  sizes : l.sizes.items ≡ sizes_from l.fn.draws l.counter;
  state : l.draws ≡ state_after l.fn.draws l.counter;
}
