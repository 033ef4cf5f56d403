use Rattle.std.proofs.Common.{rules}
use Rattle.std.specs.Ordering.{is_lt}
use Rattle.std.proofs.lemmas.List.Sorted.{answers_always}
use Rattle.frontier_planner.specs.Sweep.{sweep_cmp}
use Rattle.frontier_planner.proofs.Thinned.{rung_ranks}
use Rattle.frontier_planner.proofs.thin.put_in_order.Goals as goal

pub returns-clause-sorted : goal.returns-clause-sorted
returns-clause-sorted c = c.sort_unstable_by.ensures.sorted (λ a b. is_lt (sweep_cmp a.label b.label)) rung_ranks (answers_always _ _ _ (λ f a r g h. search rules))
