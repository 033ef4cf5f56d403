use Rattle.std.proofs.Common.{rules}
use Rattle.std.specs.Ordering.{is_lt}
use Rattle.std.proofs.lemmas.List.Sorted.{IsPermutation-trans, answers_always}
use Rattle.frontier_planner.specs.Parents.{candidate_cmp}
use Rattle.frontier_planner.proofs.FirstParents.{candidate_ranks}
use Rattle.frontier_planner.proofs.grow.put_in_order.Goals as goal

pub returns-then-not-are_in_order-clause-sorted : goal.returns-then-not-are_in_order-clause-sorted
returns-then-not-are_in_order-clause-sorted c = c.sort_unstable_by.ensures.sorted (λ a b. is_lt (candidate_cmp a b)) candidate_ranks (answers_always _ _ _ (λ f a r g h. search rules))

pub returns-then-not-are_in_order-clause-same : goal.returns-then-not-are_in_order-clause-same
returns-then-not-are_in_order-clause-same c = IsPermutation-trans _ _ _ c.sort_runs.ensures c.sort_unstable_by.ensures.permutation
