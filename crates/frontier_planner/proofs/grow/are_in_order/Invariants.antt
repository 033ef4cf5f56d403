use Rattle.std.specs.Ordering.{is_lt}
use Rattle.std.specs.List.Sorted.{IsSortedWithin}
use Rattle.frontier_planner.specs.Parents.{candidate_cmp}
use Rattle.frontier_planner.proofs.grow.are_in_order.Given as goal

abbrev pub invariant-loop-place : goal.invariant-loop-place
invariant-loop-place l = IsSortedWithin (λ a b. is_lt (candidate_cmp a b)) l.candidates 0 l.place
