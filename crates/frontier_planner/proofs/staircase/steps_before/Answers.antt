use Rattle.std.proofs.Common.{rules, ltb}
use Rattle.std.proofs.lemmas.List.Sorted.{IsPartitionPoint-from_clause, IsPartitionedBy-ltb}
use Rattle.std.proofs.lemmas.Bool.{ltb-true, ltb-false}
use Rattle.frontier_planner.proofs.Steps.{delays_rise}
use Rattle.frontier_planner.proofs.staircase.steps_before.Goals as goal

pub returns-clause-below : goal.returns-clause-below
returns-clause-below c =
    let point = IsPartitionPoint-from_clause (λ s. ltb s.p c.args.l.p) c.args.steps.now _ c.partition_point.ensures.partitioned (IsPartitionedBy-ltb (λ s. s.p) c.args.steps.now c.args.l.p (delays_rise c.args.steps.now c.requires)) (λ a r f k. search rules) in
    λ k d low high. ltb-true _ _ (point.0 k d low high)

pub returns-clause-above : goal.returns-clause-above
returns-clause-above c =
    let point = IsPartitionPoint-from_clause (λ s. ltb s.p c.args.l.p) c.args.steps.now _ c.partition_point.ensures.partitioned (IsPartitionedBy-ltb (λ s. s.p) c.args.steps.now c.args.l.p (delays_rise c.args.steps.now c.requires)) (λ a r f k. search rules) in
    λ k d low high. ltb-false _ _ (point.1 k d low high)
