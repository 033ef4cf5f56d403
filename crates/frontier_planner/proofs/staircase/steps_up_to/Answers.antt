use Rattle.std.proofs.Common.{rules, leb}
use Rattle.std.proofs.lemmas.List.Sorted.{IsPartitionPoint-from_clause, IsPartitionedBy-leb}
use Rattle.std.proofs.lemmas.Bool.{leb-true, leb-false}
use Rattle.frontier_planner.proofs.Steps.{delays_rise}
use Rattle.frontier_planner.proofs.staircase.steps_up_to.Goals as goal

pub returns-clause-below : goal.returns-clause-below
returns-clause-below c =
    let point = IsPartitionPoint-from_clause (λ s. leb s.p c.args.l.p) c.args.steps.now _ c.partition_point.ensures.partitioned (IsPartitionedBy-leb (λ s. s.p) c.args.steps.now c.args.l.p (delays_rise c.args.steps.now c.requires)) (λ a r f k. search rules) in
    λ k d low high. leb-true _ _ (point.0 k d low high)

pub returns-clause-above : goal.returns-clause-above
returns-clause-above c =
    let point = IsPartitionPoint-from_clause (λ s. leb s.p c.args.l.p) c.args.steps.now _ c.partition_point.ensures.partitioned (IsPartitionedBy-leb (λ s. s.p) c.args.steps.now c.args.l.p (delays_rise c.args.steps.now c.requires)) (λ a r f k. search rules) in
    λ k d low high. leb-false _ _ (point.1 k d low high)
