use Rattle.std.proofs.Common.{◌≡◌, ◌*◌, subst, arith}
use Rattle.lab_model.specs.Film.{rungs_of}
use Rattle.labels.specs.Grown.{grown}
use Rattle.labels.proofs.Counted.{before_more, before_none}
use Rattle.frontier_planner.specs.Linked.{HoldsBelow}
use Rattle.frontier_planner.proofs.Layers.{frontiers_stop}
use Rattle.frontier_planner.proofs.Linking.{count_none, holds_none}
use Rattle.frontier_planner.proofs.frontiers.grown_frontiers.Goals as goal

pub loop-segment-init : goal.loop-segment-init
loop-segment-init c =
    let d = c.args.brief.now.grid in
    let g = c.args.brief.now.scene in
    let a = c.in_ok-arena.arena in
    let none = before_none g (grown d g) in
    let holds = holds_none d g a c.chain_count.result 0 c.chain_count.ensures.value c.in_ok-arena.ensures in
    let count = count_none d g a holds in
    let most = c.labels-most.ensures.value in
    let start : 0 ≡ 0 * rungs_of g.film = omega arith in
    record { holds = subst (HoldsBelow d g a) start holds; left = omega (arith, none, most); count = omega (arith, count, most) }

pub returns-in_err-left : goal.returns-in_err-left
returns-in_err-left c =
    let g = c.args.brief.now.scene in
    let all = c.segments-segment-end.ensures.value in
    let low = c.loop-segment-test.true in
    frontiers_stop c.args.brief.now.grid g c.args.budget c.loop-segment.left c.loop-segment.segment c.loop-segment.arena c.grow_segment.new.arena c.grow_segment.result c.from_residual-in_err-left.result _ (omega (arith, all, low))
    c.loop-segment.invariant.left c.in_err-left.was c.from_residual-in_err-left.ensures.1 c.grow_segment.ensures

pub loop-segment-preserved : goal.loop-segment-preserved
loop-segment-preserved c =
    let d = c.args.brief.now.grid in
    let g = c.args.brief.now.scene in
    let next = c.in_ok-left.ensures in
    let more = before_more g (grown d g) c.loop-segment.segment in
    let sum = c.loop-segment.invariant.left in
    let count = c.loop-segment.invariant.count in
    let rest = next.1 in
    let nodes = next.2 in
    record { holds = next.0; left = omega (arith, more, sum, rest); count = omega (arith, count, nodes) }
