use Rattle.std.proofs.Common.{◌-◌, ap, get_or, map, sym, subst, arith, ◌+◌}
use Rattle.std.specs.List.{All, Contains}
use Rattle.std.proofs.lemmas.List.Elements.{Contains-get_or}
use Rattle.std.proofs.lemmas.Result.{IfOk-weaker}
use Rattle.frontier_planner.specs.Brief.{AreFollowed}
use Rattle.frontier_planner.specs.Linked.{pair_of}
use Rattle.labels.specs.Near.{CanFollow}
use Rattle.frontier_planner.specs.Thinned.{AreLeaders}
use Rattle.labels.proofs.Follows.{in_reach, label_follows}
use Rattle.labels.proofs.Walks.{in_map}
use Rattle.frontier_planner.proofs.Thinned.{sorted_enough, sorted_follow}
use Rattle.frontier_planner.proofs.thin.labels_to_follow.Goals as goal

pub waiting_labels-requires-clause-before : goal.waiting_labels-requires-clause-before
waiting_labels-requires-clause-before c = λ k e inside.
    let x = get_or c.args.before.now k e in
    let low = c.requires.segment.1 in
    let d = c.args.brief.now.grid in
    let g = c.args.brief.now.scene in
    let there = subst (λ cs. Contains cs (pair_of x)) c.requires.before (in_map pair_of c.args.before.now x (Contains-get_or c.args.before.now k e inside)) in
    ((in_reach d g c.segments.ensures.can (c.args.segment - 1) (pair_of x) (omega (arith, low)) there).0, label_follows d g c.segments.ensures.can (c.args.segment - 1) (pair_of x) (omega (arith, low)) there)

pub leaders-requires-clause-follow : goal.leaders-requires-clause-follow
leaders-requires-clause-follow c =
    subst (λ ls. All (λ x. CanFollow x.label) ls) (sym c.deref.ensures.value)
    (sorted_follow c.args.brief.now.grid c.args.brief.now.scene c.segments.ensures.can c.args.segment (map pair_of c.args.before.now) _ _ c.requires.segment.0 c.requires.segment.1 c.requires.before c.in_ok-waits.ensures c.put_in_order.ensures.same)

pub returns : goal.returns
returns c =
    let d = c.args.brief.now.grid in
    let g = c.args.brief.now.scene in
    let slack = ap (λ n. c.dearest_change.result + n) c.value_step.ensures.value in
    IfOk-weaker c.leaders.result (λ v. AreLeaders (c.dearest_change.result + c.value_step.result) c.deref.result.now v.items) (λ v. AreFollowed c.args.brief.now c.args.segment v.items)
    (λ v lead. sorted_enough d g c.segments.ensures.can c.args.segment (map pair_of c.args.before.now) _ _ v.items c.dearest_change.result c.requires.segment.0 c.requires.segment.1 c.requires.before c.in_ok-waits.ensures c.put_in_order.ensures.same c.dearest_change.ensures.most
    (subst (λ n. AreLeaders n c.put_in_order.new.labels.items v.items) slack (subst (λ ls. AreLeaders (c.dearest_change.result + c.value_step.result) ls v.items) c.deref.ensures.value lead))) c.leaders.ensures
