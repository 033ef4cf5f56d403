use Rattle.std.proofs.Common.{rules, ◌≡◌, ℤ, sym, subst, of_z, to_z}
use Rattle.std.specs.Int.{w128}
use Rattle.labels.specs.Grown.{grown}
use Rattle.frontier_planner.specs.declared.plans.BoundedList.{BoundedList}
use Rattle.frontier_planner.specs.Layers.{HoldPlan}
use Rattle.frontier_planner.specs.Planned.{IsListOf}
use Rattle.frontier_planner.proofs.Planned.{coarse_is, parts_are, plan_held}
use Rattle.frontier_planner.proofs.planner.plan_of.Goals as goal

pub starts-requires : goal.starts-requires
starts-requires c =
    let d = c.args.brief.now.grid in
    let g = c.args.brief.now.scene in
    let layers = c.in_ok-layers.ensures in
    subst (HoldPlan d g) (sym c.deref.ensures.value)
    (plan_held d g c.segments.ensures.can c.args.budget c.in_ok-layers.layers.items c.in_ok-list.field-0.list c.labels.ensures.limits.1 c.in_ok-list.ensures.0 layers.holds layers.count)

pub chains-requires : goal.chains-requires
chains-requires c =
    let d = c.args.brief.now.grid in
    let g = c.args.brief.now.scene in
    let layers = c.in_ok-layers.ensures in
    subst (HoldPlan d g) (sym c.deref-2.ensures.value)
    (plan_held d g c.segments.ensures.can c.args.budget c.in_ok-layers.layers.items c.in_ok-list.field-0.list c.labels.ensures.limits.1 c.in_ok-list.ensures.0 layers.holds layers.count)

pub returns : goal.returns
returns c =
    let d = c.args.brief.now.grid in
    let g = c.args.brief.now.scene in
    let case = c.segments.ensures.can in
    let l = c.in_ok-list.field-0.list in
    let own : IsListOf d g (grown d g) c.args.budget l = c.in_ok-list.ensures.0 in
    let score : to_z w128 (of_z w128 l.score) ≡ l.score = search rules in
    let bound : to_z w128 (of_z w128 l.bound) ≡ l.bound = search rules in
    let scored : IsListOf d g (grown d g) c.args.budget (record { rungs = l.rungs; score = to_z w128 (of_z w128 l.score); bound = l.bound; labels = l.labels }) =
    subst (λ (v : ℤ). let b : BoundedList = record { rungs = l.rungs; score = v; bound = l.bound; labels = l.labels } in IsListOf d g (grown d g) c.args.budget b) (sym score) own in
    let list : IsListOf d g (grown d g) c.args.budget (record { rungs = l.rungs; score = to_z w128 (of_z w128 l.score); bound = to_z w128 (of_z w128 l.bound); labels = l.labels }) =
    subst (λ (v : ℤ). let b : BoundedList = record { rungs = l.rungs; score = to_z w128 (of_z w128 l.score); bound = v; labels = l.labels } in IsListOf d g (grown d g) c.args.budget b) (sym bound) scored in
    coarse_is d g case c.args.budget c.labels.ensures.limits.1 _ _ list
    (parts_are d g case c.args.budget _ l.rungs.items c.in_ok-starts.field-0.items (to_z w128 (of_z w128 l.score)) _ c.has_table.ensures list.rungs list.score c.in_ok-starts.ensures c.in_ok-chains.ensures)
