use Rattle.std.proofs.Common.{rules, ◌≡◌, ◌∙◌, ◌-◌, ap, refl, sym, subst, arith, of_z, to_z}
use Rattle.std.specs.Int.{w128}
use Rattle.lab_model.specs.Film.{segments_of}
use Rattle.labels.specs.Grown.{grown}
use Rattle.labels.specs.Labels.{AreRungs, end_value}
use Rattle.labels.specs.Read.{end_of_plan, list_value}
use Rattle.frontier_planner.proofs.Planned.{end_there, list_read}
use Rattle.labels.proofs.ReadBack.{list_fits}
use Rattle.labels.proofs.Follows.{label_follows}
use Rattle.frontier_planner.proofs.planner.outline_of.Goals as goal

pub value_of_list-score-requires : goal.value_of_list-score-requires
value_of_list-score-requires c =
    let d = c.args.brief.now.grid in
    let g = c.args.brief.now.scene in
    let case = c.segments.ensures.can in
    subst (λ t. AreRungs t (segments_of t.film) c.deref.result.now) (sym c.scene.ensures.value)
    (subst (AreRungs g (segments_of g.film)) (sym (c.deref.ensures.value ∙ c.in_ok-end.ensures.rungs)) (list_fits d g case.grid case.task))

pub end_value-requires : goal.end_value-requires
end_value-requires c =
    let d = c.args.brief.now.grid in
    let g = c.args.brief.now.scene in
    let case = c.segments.ensures.can in
    let some = case.task.film.segments.0 in
    let last = segments_of g.film - 1 in
    let there = end_there d g case c.args.budget last (end_of_plan g (grown d g)) refl refl in
    let delay = (label_follows d g case last (end_of_plan g (grown d g)) (omega (arith, some)) there).delay in
    let same = ap (λ l. l.p) c.in_ok-end.ensures.end in
    omega (arith, delay, same)

pub returns : goal.returns
returns c =
    let d = c.args.brief.now.grid in
    let g = c.args.brief.now.scene in
    let case = c.segments.ensures.can in
    let held = c.in_ok-arena.ensures in
    let score : to_z w128 (of_z w128 c.value_of_list-score.result) ≡ c.value_of_list-score.result = search rules in
    let bound : to_z w128 (of_z w128 c.end_value.result) ≡ c.end_value.result = search rules in (
      list_read d g case c.args.budget _ c.in_ok-end.ensures.rungs (score ∙ c.value_of_list-score.ensures.value ∙ ap (λ t. list_value t c.deref.result.now) c.scene.ensures.value ∙ ap (list_value g) c.deref.ensures.value) held.1 held.2
          (bound ∙ c.end_value.ensures ∙ ap (end_value g) c.in_ok-end.ensures.end),
      held.0,
    )
