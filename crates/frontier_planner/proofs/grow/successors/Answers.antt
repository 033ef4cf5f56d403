use Rattle.std.proofs.Common.{◌∙◌, ◌+◌, ◌-◌, ap, get_or, subst, sym}
use Rattle.std.proofs.lemmas.List.Elements.{Contains-get_or}
use Rattle.lab_model.specs.Number.{IsNear}
use Rattle.lab_model.specs.declared.label.Label.{Label}
use Rattle.labels.specs.Grown.{grown_labels}
use Rattle.labels.specs.Labels.{next_label}
use Rattle.labels.specs.Read.{no_label}
use Rattle.labels.proofs.Follows.{next_rounds}
use Rattle.frontier_planner.specs.Thinned.{no_followed}
use Rattle.frontier_planner.proofs.grow.successors.Goals as goal

pub label_before-here-requires-clause-label : goal.label_before-here-requires-clause-label
label_before-here-requires-clause-label c =
    let old = get_or c.args.followed.now c.loop-old.old-index no_followed in
    (c.requires.followed.follow old (Contains-get_or c.args.followed.now c.loop-old.old-index no_followed c.loop-old-test.true)).1

pub label_before-here-requires-clause-rung : goal.label_before-here-requires-clause-rung
label_before-here-requires-clause-rung c =
    let old = get_or c.args.followed.now c.loop-old.old-index no_followed in
    (c.requires.followed.follow old (Contains-get_or c.args.followed.now c.loop-old.old-index no_followed c.loop-old-test.true)).0

pub round-requires : goal.round-requires
round-requires c =
    let d = c.args.brief.now.grid in
    let g = c.args.brief.now.scene in
    let old = get_or c.args.followed.now c.loop-old.old-index no_followed in
    let there = Contains-get_or c.args.followed.now c.loop-old.old-index no_followed c.loop-old-test.true in
    let from = get_or (grown_labels d g (c.args.segment - 1)) old.place (0, no_label) in
    let b = c.label_before-here.result in
    let made = c.next_done-next.ensures.label ∙ ap (λ t. next_label t (b.segment + 1) b.rung b.label c.args.rung) c.label_before-here.ensures.scene ∙ ap (λ n. next_label g n b.rung b.label c.args.rung) c.label_before-here.ensures.next
    ∙ ap (λ q. next_label g c.args.segment q b.label c.args.rung) c.label_before-here.ensures.rung ∙ ap (λ l. next_label g c.args.segment old.rung l c.args.rung) c.label_before-here.ensures.label in
    subst (λ (l : Label). IsNear 900000000000000000 l.v) (sym (made ∙ c.requires.followed.within old there c.args.rung))
    (next_rounds d g c.segments.ensures.can c.args.segment c.args.rung from c.requires.segment.0 c.requires.segment.1 c.requires.rung
    (Contains-get_or (grown_labels d g (c.args.segment - 1)) old.place (0, no_label) (c.requires.followed.inside old there)))
