use Rattle.std.proofs.Common.{◌∙◌, ◌+◌, ◌<◌, ap, sym, subst, arith, add-one}
use Rattle.std.specs.Prelude.{slice_index}
use Rattle.lab_model.specs.Film.{segments_of}
use Rattle.labels.specs.Labels.{label_at, next_label}
use Rattle.labels.specs.Near.{CanFollow}
use Rattle.labels.proofs.Path.{label_first, label_next}
use Rattle.labels.proofs.Reached.{list_follows}
use Rattle.labels.proofs.rung_label.value_of_list.Goals as goal

pub loop-segment-init : goal.loop-segment-init
loop-segment-init c = c.start_on-label.ensures.label ∙ sym (label_first c.args.scene.now c.args.rungs.now)

pub new-here-requires-clause-label : goal.new-here-requires-clause-label
new-here-requires-clause-label c =
    let g = c.args.scene.now in
    let count = c.segments-last.ensures.value ∙ ap segments_of c.film.ensures.value in
    let inside = c.loop-segment-test.true in
    subst CanFollow (sym c.loop-segment.invariant) (list_follows g c.film.ensures.task c.args.rungs.now c.requires c.loop-segment.segment (omega (arith, count, inside)))

pub loop-segment-preserved : goal.loop-segment-preserved
loop-segment-preserved c =
    let g = c.args.scene.now in
    let rungs = c.args.rungs.now in
    let i = c.loop-segment.segment in
    c.next-label.ensures.label ∙ ap (λ h. next_label h.scene (h.segment + 1) h.rung h.label (slice_index rungs (i + 1))) c.new-here.ensures.value
    ∙ ap (λ l. next_label g (i + 1) (slice_index rungs i) l (slice_index rungs (i + 1))) c.loop-segment.invariant
    ∙ ap (λ n. next_label g n (slice_index rungs i) (label_at g rungs i) (slice_index rungs n)) (add-one i)
    ∙ sym (label_next g rungs i) ∙ ap (label_at g rungs) (sym (add-one i))

pub end_value-requires : goal.end_value-requires
end_value-requires c =
    let g = c.args.scene.now in
    let count = c.segments-last.ensures.value ∙ ap segments_of c.film.ensures.value in
    let some = c.film.ensures.task.film.segments.0 in
    let done = c.loop-segment.auto in
    let same = ap (λ l. l.p) c.loop-segment.invariant in
    let inside : c.loop-segment.segment < segments_of g.film = omega (arith, count, some, done) in
    let delay = (list_follows g c.film.ensures.task c.args.rungs.now c.requires c.loop-segment.segment inside).delay in
    omega (arith, delay, same)
