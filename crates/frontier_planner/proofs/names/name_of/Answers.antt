use Rattle.std.proofs.Common.{rules, ◌≡◌, ◌+◌, ◌∙◌, ap, of_z, subst, sym, to_z}
use Rattle.std.specs.Int.{w64}
use Rattle.std.specs.List.{All}
use Rattle.frontier_planner.specs.Blocks.{IsLevel}
use Rattle.frontier_planner.specs.Climbing.{Reaches}
use Rattle.labels.specs.Labels.{next_label, next_value}
use Rattle.labels.specs.Read.{place_above}
use Rattle.frontier_planner.proofs.Climbing.{reached_above}
use Rattle.frontier_planner.proofs.names.name_of.Goals as goal

pub returns-then-finder : goal.returns-then-finder
returns-then-finder c =
    let next = next_label c.args.brief.now.scene (c.args.segment + 1) c.args.reached.0 c.args.reached.1 c.args.rung in
    let value : to_z w64 (of_z w64 c.next_value-value.result) ≡ c.next_value-value.result = search rules in
    let b = c.label_before-here.result in
    let w = c.args.brief.now.scene.setup.weights in
    let same = ap (λ t. next_value t.setup.weights (b.segment + 1) b.rung b.label.v c.args.rung) c.label_before-here.ensures.scene ∙ ap (λ n. next_value w n b.rung b.label.v c.args.rung) c.label_before-here.ensures.next
    ∙ ap (λ q. next_value w (c.args.segment + 1) q b.label.v c.args.rung) c.label_before-here.ensures.rung ∙ ap (λ l. next_value w (c.args.segment + 1) c.args.reached.0 l.v c.args.rung) c.label_before-here.ensures.label in
    reached_above c.args.chain.now (c.requires.finder.climbs c.if-finder.true) next c.place_of_value.result c.requires.above
    (subst (Reaches c.args.chain.now c.place_of_value.result) (value ∙ c.next_value-value.ensures ∙ same) c.place_of_value.ensures)

pub returns : goal.returns
returns c =
    let g = c.args.brief.now.scene in
    let b = c.label_before-here.result in
    let same = ap (λ t. next_label t (b.segment + 1) b.rung b.label c.args.rung) c.label_before-here.ensures.scene ∙ ap (λ n. next_label g n b.rung b.label c.args.rung) c.label_before-here.ensures.next
    ∙ ap (λ q. next_label g (c.args.segment + 1) q b.label c.args.rung) c.label_before-here.ensures.rung ∙ ap (λ l. next_label g (c.args.segment + 1) c.args.reached.0 l c.args.rung) c.label_before-here.ensures.label in
    c.first_above.ensures ∙ ap (place_above c.args.chain.now) (c.next.ensures.label ∙ same)

pub first_above-requires-clause-levels : goal.first_above-requires-clause-levels
first_above-requires-clause-levels c = subst (All (IsLevel c.args.chain.now)) (sym c.deref.ensures.value) c.requires.finder.levels
