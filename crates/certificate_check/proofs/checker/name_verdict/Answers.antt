use Rattle.std.proofs.Common.{◌∙◌, sym, ap, ap₂, ◌+◌, ◌<◌, length, subst}
use Rattle.labels.specs.Near.{CanFollow}
use Rattle.labels.specs.Parts.{chain_parts}
use Rattle.labels.specs.Labels.{dominates, next_label}
use Rattle.labels.specs.OnRung.{OnRung}
use Rattle.certificate_check.specs.Scheme.{tested}
use Rattle.certificate_check.specs.Clauses.{count_of, label_of, chains_by_rung, name_of}
use Rattle.certificate_check.proofs.Layers.{layer_read}
use Rattle.certificate_check.proofs.InRange.{follows, name_in_range}
use Rattle.certificate_check.proofs.Scheme.{first_fails, first_more, first_none}
use Rattle.certificate_check.proofs.checker.name_verdict.Goals as goal

pub new-label-requires-clause-label : goal.new-label-requires-clause-label
new-label-requires-clause-label c =
    subst CanFollow (sym c.label_of.ensures)
    (follows (length c.args.next.now) c.args.segment c.args.rung (chain_parts c.args.chain.now) (chains_by_rung c.args.next.now) c.args.place c.requires.can.form c.requires.place c.requires.range)

pub loop-next_rung-init : goal.loop-next_rung-init
loop-next_rung-init c = first_none _

pub label_of-named-requires : goal.label_of-named-requires
label_of-named-requires c =
    let r = c.loop-next_rung.next_rung in
    let chain = layer_read c.args.next.now r c.index-next-next_rung.result c.loop-next_rung-test.true c.index-next-next_rung.is in
    let named = name_in_range (length c.args.next.now) c.args.segment c.args.rung (chain_parts c.args.chain.now) (chains_by_rung c.args.next.now) c.args.place c.requires.range r c.loop-next_rung-test.true in
    subst (λ n. n < count_of (chain_parts c.index-next-next_rung.result)) (sym c.name_of-name.ensures)
    (subst (λ x. name_of (length c.args.next.now) (chain_parts c.args.chain.now) c.args.place r < count_of x) (sym chain) named)

pub loop-next_rung-preserved : goal.loop-next_rung-preserved
loop-next_rung-preserved c =
    let r = c.loop-next_rung.next_rung in
    let chain = layer_read c.args.next.now r c.index-next-next_rung.result c.loop-next_rung-test.true c.index-next-next_rung.is in
    first_more _ _ c.loop-next_rung.invariant (c.in_ok-test.ensures ∙ ap (tested 4 c.args.segment c.args.rung c.args.place) (c.dominates.ensures ∙ ap₂ dominates (c.label_of-named.ensures ∙ ap₂ label_of chain c.name_of-name.ensures) (c.next_done-successor.ensures.label ∙ ap (λ (x : OnRung). next_label x.scene (x.segment + 1) x.rung x.label r) c.new-label.ensures.value ∙ ap (λ l. next_label c.args.scene.now (c.args.segment + 1) c.args.rung l r) c.label_of.ensures)))

pub returns-in_err-test : goal.returns-in_err-test
returns-in_err-test c =
    let r = c.loop-next_rung.next_rung in
    let chain = layer_read c.args.next.now r c.index-next-next_rung.result c.loop-next_rung-test.true c.index-next-next_rung.is in
    first_fails _ _ _ c.from_residual.result c.in_err-test.field-0.0 c.loop-next_rung-test.true c.loop-next_rung.invariant (c.in_err-test.ensures ∙ ap (tested 4 c.args.segment c.args.rung c.args.place) (c.dominates.ensures ∙ ap₂ dominates (c.label_of-named.ensures ∙ ap₂ label_of chain c.name_of-name.ensures) (c.next_done-successor.ensures.label ∙ ap (λ (x : OnRung). next_label x.scene (x.segment + 1) x.rung x.label r) c.new-label.ensures.value ∙ ap (λ l. next_label c.args.scene.now (c.args.segment + 1) c.args.rung l r) c.label_of.ensures))) c.from_residual.ensures.1
