use Rattle.std.proofs.Common.{◌∙◌, sym, ap, ◌<◌, ap₂, get_or, subst, arith}
use Rattle.labels.specs.Labels.{dominates}
use Rattle.certificate_check.specs.Scheme.{tested}
use Rattle.certificate_check.specs.Clauses.{count_of, label_of, chains_by_rung}
use Rattle.certificate_check.proofs.Layers.{layer_read}
use Rattle.certificate_check.proofs.InRange.{start_in_range}
use Rattle.certificate_check.proofs.Scheme.{first_fails, first_more, first_none}
use Rattle.certificate_check.proofs.checker.starts_held.Goals as goal

pub loop-rung-init : goal.loop-rung-init
loop-rung-init c = first_none _

pub label_of-named-requires : goal.label_of-named-requires
label_of-named-requires c =
    let few = c.requires.chains in
    let q = c.loop-rung.rung in
    let chain = layer_read c.args.first.now q c.index-first-rung.result (omega arith) c.index-first-rung.is in
    subst (λ x. get_or c.args.starts.now q 0 < count_of x) (sym chain) (start_in_range _ c.args.starts.now (chains_by_rung c.args.first.now) c.requires.inside q c.loop-rung-test.true)

pub loop-rung-preserved : goal.loop-rung-preserved
loop-rung-preserved c =
    let few = c.requires.chains in
    let q = c.loop-rung.rung in
    let s = get_or c.args.starts.now q 0 in
    let chain = layer_read c.args.first.now q c.index-first-rung.result (omega arith) c.index-first-rung.is in
    first_more _ _ c.loop-rung.invariant (c.in_ok-test.ensures ∙ ap (tested 3 0 q s) (c.dominates.ensures ∙ ap₂ dominates (c.label_of-named.ensures ∙ ap (λ x. label_of x s) chain) c.start_on-own.ensures.label))

pub returns-in_err-test : goal.returns-in_err-test
returns-in_err-test c =
    let few = c.requires.chains in
    let q = c.loop-rung.rung in
    let s = get_or c.args.starts.now q 0 in
    let chain = layer_read c.args.first.now q c.index-first-rung.result (omega arith) c.index-first-rung.is in
    first_fails _ _ _ c.from_residual.result c.in_err-test.field-0.0 c.loop-rung-test.true c.loop-rung.invariant (c.in_err-test.ensures ∙ ap (tested 3 0 q s) (c.dominates.ensures ∙ ap₂ dominates (c.label_of-named.ensures ∙ ap (λ x. label_of x s) chain) c.start_on-own.ensures.label)) c.from_residual.ensures.1
