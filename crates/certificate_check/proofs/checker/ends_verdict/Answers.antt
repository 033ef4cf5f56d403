use Rattle.std.proofs.Common.{◌∙◌, sym, ap, ◌≡◌, subst, length, [], to_z, of_z}
use Rattle.std.specs.Int.{w128}
use Rattle.certificate_check.specs.declared.verdict.Verdict.TheVariants.{Yes}
use Rattle.certificate_check.specs.Scheme.{first_no}
use Rattle.certificate_check.specs.Clauses.{count_of, end_verdict, chains_by_rung, range_verdict, ends_verdict}
use Rattle.std.proofs.lemmas.Int.{to_z-of_z}
use Rattle.certificate_check.proofs.Layers.{few_read, layer_read}
use Rattle.certificate_check.proofs.Scheme.{first_fails, first_more, first_none, yes_at}
use Rattle.certificate_check.proofs.checker.ends_verdict.Goals as goal

pub loop-rung-init : goal.loop-rung-init
loop-rung-init c = first_none _

pub ends_of_chain-requires-clause-count : goal.ends_of_chain-requires-clause-count
ends_of_chain-requires-clause-count c =
    few_read _ c.args.last.now c.loop-rung.rung c.index-last-rung.result c.requires.form c.loop-rung-test.true c.index-last-rung.is

pub ends_of_chain-requires-clause-ranges : goal.ends_of_chain-requires-clause-ranges
ends_of_chain-requires-clause-ranges c =
    let q = c.loop-rung.rung in
    let chain = layer_read c.args.last.now q c.index-last-rung.result c.loop-rung-test.true c.index-last-rung.is in
    subst (λ x. first_no (range_verdict 0 c.args.segment q x (chains_by_rung [])) (count_of x) ≡ Yes) (sym chain)
    (yes_at (λ s. first_no (range_verdict 0 c.args.segment s (chains_by_rung c.args.last.now s) (chains_by_rung [])) (count_of (chains_by_rung c.args.last.now s))) (length c.args.last.now) q c.requires.ranges c.loop-rung-test.true)

pub loop-rung-preserved : goal.loop-rung-preserved
loop-rung-preserved c =
    let q = c.loop-rung.rung in
    let chain = layer_read c.args.last.now q c.index-last-rung.result c.loop-rung-test.true c.index-last-rung.is in
    first_more _ _ c.loop-rung.invariant (c.in_ok-ends_of_chain.ensures ∙ ap (λ x. first_no (end_verdict c.args.scene.now (to_z w128 (of_z w128 c.args.bound)) c.args.segment q x) (count_of x)) chain)

pub returns-in_err-ends_of_chain : goal.returns-in_err-ends_of_chain
returns-in_err-ends_of_chain c =
    let q = c.loop-rung.rung in
    let chain = layer_read c.args.last.now q c.index-last-rung.result c.loop-rung-test.true c.index-last-rung.is in
    first_fails _ _ _ c.from_residual.result c.in_err-ends_of_chain.field-0.0 c.loop-rung-test.true c.loop-rung.invariant (c.in_err-ends_of_chain.ensures ∙ ap (λ x. first_no (end_verdict c.args.scene.now (to_z w128 (of_z w128 c.args.bound)) c.args.segment q x) (count_of x)) chain) c.from_residual.ensures.1 ∙ ap (λ b. ends_verdict c.args.scene.now b (length c.args.last.now) c.args.segment (chains_by_rung c.args.last.now)) (to_z-of_z w128 c.args.bound c.ranges.bound)
