use Rattle.std.proofs.Common.{◌∙◌, ap, length}
use Rattle.certificate_check.specs.Scheme.{first_no}
use Rattle.certificate_check.specs.Clauses.{count_of, chains_by_rung, range_verdict}
use Rattle.certificate_check.proofs.Layers.{chain_read, few_read, layer_read}
use Rattle.certificate_check.proofs.Scheme.{first_fails, first_more, first_none}
use Rattle.certificate_check.proofs.ranges.ranges_verdict.Goals as goal

pub loop-rung-init : goal.loop-rung-init
loop-rung-init c = first_none _

pub range_of_chain-requires-clause-count : goal.range_of_chain-requires-clause-count
range_of_chain-requires-clause-count c =
    few_read _ c.args.here.now c.loop-rung.rung c.index-here-rung.result c.requires.form c.loop-rung-test.true c.index-here-rung.is

pub range_of_chain-requires-clause-names : goal.range_of_chain-requires-clause-names
range_of_chain-requires-clause-names c =
    (chain_read _ c.args.here.now c.loop-rung.rung c.index-here-rung.result c.requires.form c.loop-rung-test.true c.index-here-rung.is).whole

pub loop-rung-preserved : goal.loop-rung-preserved
loop-rung-preserved c =
    let q = c.loop-rung.rung in
    let chain = layer_read c.args.here.now q c.index-here-rung.result c.loop-rung-test.true c.index-here-rung.is in
    first_more _ _ c.loop-rung.invariant (c.in_ok-range_of_chain.ensures ∙ ap (λ x. first_no (range_verdict (length c.args.next.now) c.args.segment q x (chains_by_rung c.args.next.now)) (count_of x)) chain)

pub returns-in_err-range_of_chain : goal.returns-in_err-range_of_chain
returns-in_err-range_of_chain c =
    let q = c.loop-rung.rung in
    let chain = layer_read c.args.here.now q c.index-here-rung.result c.loop-rung-test.true c.index-here-rung.is in
    first_fails _ _ _ c.from_residual.result c.in_err-range_of_chain.field-0.0 c.loop-rung-test.true c.loop-rung.invariant (c.in_err-range_of_chain.ensures ∙ ap (λ x. first_no (range_verdict (length c.args.next.now) c.args.segment q x (chains_by_rung c.args.next.now)) (count_of x)) chain) c.from_residual.ensures.1
