use Rattle.std.proofs.Common.{◌∙◌, ap, get_or, ltb, arith}
use Rattle.certificate_check.specs.Scheme.{tested}
use Rattle.certificate_check.specs.Clauses.{count_of}
use Rattle.certificate_check.proofs.Layers.{layer_read}
use Rattle.certificate_check.proofs.Scheme.{first_fails, first_more, first_none}
use Rattle.certificate_check.proofs.ranges.starts_verdict.Goals as goal

pub loop-rung-init : goal.loop-rung-init
loop-rung-init c = first_none _

pub loop-rung-preserved : goal.loop-rung-preserved
loop-rung-preserved c =
    let few = c.requires.chains in
    let q = c.loop-rung.rung in
    let chain = layer_read c.args.first.now q c.index-first-rung.result (omega arith) c.index-first-rung.is in
    first_more _ _ c.loop-rung.invariant (c.in_ok-test.ensures ∙ ap (λ n. tested 2 0 q 0 (ltb (get_or c.args.starts.now q 0) n)) (c.count_of.ensures ∙ ap count_of chain))

pub returns-in_err-test : goal.returns-in_err-test
returns-in_err-test c =
    let few = c.requires.chains in
    let q = c.loop-rung.rung in
    let chain = layer_read c.args.first.now q c.index-first-rung.result (omega arith) c.index-first-rung.is in
    first_fails _ _ _ c.from_residual.result c.in_err-test.field-0.0 c.loop-rung-test.true c.loop-rung.invariant (c.in_err-test.ensures ∙ ap (λ n. tested 2 0 q 0 (ltb (get_or c.args.starts.now q 0) n)) (c.count_of.ensures ∙ ap count_of chain)) c.from_residual.ensures.1
