use Rattle.std.proofs.Common.{◌∙◌, ap, ap₂, ltb}
use Rattle.certificate_check.specs.Scheme.{tested}
use Rattle.certificate_check.specs.Clauses.{count_of}
use Rattle.certificate_check.proofs.Layers.{layer_read}
use Rattle.certificate_check.proofs.Scheme.{first_fails, first_more, first_none}
use Rattle.certificate_check.proofs.ranges.name_ranges.Goals as goal

pub loop-next_rung-init : goal.loop-next_rung-init
loop-next_rung-init c = first_none _

pub loop-next_rung-preserved : goal.loop-next_rung-preserved
loop-next_rung-preserved c =
    let r = c.loop-next_rung.next_rung in
    let chain = layer_read c.args.next.now r c.index-next-next_rung.result c.loop-next_rung-test.true c.index-next-next_rung.is in
    first_more _ _ c.loop-next_rung.invariant (c.in_ok-test.ensures ∙ ap₂ (λ m n. tested 2 c.args.segment c.args.rung c.args.place (ltb m n)) c.name_of.ensures (c.count_of.ensures ∙ ap count_of chain))

pub returns-in_err-test : goal.returns-in_err-test
returns-in_err-test c =
    let r = c.loop-next_rung.next_rung in
    let chain = layer_read c.args.next.now r c.index-next-next_rung.result c.loop-next_rung-test.true c.index-next-next_rung.is in
    first_fails _ _ _ c.from_residual.result c.in_err-test.field-0.0 c.loop-next_rung-test.true c.loop-next_rung.invariant (c.in_err-test.ensures ∙ ap₂ (λ m n. tested 2 c.args.segment c.args.rung c.args.place (ltb m n)) c.name_of.ensures (c.count_of.ensures ∙ ap count_of chain)) c.from_residual.ensures.1
