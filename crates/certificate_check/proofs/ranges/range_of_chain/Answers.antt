use Rattle.std.proofs.Common.{◌∙◌, ap}
use Rattle.certificate_check.specs.Scheme.{first_no}
use Rattle.certificate_check.proofs.Scheme.{first_fails, first_more, first_none}
use Rattle.certificate_check.proofs.ranges.range_of_chain.Goals as goal

pub loop-place-init : goal.loop-place-init
loop-place-init c = first_none _

pub loop-place-preserved : goal.loop-place-preserved
loop-place-preserved c =
    first_more _ _ c.loop-place.invariant (c.in_ok-range_verdict.ensures)

pub returns-in_err-range_verdict : goal.returns-in_err-range_verdict
returns-in_err-range_verdict c =
    first_fails _ _ _ c.from_residual.result c.in_err-range_verdict.field-0.0 c.loop-place-test.true c.loop-place.invariant (c.in_err-range_verdict.ensures) c.from_residual.ensures.1 ∙ ap (first_no _) c.count_of-place-end.ensures
