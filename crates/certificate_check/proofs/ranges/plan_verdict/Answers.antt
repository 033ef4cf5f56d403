use Rattle.std.proofs.Common.{arith}
use Rattle.certificate_check.proofs.Scheme.{first_end, first_fails, first_more, first_none}
use Rattle.certificate_check.proofs.ranges.plan_verdict.Goals as goal

pub loop-segment-init : goal.loop-segment-init
loop-segment-init c = first_none _

pub loop-segment-preserved : goal.loop-segment-preserved
loop-segment-preserved c = first_more _ _ c.loop-segment.invariant c.in_ok-test.ensures

pub returns-in_err-test : goal.returns-in_err-test
returns-in_err-test c = first_fails _ _ _ c.from_residual.result c.in_err-test.field-0.0 c.loop-segment-test.true c.loop-segment.invariant c.in_err-test.ensures c.from_residual.ensures.1

pub returns : goal.returns
returns c = first_end _ _ _ c.loop-segment.invariant (omega arith) (omega arith)
