use Rattle.std.proofs.Common.{◌∙◌, refl, sym, arith}
use Rattle.price_bounds.proofs.Verdicts.{rung_end, rung_more, rung_stop}
use Rattle.price_bounds.proofs.check.bad_rung.Goals as goal

pub loop-segment-init : goal.loop-segment-init
loop-segment-init c = refl

pub returns-then-plan-segment : goal.returns-then-plan-segment
returns-then-plan-segment c = sym (c.loop-segment.invariant ∙ rung_stop c.args.rungs c.loop-segment.segment c.args.plan.now (omega arith) c.if-plan-segment.true)

pub loop-segment-preserved : goal.loop-segment-preserved
loop-segment-preserved c = c.loop-segment.invariant ∙ rung_more c.args.rungs c.loop-segment.segment c.args.plan.now (omega arith) c.if-plan-segment.false

pub returns : goal.returns
returns c = sym (c.loop-segment.invariant ∙ rung_end c.args.rungs c.loop-segment.segment c.args.plan.now (omega arith))
