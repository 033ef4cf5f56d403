use Rattle.std.proofs.Common.{arith, below_more, refl}
use Rattle.lab_model.proofs.weights.are_rows.Goals as goal

pub returns-then-not-is_row : goal.returns-then-not-is_row
returns-then-not-is_row c =
    (λ f. grind arith, λ h. let r = c.is_row.ensures.1 (h c.loop-row.row c.loop-row-test.true) in grind (arith, r))

pub loop-row-preserved : goal.loop-row-preserved
loop-row-preserved c = below_more _ _ c.loop-row.invariant (c.is_row.ensures.0 c.if-not-is_row.false)

pub returns : goal.returns
returns c = (λ f row low. c.loop-row.invariant row (omega (arith, low, c.loop-row-test.false)), λ h. refl)
