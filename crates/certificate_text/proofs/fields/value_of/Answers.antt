use Rattle.std.proofs.Common.{arith}
use Rattle.certificate_text.proofs.Values.{one_more, power_below}
use Rattle.lab_io.proofs.Numbers.{digit_at}
use Rattle.certificate_text.proofs.fields.value_of.Goals as goal

pub overflow_mul-value : goal.overflow_mul-value
overflow_mul-value c =
    let p = power_below c.loop-digit.digit-index (omega (arith, c.loop-digit-test.true, c.requires.few)) in
    omega (arith, p, c.loop-digit.invariant.1)

pub overflow_sub-digit : goal.overflow_sub-digit
overflow_sub-digit c = (digit_at c.args.digits.now c.loop-digit.digit-index c.requires.digits c.loop-digit-test.true).0

pub overflow_add-value : goal.overflow_add-value
overflow_add-value c =
    let p = power_below c.loop-digit.digit-index (omega (arith, c.loop-digit-test.true, c.requires.few)) in
    let d = digit_at c.args.digits.now c.loop-digit.digit-index c.requires.digits c.loop-digit-test.true in
    omega (arith, p, d, c.loop-digit.invariant.1, c.from.ensures)

pub loop-digit-preserved : goal.loop-digit-preserved
loop-digit-preserved c =
    one_more c.args.digits.now c.loop-digit.digit-index c.loop-digit.value _ c.requires.digits c.loop-digit-test.true c.loop-digit.invariant.0 c.loop-digit.invariant.1 (omega (arith, c.from.ensures))
