use Rattle.std.proofs.Common.{arith, lit≤}
use Rattle.certificate_text.proofs.Values.{below_digits}
use Rattle.certificate_text.proofs.fields.numeral.Goals as goal

pub returns-then-text-digits-clause-digits : goal.returns-then-text-digits-clause-digits
returns-then-text-digits-clause-digits c =
    below_digits c.args.digits.most c.args.text.now c.value_of.result (omega (arith, c.args.digits.few)) c.if-is_number.ensures (omega (arith, c.if-text-digits.true)) c.value_of.ensures

pub returns-then-text-digits-clause-most : goal.returns-then-text-digits-clause-most
returns-then-text-digits-clause-most c =
    below_digits 24 c.args.text.now c.value_of.result (lit≤ tt) c.if-is_number.ensures (omega (arith, c.args.digits.few, c.if-text-digits.true)) c.value_of.ensures
