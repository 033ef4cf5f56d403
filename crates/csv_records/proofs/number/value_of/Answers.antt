use Rattle.std.proofs.Common.{◌≡◌, ◌+◌, ◌-◌, ◌^◌, get_or, min}
use Rattle.csv_records.proofs.Digits.{digit_at, more_digits}
use Rattle.csv_records.proofs.number.value_of.Goals as goal

pub overflow_sub-digit : goal.overflow_sub-digit
overflow_sub-digit c = (digit_at c.args.digits.now c.loop-digit.digit-index c.requires c.loop-digit-test.true).0

pub loop-digit-preserved : goal.loop-digit-preserved
loop-digit-preserved c =
    let next : c.saturating_add-value.result ≡ min (c.saturating_mul.result + (get_or c.args.digits.now c.loop-digit.digit-index 0 - 48)) (2 ^ 64 - 1) = rw (← c.from.ensures) c.saturating_add-value.ensures in
    more_digits c.args.digits.now c.loop-digit.digit-index c.loop-digit.value c.saturating_mul.result c.saturating_add-value.result c.requires c.loop-digit-test.true c.loop-digit.invariant c.saturating_mul.ensures next
