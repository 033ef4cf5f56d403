use Rattle.std.proofs.Common.{◌∙◌, ◌<◌, ◌^◌, sym, arith}
use Rattle.csv_records.proofs.Digits.{thousandths-other, thousandths-read, thousandths-whole}
use Rattle.csv_records.proofs.number.thousandths.Goals as goal

pub returns-then-are_digits : goal.returns-then-are_digits
returns-then-are_digits c =
    let most : c.args.most < 2 ^ 32 = omega (arith, c.ranges.most.fits) in
    rw (c.csv_number_within.ensures.value, c.from-least.ensures, c.from-most.ensures)
    (thousandths-whole c.args.least c.args.most c.args.field.now c.saturating_mul.result c.value_of.result most (sym c.are_digits.ensures ∙ c.if-are_digits.true) c.value_of.ensures c.saturating_mul.ensures)

pub returns-then-is_in_thousandths : goal.returns-then-is_in_thousandths
returns-then-is_in_thousandths c =
    let most : c.args.most < 2 ^ 32 = omega (arith, c.ranges.most.fits) in
    rw (c.csv_number_within-then-is_in_thousandths.ensures.value, c.from-least.ensures, c.from-most.ensures)
    (thousandths-read c.args.least c.args.most c.args.field.now c.thousandths_of.result most (sym c.are_digits.ensures ∙ c.if-are_digits.false) (sym c.is_in_thousandths.ensures ∙ c.if-is_in_thousandths.true) c.thousandths_of.ensures)

pub returns-else-is_in_thousandths : goal.returns-else-is_in_thousandths
returns-else-is_in_thousandths c =
    rw c.spelling_fault.ensures (thousandths-other c.args.least c.args.most c.args.field.now (sym c.are_digits.ensures ∙ c.if-are_digits.false) (sym c.is_in_thousandths.ensures ∙ c.if-is_in_thousandths.false))
