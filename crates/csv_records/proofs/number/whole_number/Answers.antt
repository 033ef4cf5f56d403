use Rattle.std.proofs.Common.{◌∙◌, ◌<◌, ◌^◌, sym, arith}
use Rattle.csv_records.proofs.Digits.{whole-other, whole-read}
use Rattle.csv_records.proofs.number.whole_number.Goals as goal

pub returns-then-not-are_digits : goal.returns-then-not-are_digits
returns-then-not-are_digits c = rw c.spelling_fault.ensures (whole-other c.args.least c.args.most c.args.field.now (sym c.are_digits.ensures ∙ c.if-not-are_digits.true))

pub returns-in-Ok : goal.returns-in-Ok
returns-in-Ok c =
    let most : c.args.most < 2 ^ 32 = omega (arith, c.ranges.most.fits) in
    (rw (c.from.ensures, c.from-2.ensures) at c.in-Ok.ensures.value)
    ∙ whole-read c.args.least c.args.most c.args.field.now c.value_of.result most (sym c.are_digits.ensures ∙ c.if-not-are_digits.false) c.value_of.ensures

pub returns-in-Err : goal.returns-in-Err
returns-in-Err c =
    let most : c.args.most < 2 ^ 32 = omega (arith, c.ranges.most.fits) in
    (rw (c.from.ensures, c.from-2.ensures) at c.in-Err.ensures.value)
    ∙ whole-read c.args.least c.args.most c.args.field.now c.value_of.result most (sym c.are_digits.ensures ∙ c.if-not-are_digits.false) c.value_of.ensures
