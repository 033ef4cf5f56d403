use Rattle.std.proofs.Common.{sym}
use Rattle.lab_io.proofs.Puts.{puts_as, puts_failed, puts_more}
use Rattle.certificate_text.proofs.Texts.{numbers_end, numbers_from}
use Rattle.certificate_text.proofs.writer.put_numbers.Goals as goal

pub loop-number-preserved : goal.loop-number-preserved
loop-number-preserved g c = λ end answer h.
    c.loop-number.invariant end answer (puts_as _ _ _ _ _ (sym (numbers_from c.args.numbers.now c.loop-number.number-index 0 c.loop-number-test.true))
    (puts_more _ _ _ _ _ _ _ _ c.in_ok-put_later_number.was c.put_later_number.ensures h))

pub returns-in_err-put_later_number : goal.returns-in_err-put_later_number
returns-in_err-put_later_number g c =
    c.loop-number.invariant _ _ (puts_as _ _ _ _ _ (sym (numbers_from c.args.numbers.now c.loop-number.number-index 0 c.loop-number-test.true))
    (puts_failed _ _ _ _ _ c.from_residual.result _ c.in_err-put_later_number.was c.from_residual.ensures.1 c.put_later_number.ensures))

pub returns : goal.returns
returns g c = c.loop-number.invariant _ _ (rw (numbers_end c.args.numbers.now c.loop-number.number-index c.loop-number-test.false) c.put_text.ensures)
