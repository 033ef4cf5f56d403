use Rattle.std.proofs.Common.{sym}
use Rattle.lab_io.proofs.Puts.{puts_as, puts_failed, puts_more}
use Rattle.certificate_text.proofs.Texts.{numbers_end, numbers_from}
use Rattle.certificate_text.proofs.writer.put_rungs.Goals as goal

pub loop-rung-preserved : goal.loop-rung-preserved
loop-rung-preserved g c = λ end answer h.
    c.loop-rung.invariant end answer (puts_as _ _ _ _ _ (sym (numbers_from c.args.rungs.now c.loop-rung.rung-index 0 c.loop-rung-test.true))
    (puts_more _ _ _ _ _ _ _ _ c.in_ok-put_later_number.was (rw c.from.ensures at c.put_later_number.ensures) h))

pub returns-in_err-put_later_number : goal.returns-in_err-put_later_number
returns-in_err-put_later_number g c =
    c.loop-rung.invariant _ _ (puts_as _ _ _ _ _ (sym (numbers_from c.args.rungs.now c.loop-rung.rung-index 0 c.loop-rung-test.true))
    (puts_failed _ _ _ _ _ c.from_residual.result _ c.in_err-put_later_number.was c.from_residual.ensures.1 (rw c.from.ensures at c.put_later_number.ensures)))

pub returns : goal.returns
returns g c = c.loop-rung.invariant _ _ (rw (numbers_end c.args.rungs.now c.loop-rung.rung-index c.loop-rung-test.false) c.put_text.ensures)
