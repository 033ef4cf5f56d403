use Rattle.std.proofs.Common.{sym}
use Rattle.lab_io.proofs.Gathered.{gathers_as, gathers_failed, gathers_more}
use Rattle.certificate_text.proofs.Texts.{numbers_end, numbers_from}
use Rattle.certificate_text.proofs.writer.put_names.Goals as goal

pub loop-name-preserved : goal.loop-name-preserved
loop-name-preserved g c = λ end left answer h.
    c.loop-name.invariant end left answer (gathers_as _ _ _ _ _ _ _ (sym (numbers_from c.args.names.now c.loop-name.name-index 0 c.loop-name-test.true))
    (gathers_more _ _ _ _ _ _ _ _ _ _ _ c.in_ok-put_name.was c.put_name.ensures h))

pub returns-in_err-put_name : goal.returns-in_err-put_name
returns-in_err-put_name g c =
    c.loop-name.invariant _ _ _ (gathers_as _ _ _ _ _ _ _ (sym (numbers_from c.args.names.now c.loop-name.name-index 0 c.loop-name-test.true))
    (gathers_failed _ _ _ _ _ _ _ _ c.from_residual.result _ c.in_err-put_name.was c.from_residual.ensures.1 c.put_name.ensures))

pub returns : goal.returns
returns g c = c.loop-name.invariant _ _ _ (rw (numbers_end c.args.names.now c.loop-name.name-index c.loop-name-test.false) c.put_text.ensures)
