use Rattle.lab_io.proofs.Gathered.{gathers_all, gathers_nothing_more}
use Rattle.certificate_text.proofs.writer.put_labels.Goals as goal

pub returns-in_err-batch_labels : goal.returns-in_err-batch_labels
returns-in_err-batch_labels g c =
    gathers_nothing_more _ _ _ _ _ c.from_residual.result _ c.in_err-batch_labels.was c.from_residual.ensures.1 (rw c.new-batch.ensures at c.batch_labels.ensures)

pub returns : goal.returns
returns g c = gathers_all _ _ _ _ _ _ _ _ c.in_ok-batch_labels.was (rw c.new-batch.ensures at c.batch_labels.ensures) c.finish.ensures
