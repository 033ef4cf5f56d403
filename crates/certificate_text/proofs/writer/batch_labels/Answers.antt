use Rattle.std.proofs.Common.{refl, sym}
use Rattle.lab_io.proofs.Gathered.{gathers_as, gathers_failed, gathers_more, gathers_none}
use Rattle.certificate_text.proofs.Texts.{labels_end, labels_from}
use Rattle.certificate_text.proofs.writer.batch_labels.Goals as goal

pub loop-label-preserved : goal.loop-label-preserved
loop-label-preserved g c = λ end left answer h.
    c.loop-label.invariant end left answer (gathers_as _ _ _ _ _ _ _ (sym (labels_from c.args.per c.args.labels.now c.loop-label.names.now c.loop-label.label-index _ c.loop-label-test.true))
    (gathers_more _ _ _ _ _ _ _ _ _ _ _ c.in_ok-put_label.was (rw c.split_names.ensures.own at c.put_label.ensures) (rw c.split_names.ensures.later at h)))

pub returns-in_err-put_label : goal.returns-in_err-put_label
returns-in_err-put_label g c =
    c.loop-label.invariant _ _ _ (gathers_as _ _ _ _ _ _ _ (sym (labels_from c.args.per c.args.labels.now c.loop-label.names.now c.loop-label.label-index _ c.loop-label-test.true))
    (gathers_failed _ _ _ _ _ _ _ _ c.from_residual.result _ c.in_err-put_label.was c.from_residual.ensures.1 (rw c.split_names.ensures.own at c.put_label.ensures)))

pub returns : goal.returns
returns g c = c.loop-label.invariant _ _ _ (rw (labels_end c.args.per c.args.labels.now c.loop-label.names.now c.loop-label.label-index c.loop-label-test.false) (gathers_none _ _ _ refl))
