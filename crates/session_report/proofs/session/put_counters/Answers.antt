use Rattle.std.proofs.Common.{refl, sym}
use Rattle.lab_io.proofs.Puts.{puts_as, puts_failed, puts_more, puts_none}
use Rattle.session_report.proofs.Walks.{texts_end, texts_from}
use Rattle.session_report.proofs.session.put_counters.Goals as goal

pub loop-counter-preserved : goal.loop-counter-preserved
loop-counter-preserved g c = λ end answer h.
    c.loop-counter.invariant end answer (puts_as _ _ _ _ _ (sym (texts_from _ c.args.counters.now c.loop-counter.counter-index _ c.loop-counter-test.true))
    (puts_more _ _ _ _ _ _ _ _ c.in_ok-put_fields.was c.put_fields.ensures h))

pub returns-in_err-put_fields : goal.returns-in_err-put_fields
returns-in_err-put_fields g c =
    c.loop-counter.invariant _ _ (puts_as _ _ _ _ _ (sym (texts_from _ c.args.counters.now c.loop-counter.counter-index _ c.loop-counter-test.true))
    (puts_failed _ _ _ _ _ c.from_residual.result _ c.in_err-put_fields.was c.from_residual.ensures.1 c.put_fields.ensures))

pub returns : goal.returns
returns g c = c.loop-counter.invariant _ _ (rw (texts_end _ c.args.counters.now c.loop-counter.counter-index c.loop-counter-test.false) (puts_none _ _ refl))
