use Rattle.std.proofs.Common.{refl, sym}
use Rattle.lab_io.proofs.Puts.{puts_as, puts_failed, puts_more, puts_none}
use Rattle.session_report.proofs.Walks.{texts_end, texts_from}
use Rattle.session_report.proofs.session.put_events.Goals as goal

pub loop-event-preserved : goal.loop-event-preserved
loop-event-preserved g c = λ end answer h.
    c.loop-event.invariant end answer (puts_as _ _ _ _ _ (sym (texts_from _ c.args.events.now c.loop-event.event-index _ c.loop-event-test.true))
    (puts_more _ _ _ _ _ _ _ _ c.in_ok-put_event.was c.put_event.ensures h))

pub returns-in_err-put_event : goal.returns-in_err-put_event
returns-in_err-put_event g c =
    c.loop-event.invariant _ _ (puts_as _ _ _ _ _ (sym (texts_from _ c.args.events.now c.loop-event.event-index _ c.loop-event-test.true))
    (puts_failed _ _ _ _ _ c.from_residual.result _ c.in_err-put_event.was c.from_residual.ensures.1 c.put_event.ensures))

pub returns : goal.returns
returns g c = c.loop-event.invariant _ _ (rw (texts_end _ c.args.events.now c.loop-event.event-index c.loop-event-test.false) (puts_none _ _ refl))
