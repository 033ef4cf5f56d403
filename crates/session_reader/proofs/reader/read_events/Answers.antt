use Rattle.std.proofs.Common.{◌∙◌, ◌∷◌, [], ap, arith, length-append, sym}
use Rattle.certificate_text.proofs.Loops.{given}
use Rattle.session_reader.specs.Form.{most_events}
use Rattle.session_reader.proofs.Loops.{events_ended, events_more, events_stopped}
use Rattle.session_reader.proofs.reader.read_events.Goals as goal

pub returns-in-Err-Refused-clause-events : goal.returns-in-Err-Refused-clause-events
returns-in-Err-Refused-clause-events c =
    let h = rw c.in-Err-Refused.field-0-is at c.in-Err-Refused.ensures in
    ap given (sym c.loop.invariant.events ∙ events_stopped c.loop.events.items most_events c.loop.counter c.loop.rest.now _ c.loop-test.true h)

pub loop-preserved : goal.loop-preserved
loop-preserved c = record {
  events = rw c.in_ok-push-in-Ok.ensures.ok
      (events_more c.loop.events.items c.in-Ok.event most_events c.loop.counter c.loop.rest.now c.in-Ok.behind.now c.loop-test.true c.in-Ok.ensures ∙ c.loop.invariant.events);
  few = rw c.in_ok-push-in-Ok.ensures.ok (omega (arith, length-append c.loop.events.items (c.in-Ok.event ∷ []), c.loop.invariant.few));
}

pub returns-clause-events : goal.returns-clause-events
returns-clause-events c = ap given (sym c.loop.invariant.events ∙ events_ended c.loop.events.items most_events c.loop.counter c.loop.rest.now c.loop-test.false)
