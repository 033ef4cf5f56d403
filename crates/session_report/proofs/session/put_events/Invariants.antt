use Rattle.std.proofs.Common.{drop, Result}
use Rattle.std.specs.List.{flat_map}
use Rattle.lab_io.specs.Piece.{fields_line}
use Rattle.lab_io.specs.Sink.{Puts, Seen}
use Rattle.lab_io.specs.declared.PutErr.{PutErr}
use Rattle.session_report.specs.Session.{event_fields}
use Rattle.session_report.proofs.session.put_events.Given as goal

-- what puts the rest puts it all
abbrev pub invariant-loop-event : goal.invariant-loop-event
invariant-loop-event g l = (end : Seen) (answer : Result (Unit {0}) PutErr) → Puts (g.O.Sink.seen l.out) (flat_map (λ e. fields_line (event_fields e)) (drop l.event-index l.events)) end answer
    → Puts (g.O.Sink.seen l.fn.out) (flat_map (λ e. fields_line (event_fields e)) l.fn.events) end answer
