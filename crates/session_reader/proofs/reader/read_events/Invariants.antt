use Rattle.std.proofs.Common.{◌≡◌, ◌-◌, ◌≤◌, length}
use Rattle.session_reader.specs.Form.{most_events}
use Rattle.session_reader.specs.Reading.{events_behind, read_events}
use Rattle.session_reader.proofs.reader.read_events.Given as goal

-- the events so far, and those that are still read
abbrev pub invariant-loop : goal.invariant-loop
invariant-loop l = record {
  events : events_behind l.events.items (read_events (most_events - l.counter) l.rest) ≡ read_events most_events l.bytes;
  few : length l.events.items ≤ l.counter;
}
