-- What the text of a session tells, and which of it has a text.
use Rattle.std.specs.Prelude.{ℕ, ◌+◌, ◌≤◌, List, [], ◌∷◌, Bool, false, length, map}
use Rattle.std.specs.List.{All}
use Rattle.lab_model.specs.Weighing.{Weighing}
use Rattle.labels.specs.Form.{HasDigits, HasSignedDigits, score_digits}
use Rattle.player_core.specs.declared.session.Event.{Event}
use Rattle.player_core.specs.declared.session.Event.TheVariants as event
use Rattle.player_core.specs.Session.{Shown}
use Rattle.session_report.specs.Session.{session_score}
use Rattle.certificate_text.specs.Line.{Holds}
use Rattle.session_reader.specs.declared.told.Counters.{Counters}
use Rattle.session_reader.specs.declared.told.Told.{Told}
use Rattle.session_reader.specs.declared.told.Sheet.{Sheet}
use Rattle.session_reader.specs.Grammar.{abandon_line, arrive_line, bits_digits, end_event_line, part_digits, play_line, request_line, seek_line, stall_line, time_digits}

-- the most events of a session that a text tells
abbrev pub most_events : ℕ
most_events = 67108864

-- the most players of a text
abbrev pub most_players : ℕ
most_players = 8

-- what the text of a session tells: its events and its counters
pub record Telling : Type 0 where
  pub events : List Event
  pub counters : Counters

-- the same of the code's
abbrev pub telling : Told → Telling
telling t = record { events = t.events.items; counters = t.counters }

-- what a text of sessions tells: whether they are those of players, each under its number, and the sessions in order
pub record Tellings : Type 0 where
  pub joint : Bool
  pub sessions : List Telling

-- a session alone
abbrev pub alone : Telling → Tellings
alone t = record { joint = false; sessions = t ∷ [] }

-- the same of the code's
abbrev pub tellings : Sheet → Tellings
tellings s = record { joint = s.joint; sessions = map telling s.sessions.items }

-- the counters of a session
abbrev pub counters_of : Shown → Weighing → Counters
counters_of s w = record {
  startup_ms = s.startup_ms;
  stall_ms = s.stall_ms;
  stalls = s.stalls;
  seek_ms = s.seek_ms;
  wasted_bits = s.wasted_bits;
  end = s.ended;
  score = session_score s w;
}

-- what the text of a session tells of it
abbrev pub telling_of : Shown → Weighing → Telling
telling_of s w = record { events = s.events; counters = counters_of s w }

-- an event that its line can hold
abbrev pub IsToldBy : Event → Type 0
IsToldBy (event.Request at segment rung) = Holds request_line (at, (segment, (rung, tt)))
IsToldBy (event.Arrive at segment rung first rate) = Holds arrive_line (at, (segment, (rung, (first, (rate, tt)))))
IsToldBy (event.Abandon at segment rung to got) = Holds abandon_line (at, (segment, (rung, (to, (got, tt)))))
IsToldBy (event.Seek at to wasted) = Holds seek_line (at, (to, (wasted, tt)))
IsToldBy (event.Play at segment rung) = Holds play_line (at, (segment, (rung, tt)))
IsToldBy (event.Stall at) = Holds stall_line (at, tt)
IsToldBy (event.End at) = Holds end_event_line (at, tt)

-- counters that have no more digits than their lines allow
pub record AreTold (c : Counters) : Type 0 where
  pub startup : HasDigits time_digits c.startup_ms
  pub stall : HasDigits time_digits c.stall_ms
  pub stalls : HasDigits part_digits c.stalls
  pub seeking : HasDigits time_digits c.seek_ms
  pub wasted : HasDigits bits_digits c.wasted_bits
  pub end_at : HasDigits time_digits c.end
  pub score : HasSignedDigits score_digits c.score

-- a session that has a text
pub record IsTelling (t : Telling) : Type 0 where
  pub few : length t.events ≤ most_events
  pub events : All IsToldBy t.events
  pub counters : AreTold t.counters

-- how many lines its text has
abbrev pub line_count : Telling → ℕ
line_count t = length t.events + 7
