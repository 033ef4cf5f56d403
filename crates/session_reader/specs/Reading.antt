-- What the bytes of a session's text tell, or their first bad line.
use Rattle.std.specs.Prelude.{◌≡◌, ℕ, zero, suc, ◌+◌, ◌≤◌, ◌==◌, Bool, true, false, List, [], ◌∷◌, ◌++◌, Result, Ok, Err, codes, if◌then◌else◌, length}
use Rattle.std.specs.List.{All}
use Rattle.lab_model.specs.Steps.{◌>>=◌}
use Rattle.lab_model.specs.declared.fault.Refusal.{Refusal}
use Rattle.lab_io.specs.Sink.{Text}
use Rattle.player_core.specs.declared.session.Event.{Event}
use Rattle.player_core.specs.declared.session.Event.TheVariants as event
use Rattle.certificate_text.specs.Fields.{Read}
use Rattle.certificate_text.specs.Grammar.{score_line}
use Rattle.certificate_text.specs.Line.{Line, Values, read_line}
use Rattle.certificate_text.specs.Reading.{read_nothing}
use Rattle.session_reader.specs.declared.told.Counters.{Counters}
use Rattle.session_reader.specs.Form.{IsTelling, Telling, Tellings, alone, line_count, most_events, most_players}
use Rattle.session_reader.specs.Grammar.{abandon_line, arrive_line, bits_digits, counter_line, end_event_line, part_digits, play_line, told_player_line, request_line, seek_line, stall_line, time_digits}

-- ---- the events

-- the event of a line of this form
abbrev pub read_line_as : (line : Line) → (Values line → Event) → ℕ → Text → Read Event
read_line_as line make row bytes = read_line row line bytes >>= λ x. Ok (make x.0, x.1)

-- a request
abbrev pub request_event : Values request_line → Event
request_event v = event.Request v.0 v.1.0 v.1.1.0

-- an arrival
abbrev pub arrive_event : Values arrive_line → Event
arrive_event v = event.Arrive v.0 v.1.0 v.1.1.0 v.1.1.1.0 v.1.1.1.1.0

-- an abandonment
abbrev pub abandon_event : Values abandon_line → Event
abandon_event v = event.Abandon v.0 v.1.0 v.1.1.0 v.1.1.1.0 v.1.1.1.1.0

-- a seek
abbrev pub seek_event : Values seek_line → Event
seek_event v = event.Seek v.0 v.1.0 v.1.1.0

-- a segment that begins to play
abbrev pub play_event : Values play_line → Event
play_event v = event.Play v.0 v.1.0 v.1.1.0

-- a stall that begins
abbrev pub stall_event : Values stall_line → Event
stall_event v = event.Stall v.0

-- the end
abbrev pub end_event : Values end_event_line → Event
end_event v = event.End v.0

-- the first of two readings that goes well
abbrev pub or_else : {X : Type 0} → Read X → Read X → Read X
or_else (Ok x) other = Ok x
or_else (Err e) other = other

-- an event: the first of seven forms that the line has
unfoldable pub read_event : ℕ → Text → Read Event
read_event row bytes =
    or_else (read_line_as request_line request_event row bytes)
    (or_else (read_line_as arrive_line arrive_event row bytes)
    (or_else (read_line_as abandon_line abandon_event row bytes)
    (or_else (read_line_as seek_line seek_event row bytes)
    (or_else (read_line_as play_line play_event row bytes)
    (or_else (read_line_as stall_line stall_event row bytes)
    (read_line_as end_event_line end_event row bytes))))))

-- an event before those that follow it
abbrev pub event_before : Event → List Event × Text → List Event × Text
event_before e es = (e ∷ es.0, es.1)

-- what follows where a line was read, or else what stands there
abbrev pub if_read : {X Y : Type 0} → Read X → (X × Text → Y) → Y → Y
if_read (Ok x) next stay = next x
if_read (Err e) next stay = stay

-- the events before the first line that is none, but no more than so many, and the bytes behind them
unfoldable pub read_events : ℕ → Text → List Event × Text
read_events zero bytes = ([], bytes)
read_events (suc more) bytes = if_read (read_event 1 bytes) (λ x. event_before x.0 (read_events more x.1)) ([], bytes)

-- events that were read before, and then those that are read
abbrev pub events_behind : List Event → List Event × Text → List Event × Text
events_behind before es = (before ++ es.0, es.1)

-- ---- a session

-- the seven counters from the line of this number on
unfoldable pub read_counters : ℕ → Text → Read Counters
read_counters row bytes = do
  startup ← read_line row (counter_line (codes "startup") time_digits) bytes
  stall ← read_line (row + 1) (counter_line (codes "stall") time_digits) startup.1
  stalls ← read_line (row + 2) (counter_line (codes "stalls") part_digits) stall.1
  seeking ← read_line (row + 3) (counter_line (codes "seeking") time_digits) stalls.1
  wasted ← read_line (row + 4) (counter_line (codes "wasted") bits_digits) seeking.1
  ended ← read_line (row + 5) (counter_line (codes "end") time_digits) wasted.1
  score ← read_line (row + 6) score_line ended.1
  Ok (record { startup_ms = startup.0.0; stall_ms = stall.0.0; stalls = stalls.0.0; seek_ms = seeking.0.0; wasted_bits = wasted.0.0; end = ended.0.0; score = score.0.0 }, score.1)

-- the counters behind events, and so a session
abbrev pub counted : ℕ → List Event × Text → Read Telling
counted row events = read_counters (row + length events.0) events.1 >>= λ c. Ok (record { events = events.0; counters = c.0 }, c.1)

-- a session from the line of this number on
unfoldable pub read_telling : ℕ → Text → Read Telling
read_telling row bytes = counted row (read_events most_events bytes)

-- ---- the whole

-- a session alone: nothing is behind it
unfoldable pub read_alone : Text → Result Tellings Refusal
read_alone bytes = do
  session ← read_telling 1 bytes
  done ← read_nothing (1 + line_count session.0) session.1
  Ok (alone session.0)

-- the sessions of players to the end of the bytes, but no more than so many: the number of the first, and that of its line
unfoldable pub read_players : ℕ → ℕ → ℕ → Text → Result (List Telling) Refusal
read_players more n row [] = Ok []
read_players zero n row (b ∷ bytes) = read_nothing row (b ∷ bytes) >>= λ done. Ok []
read_players (suc more) n row (b ∷ bytes) = do
  head ← read_line row (told_player_line n) (b ∷ bytes)
  session ← read_telling (row + 1) head.1
  others ← read_players more (n + 1) (row + 1 + line_count session.0) session.1
  Ok (session.0 ∷ others)

-- the first byte is that of the word `player`
abbrev pub begins_players : Text → Bool
begins_players [] = false
begins_players (b ∷ bytes) = b == 112

-- the sessions that the bytes spell, or the first bad line
unfoldable pub sheet_of : Text → Result Tellings Refusal
sheet_of bytes = if begins_players bytes then (read_players most_players 1 1 bytes >>= λ ss. Ok (record { joint = true; sessions = ss })) else read_alone bytes

-- how many sessions a text can tell of: one alone, or some players
abbrev pub IsCount : Bool → ℕ → Type 0
IsCount true count = (1 ≤ count) × (count ≤ most_players)
IsCount false count = count ≡ 1

-- sessions that have a text
pub record HasToldText (s : Tellings) : Type 0 where
  pub count : IsCount s.joint (length s.sessions)
  pub sessions : All IsTelling s.sessions
