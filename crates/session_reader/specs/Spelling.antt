-- The text of what is told: its lines, each with its fields.
use Rattle.std.specs.Prelude.{ℕ, ◌+◌, List, [], ◌∷◌, ◌++◌, Bool, true, false, codes, map}
use Rattle.lab_io.specs.Sink.{Text}
use Rattle.session_report.specs.Session.{event_fields}
use Rattle.certificate_text.specs.Grammar.{score_line}
use Rattle.certificate_text.specs.Line.{fields_of}
use Rattle.certificate_text.specs.Spelling.{lines_text}
use Rattle.session_reader.specs.declared.told.Counters.{Counters}
use Rattle.session_reader.specs.Form.{Telling, Tellings}
use Rattle.session_reader.specs.Grammar.{bits_digits, counter_line, part_digits, told_player_line, time_digits}

-- a counter
abbrev pub told_counter : Text → ℕ → ℕ → List Text
told_counter text digits n = fields_of (counter_line text digits) (n, tt)

-- the lines of the counters
abbrev pub told_counters : Counters → List (List Text)
told_counters c =
    told_counter (codes "startup") time_digits c.startup_ms
    ∷ told_counter (codes "stall") time_digits c.stall_ms
    ∷ told_counter (codes "stalls") part_digits c.stalls
    ∷ told_counter (codes "seeking") time_digits c.seek_ms
    ∷ told_counter (codes "wasted") bits_digits c.wasted_bits
    ∷ told_counter (codes "end") time_digits c.end
    ∷ fields_of score_line (c.score, tt)
    ∷ []

-- the text of a session: a line for each event in order, and then one for each counter
abbrev pub telling_text : Telling → Text
telling_text t = lines_text (map event_fields t.events) ++ lines_text (told_counters t.counters)

-- the texts of players, the first of whom has this number: of each its line and the text of its session
abbrev pub told_players_text : ℕ → List Telling → Text
told_players_text n [] = []
told_players_text n (t ∷ ts) = lines_text (fields_of (told_player_line n) tt ∷ []) ++ (telling_text t ++ told_players_text (n + 1) ts)

-- the texts of sessions, one behind the other
abbrev pub tellings_text : List Telling → Text
tellings_text [] = []
tellings_text (t ∷ ts) = telling_text t ++ tellings_text ts

-- the text of sessions: of players, each under its number, or of one alone
abbrev pub text_by : Bool → List Telling → Text
text_by true ts = told_players_text 1 ts
text_by false ts = tellings_text ts

-- the text of a sheet
unfoldable pub sheet_text : Tellings → Text
sheet_text s = text_by s.joint s.sessions
