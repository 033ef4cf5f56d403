-- The text of a session, and its row in a comparison.
use Rattle.std.specs.Prelude.{◌≤◌, List, [], ◌∷◌, ◌++◌, codes, ℤ, pos}
use Rattle.std.specs.List.{flat_map}
use Rattle.std.specs.Fmt.{decimal, signed_decimal}
use Rattle.lab_io.specs.Sink.{Text}
use Rattle.lab_io.specs.Piece.{fields_line}
use Rattle.lab_model.specs.Weighing.{Weighing}
use Rattle.quality_score.specs.Score.{CanScore, score_of}
use Rattle.player_core.specs.Session.{Shown}
use Rattle.player_core.specs.declared.session.Event.{Event}
use Rattle.player_core.specs.declared.session.Event.TheVariants as event

-- the fields of an event: its instant, its word and its numbers
abbrev pub event_fields : Event → List Text
event_fields (event.Request at segment rung) = decimal at ∷ codes "request" ∷ decimal segment ∷ decimal rung ∷ []
event_fields (event.Arrive at segment rung first rate) = decimal at ∷ codes "arrive" ∷ decimal segment ∷ decimal rung ∷ codes "first" ∷ decimal first ∷ codes "rate" ∷ decimal rate ∷ []
event_fields (event.Abandon at segment rung to got) = decimal at ∷ codes "abandon" ∷ decimal segment ∷ decimal rung ∷ codes "to" ∷ decimal to ∷ codes "got" ∷ decimal got ∷ []
event_fields (event.Seek at to wasted) = decimal at ∷ codes "seek" ∷ decimal to ∷ codes "wasted" ∷ decimal wasted ∷ []
event_fields (event.Play at segment rung) = decimal at ∷ codes "play" ∷ decimal segment ∷ decimal rung ∷ []
event_fields (event.Stall at) = decimal at ∷ codes "stall" ∷ []
event_fields (event.End at) = decimal at ∷ codes "end" ∷ []

-- the score of a session
abbrev pub session_score : Shown → Weighing → ℤ
session_score s w = score_of w s.played s.stall_ms s.startup_ms

-- the session can be scored: each played segment has a utility, there are at most 40000, and no time is above 10^15
pub record CanReport (s : Shown) (w : Weighing) : Type 0 where
  pub played : CanScore w s.played
  pub stall : s.stall_ms ≤ 1000000000000000
  pub startup : s.startup_ms ≤ 1000000000000000

-- the seven counters of a session, each with its word
abbrev pub counters : Shown → ℤ → List (Text × ℤ)
counters s score =
    (codes "startup", pos s.startup_ms)
    ∷ (codes "stall", pos s.stall_ms)
    ∷ (codes "stalls", pos s.stalls)
    ∷ (codes "seeking", pos s.seek_ms)
    ∷ (codes "wasted", pos s.wasted_bits)
    ∷ (codes "end", pos s.ended)
    ∷ (codes "score", score)
    ∷ []

-- a counter: its word and its number
abbrev pub counter_fields : Text × ℤ → List Text
counter_fields counter = counter.0 ∷ signed_decimal counter.1 ∷ []

-- the counters, each in a line
abbrev pub counter_lines : Shown → ℤ → Text
counter_lines s score = flat_map (λ c. fields_line (counter_fields c)) (counters s score)

-- the text of a session: a line for each event in order, then one for each counter
abbrev pub session_text : Shown → Weighing → Text
session_text s w = flat_map (λ e. fields_line (event_fields e)) s.events ++ counter_lines s (session_score s w)

-- the row of a rule in a comparison: its name and the counters, in one line
abbrev pub comparison_row : Text → Shown → Weighing → Text
comparison_row name s w = fields_line (codes "rule" ∷ name ∷ flat_map counter_fields (counters s (session_score s w)))
