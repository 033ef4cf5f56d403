-- The lines of a session's text: the form of each.
use Rattle.std.specs.Prelude.{ℕ, codes}
use Rattle.lab_io.specs.Sink.{Text}
use Rattle.labels.specs.Form.{rung_digits}
use Rattle.certificate_text.specs.Line.{Line, ends, known, number, word}

-- the digits of an instant, or of a time, in milliseconds
abbrev pub time_digits : ℕ
time_digits = 15

-- the digits of a segment's number
abbrev pub segment_digits : ℕ
segment_digits = 4

-- the digits of the bits of one download, or of a number of stalls
abbrev pub part_digits : ℕ
part_digits = 9

-- the digits of the bits of many downloads, or of a rate
abbrev pub bits_digits : ℕ
bits_digits = 18

-- a line of an event: its instant, and what is behind it
abbrev pub at_line : Line → Line
at_line = number time_digits

-- a line of an event that names a segment and a rung
abbrev pub download_line : Text → Line → Line
download_line text more = at_line (word text (number segment_digits (number rung_digits more)))

-- a request
abbrev pub request_line : Line
request_line = download_line (codes "request") ends

-- an arrival
abbrev pub arrive_line : Line
arrive_line = download_line (codes "arrive") (word (codes "first") (number time_digits (word (codes "rate") (number bits_digits ends))))

-- an abandonment
abbrev pub abandon_line : Line
abandon_line = download_line (codes "abandon") (word (codes "to") (number rung_digits (word (codes "got") (number part_digits ends))))

-- a seek
abbrev pub seek_line : Line
seek_line = at_line (word (codes "seek") (number segment_digits (word (codes "wasted") (number bits_digits ends))))

-- a segment that begins to play
abbrev pub play_line : Line
play_line = download_line (codes "play") ends

-- a stall that begins
abbrev pub stall_line : Line
stall_line = at_line (word (codes "stall") ends)

-- the end of the events
abbrev pub end_event_line : Line
end_event_line = at_line (word (codes "end") ends)

-- a counter: its word and a number of at most so many digits; the last counter has certificates' `score_line`
abbrev pub counter_line : Text → ℕ → Line
counter_line text digits = word text (number digits ends)

-- the line before the session of a player, who has this number
abbrev pub told_player_line : ℕ → Line
told_player_line n = word (codes "player") (known n ends)
