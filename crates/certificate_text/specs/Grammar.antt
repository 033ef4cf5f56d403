-- The lines of a certificate: the form of each, for those who write it and those who read it.
use Rattle.std.specs.Prelude.{ℕ, codes}
use Rattle.lab_model.specs.Film.{most_rungs, most_segments}
use Rattle.lab_io.specs.Sink.{Text}
use Rattle.labels.specs.Form.{label_digits, place_digits, rung_digits, score_digits}
use Rattle.certificate_text.specs.Line.{Line, ends, known, number, numbers, signed, within, word}

-- a line of a word and a number from 1 to the most
abbrev pub count_line : Text → ℕ → Line
count_line text most = word text (within 1 most ends)

-- a line of a word and so many numbers of at most so many digits
abbrev pub list_line : Text → ℕ → ℕ → Line
list_line text count digits = word text (numbers count digits)

-- the first line, which tells the version
abbrev pub version_line : Line
version_line = word (codes "abrlab") (count_line (codes "certificate") 2)

-- the number of segments
abbrev pub segments_line : Line
segments_line = count_line (codes "segments") most_segments

-- the number of rungs
abbrev pub rungs_line : Line
rungs_line = count_line (codes "rungs") most_rungs

-- the line of version 2 behind its counts
abbrev pub table_line : Line
table_line = word (codes "utilities") (word (codes "table") ends)

-- a line of a word and a number of thousandths of a point
abbrev pub amount_line : Text → Line
amount_line text = word text (signed score_digits ends)

-- the score
abbrev pub score_line : Line
score_line = amount_line (codes "score")

-- the rung list
abbrev pub plan_line : ℕ → Line
plan_line segments = list_line (codes "plan") segments rung_digits

-- the starts
abbrev pub start_line : ℕ → Line
start_line rungs = list_line (codes "start") rungs place_digits

-- the line before the labels of the chain of a segment and a rung: how many they are
abbrev pub layer_line : ℕ → ℕ → Line
layer_line segment rung = word (codes "layer") (known segment (known rung (number place_digits ends)))

-- a label with so many names: its instant, its delay, its value and its names
abbrev pub label_line : ℕ → Line
label_line per = number label_digits (number label_digits (signed label_digits (numbers per place_digits)))

-- the last line
abbrev pub end_line : Line
end_line = word (codes "end") ends

-- the first of the two lines that stand before the others in a gap certificate
abbrev pub gap_line : Line
gap_line = word (codes "abrlab") (word (codes "gap") (known 1 ends))

-- the second: the bound
abbrev pub gap_bound_line : Line
gap_bound_line = amount_line (codes "bound")
