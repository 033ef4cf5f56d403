-- The text of a certificate by prices: its lines, each with its fields.
use Rattle.std.specs.Prelude.{List, [], ◌∷◌, ◌++◌, length, map}
use Rattle.lab_io.specs.Sink.{Text}
use Rattle.certificate_text.specs.Line.{fields_of}
use Rattle.certificate_text.specs.Grammar.{end_line, gap_bound_line, plan_line, rungs_line, score_line, segments_line}
use Rattle.certificate_text.specs.Spelling.{lines_text}
use Rattle.price_bounds.specs.declared.window.Window.{Window}
use Rattle.price_bounds.specs.Verdict.{PriceParts}
use Rattle.price_text.specs.Grammar.{prices_line, window_line, windows_line}

-- the line of a window
abbrev pub window_fields : Window → List Text
window_fields w = fields_of window_line (w.first, (w.last, (w.price, tt)))

-- the first lines: the form and the counts
abbrev pub count_lines : PriceParts → List (List Text)
count_lines c = fields_of prices_line tt ∷ fields_of segments_line (c.segments, tt) ∷ fields_of rungs_line (c.rungs, tt) ∷ []

-- the lines behind them: the score, the bound and the rung list
abbrev pub value_lines : PriceParts → List (List Text)
value_lines c = fields_of score_line (c.score, tt) ∷ fields_of gap_bound_line (c.bound, tt) ∷ fields_of (plan_line c.segments) c.plan ∷ []

-- the lines of the windows: how many they are, and one for each
abbrev pub window_lines : List Window → List (List Text)
window_lines ws = fields_of windows_line (length ws, tt) ∷ map window_fields ws

-- all lines of a certificate
abbrev pub price_lines : PriceParts → List (List Text)
price_lines c = count_lines c ++ (value_lines c ++ (window_lines c.windows ++ (fields_of end_line tt ∷ [])))

-- the text of a certificate
unfoldable pub prices_text : PriceParts → Text
prices_text c = lines_text (price_lines c)
