-- What the bytes of a certificate by prices stand for, or their first bad line.
use Rattle.std.specs.Prelude.{ℕ, zero, suc, ◌+◌, List, [], ◌∷◌, ◌++◌, Result, Ok}
use Rattle.lab_model.specs.Steps.{◌>>=◌}
use Rattle.lab_model.specs.declared.fault.Refusal.{Refusal}
use Rattle.lab_io.specs.Sink.{Text}
use Rattle.certificate_text.specs.Fields.{Read}
use Rattle.certificate_text.specs.Line.{read_line}
use Rattle.certificate_text.specs.Grammar.{gap_bound_line, plan_line, rungs_line, score_line, segments_line}
use Rattle.certificate_text.specs.Reading.{read_last}
use Rattle.price_bounds.specs.declared.window.Window.{Window}
use Rattle.price_bounds.specs.Verdict.{PriceParts}
use Rattle.price_text.specs.Grammar.{prices_line, window_line, windows_line}
use Rattle.price_text.specs.declared.reader.Counts as reader

-- ---- the lines before the windows

-- segments and rungs
pub record Counts : Type 0 where
  pub segments : ℕ
  pub rungs : ℕ

-- the same of the code's
abbrev pub counts_of : reader.Counts → Counts
counts_of c = record { segments = c.segments; rungs = c.rungs }

-- the first lines: the form and the counts
unfoldable pub counts_at : Text → Read Counts
counts_at bytes = do
  first ← read_line 1 prices_line bytes
  segments ← read_line 2 segments_line first.1
  rungs ← read_line 3 rungs_line segments.1
  Ok (record { segments = segments.0.0; rungs = rungs.0.0 }, rungs.1)

-- all lines before the windows: a certificate that has no windows yet
unfoldable pub head_at : Text → Read PriceParts
head_at bytes = do
  counts ← counts_at bytes
  score ← read_line 4 score_line counts.1
  bound ← read_line 5 gap_bound_line score.1
  plan ← read_line 6 (plan_line counts.0.segments) bound.1
  Ok (record { segments = counts.0.segments; rungs = counts.0.rungs; score = score.0.0; bound = bound.0.0; plan = plan.0; windows = [] }, plan.1)

-- ---- the windows

-- the line of a window
unfoldable pub window_at : ℕ → Text → Read Window
window_at row bytes = do
  values ← read_line row window_line bytes
  Ok (record { first = values.0.0; last = values.0.1.0; price = values.0.1.1.0 }, values.1)

-- the lines of so many windows
unfoldable pub windows_at : ℕ → ℕ → Text → Read (List Window)
windows_at row zero bytes = Ok ([], bytes)
windows_at row (suc more) bytes = do
  one ← window_at row bytes
  others ← windows_at (row + 1) more one.1
  Ok (one.0 ∷ others.0, others.1)

-- windows that were read before, and then those that are read
abbrev pub behind : List Window → Read (List Window) → Read (List Window)
behind before read = read >>= λ ws. Ok (before ++ ws.0, ws.1)

-- ---- the whole

-- the number of the line that tells how many windows follow it
abbrev pub windows_row : ℕ
windows_row = 7

-- the certificate that the bytes spell, or the first bad line
unfoldable pub prices_of : Text → Result PriceParts Refusal
prices_of bytes = do
  head ← head_at bytes
  count ← read_line windows_row windows_line head.1
  windows ← windows_at (windows_row + 1) count.0.0 count.1
  done ← read_last (windows_row + 1 + count.0.0) windows.1
  Ok (record head.0 { windows = windows.0 })
