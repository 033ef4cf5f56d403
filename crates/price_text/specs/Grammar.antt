-- The lines of a certificate by prices that other certificates don't have: the form of each, for those who write it and those who read it.
use Rattle.std.specs.Prelude.{codes}
use Rattle.certificate_text.specs.Line.{Line, ends, known, number, within, word}
use Rattle.price_bounds.specs.Windows.{most_windows}
use Rattle.price_text.specs.Form.{price_digits, segment_digits}

-- the first line
abbrev pub prices_line : Line
prices_line = word (codes "abrlab") (word (codes "prices") (known 1 ends))

-- the number of windows
abbrev pub windows_line : Line
windows_line = word (codes "windows") (within 0 most_windows ends)

-- a window: its first segment, its last segment and its price
abbrev pub window_line : Line
window_line = number segment_digits (number segment_digits (number price_digits ends))
