use Rattle.std.proofs.Common.{◌≡◌, ◌+◌, ◌-◌}
use Rattle.price_text.specs.Reading.{behind, windows_at}
use Rattle.price_text.proofs.reader.push_windows.Given as goal

-- the windows so far, and those that are still read
abbrev pub invariant-loop-i : goal.invariant-loop-i
invariant-loop-i l = behind l.into.items (windows_at (l.row + l.i) (l.count - l.i) l.rest) ≡ behind l.fn.into.items (windows_at l.row l.count l.bytes)
