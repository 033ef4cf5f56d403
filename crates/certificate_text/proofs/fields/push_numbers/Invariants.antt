use Rattle.std.proofs.Common.{◌≡◌, ◌-◌}
use Rattle.certificate_text.specs.Fields.{numbers_behind, read_numbers}
use Rattle.certificate_text.proofs.fields.push_numbers.Given as goal

-- the numbers so far, and those that are still read
abbrev pub invariant-loop-i : goal.invariant-loop-i
invariant-loop-i l = numbers_behind l.into.items (read_numbers l.row l.digits (l.count - l.i) l.rest) ≡ numbers_behind l.fn.into.items (read_numbers l.row l.digits l.count l.bytes)
