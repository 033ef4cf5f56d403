use Rattle.std.proofs.Common.{drop, map, Result}
use Rattle.std.specs.Fmt.{decimal}
use Rattle.lab_io.specs.Piece.{later_fields}
use Rattle.lab_io.specs.Sink.{Puts, Seen}
use Rattle.lab_io.specs.declared.PutErr.{PutErr}
use Rattle.certificate_text.proofs.writer.put_numbers.Given as goal

-- what puts the rest puts it all
abbrev pub invariant-loop-number : goal.invariant-loop-number
invariant-loop-number g l = (end : Seen) (answer : Result (Unit {0}) PutErr) → Puts (g.O.Sink.seen l.out) (later_fields (map decimal (drop l.number-index l.numbers))) end answer
    → Puts (g.O.Sink.seen l.fn.out) (later_fields (map decimal l.fn.numbers)) end answer
