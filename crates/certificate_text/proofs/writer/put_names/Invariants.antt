use Rattle.std.proofs.Common.{drop, map, Result}
use Rattle.std.specs.Fmt.{decimal}
use Rattle.lab_io.specs.Batch.{Gathers}
use Rattle.lab_io.specs.Piece.{later_fields}
use Rattle.lab_io.specs.Sink.{Seen, Text}
use Rattle.lab_io.specs.declared.PutErr.{PutErr}
use Rattle.certificate_text.proofs.writer.put_names.Given as goal

-- what puts the rest puts it all
abbrev pub invariant-loop-name : goal.invariant-loop-name
invariant-loop-name g l = (end : Seen) (left : Text) (answer : Result (Unit {0}) PutErr) → Gathers (g.O.Sink.seen l.out) l.batch (later_fields (map decimal (drop l.name-index l.names))) end left answer
    → Gathers (g.O.Sink.seen l.fn.out) l.fn.batch (later_fields (map decimal l.fn.names)) end left answer
