use Rattle.std.proofs.Common.{drop, map, Result}
use Rattle.lab_io.specs.Sink.{Puts, Seen}
use Rattle.lab_io.specs.Piece.{later_fields, piece_text}
use Rattle.lab_io.specs.declared.PutErr.{PutErr}
use Rattle.lab_io.proofs.text.put_later_fields.Given as goal

-- what puts the rest puts it all
abbrev pub invariant-loop-field : goal.invariant-loop-field
invariant-loop-field g l = (end : Seen) (answer : Result (Unit {0}) PutErr) → Puts (g.O.Sink.seen l.out) (later_fields (map piece_text (drop l.field-index l.fields))) end answer
    → Puts (g.O.Sink.seen l.fn.out) (later_fields (map piece_text l.fn.fields)) end answer
