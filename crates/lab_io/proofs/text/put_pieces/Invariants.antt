use Rattle.std.proofs.Common.{drop, Result}
use Rattle.lab_io.specs.Sink.{Puts, Seen}
use Rattle.lab_io.specs.Piece.{pieces_text}
use Rattle.lab_io.specs.declared.PutErr.{PutErr}
use Rattle.lab_io.proofs.text.put_pieces.Given as goal

-- what puts the rest puts it all
abbrev pub invariant-loop-piece : goal.invariant-loop-piece
invariant-loop-piece g l = (end : Seen) (answer : Result (Unit {0}) PutErr) → Puts (g.O.Sink.seen l.out) (pieces_text (drop l.piece-index l.pieces)) end answer
    → Puts (g.O.Sink.seen l.fn.out) (pieces_text l.fn.pieces) end answer
