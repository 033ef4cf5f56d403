use Rattle.std.proofs.Common.{drop, map, Result}
use Rattle.std.specs.List.{flat_map}
use Rattle.lab_io.specs.Piece.{fields_line, piece_text}
use Rattle.lab_io.specs.Sink.{Puts, Seen}
use Rattle.lab_io.specs.declared.PutErr.{PutErr}
use Rattle.session_report.proofs.session.put_counters.Given as goal

-- what puts the rest puts it all
abbrev pub invariant-loop-counter : goal.invariant-loop-counter
invariant-loop-counter g l = (end : Seen) (answer : Result (Unit {0}) PutErr) → Puts (g.O.Sink.seen l.out) (flat_map (λ c. fields_line (map piece_text c)) (drop l.counter-index l.counters)) end answer
    → Puts (g.O.Sink.seen l.fn.out) (flat_map (λ c. fields_line (map piece_text c)) l.fn.counters) end answer
