use Rattle.std.proofs.Common.{drop, map, Result}
use Rattle.lab_model.specs.Film.{rungs_of, segments_of}
use Rattle.lab_io.specs.Sink.{Puts, Seen}
use Rattle.lab_io.specs.declared.PutErr.{PutErr}
use Rattle.labels.specs.Parts.{chain_parts}
use Rattle.certificate_text.specs.Spelling.{chains_lines, lines_text}
use Rattle.certificate_text.proofs.writer.put_chains.Given as goal

-- what puts the rest puts it all
abbrev pub invariant-loop-number : goal.invariant-loop-number
invariant-loop-number g l = (end : Seen) (answer : Result (Unit {0}) PutErr)
    → Puts (g.O.Sink.seen l.out) (lines_text (chains_lines (segments_of l.fn.film) (rungs_of l.fn.film) l.number (map chain_parts (drop l.number l.chains)))) end answer
    → Puts (g.O.Sink.seen l.fn.out) (lines_text (chains_lines (segments_of l.fn.film) (rungs_of l.fn.film) 0 (map chain_parts l.fn.chains))) end answer
