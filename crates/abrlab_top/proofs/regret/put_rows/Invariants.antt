use Rattle.std.proofs.Common.{drop, map, Result}
use Rattle.lab_io.specs.declared.PutErr.{PutErr}
use Rattle.lab_io.specs.Sink.{Puts, Seen}
use Rattle.lab_words.specs.Command.{named}
use Rattle.abrlab_top.specs.Regret.{rows_of}
use Rattle.abrlab_top.proofs.regret.put_rows.Given as goal

-- what puts the rows that are left puts them all
abbrev pub invariant-loop-index : goal.invariant-loop-index
invariant-loop-index g l = (end : Seen) (answer : Result (Unit {0}) PutErr) → Puts (g.O.Sink.seen l.out) (rows_of l.fn.by (map named (drop l.index l.fn.rules)) (drop l.index l.fn.scored.scores.items) l.fn.scored.top) end answer
    → Puts (g.O.Sink.seen l.fn.out) (rows_of l.fn.by (map named l.fn.rules) l.fn.scored.scores.items l.fn.scored.top) end answer
