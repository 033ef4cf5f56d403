use Rattle.std.proofs.Common.{drop, map, Result}
use Rattle.std.specs.List.{flat_map}
use Rattle.lab_io.specs.declared.PutErr.{PutErr}
use Rattle.lab_io.specs.Sink.{Seen}
use Rattle.lab_words.specs.Command.{named}
use Rattle.abrlab_top.specs.Rows.{session_row}
use Rattle.abrlab_top.specs.Stages.{WritesRows}
use Rattle.abrlab_top.proofs.row.Bench.write_rows.Given as goal

-- what writes the rest writes it all
abbrev pub invariant-loop-rule : goal.invariant-loop-rule
invariant-loop-rule g l = (end : Seen) (answer : Result (Unit {0}) PutErr) → WritesRows (g.O.Sink.seen l.out) (flat_map (session_row l.fn.self) (map named (drop l.rule-index l.fn.rules))) answer end
    → WritesRows (g.O.Sink.seen l.fn.out) (flat_map (session_row l.fn.self) (map named l.fn.rules)) answer end
