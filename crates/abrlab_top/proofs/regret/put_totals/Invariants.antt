use Rattle.std.proofs.Common.{drop, map, Result}
use Rattle.std.specs.List.{flat_map}
use Rattle.lab_io.specs.declared.PutErr.{PutErr}
use Rattle.lab_io.specs.Sink.{Puts, Seen}
use Rattle.lab_words.specs.Command.{named}
use Rattle.abrlab_top.specs.Regret.{sums_row, tops_of}
use Rattle.abrlab_top.proofs.regret.put_totals.Given as goal

-- what puts the totals that are left puts them all
abbrev pub invariant-loop-index : goal.invariant-loop-index
invariant-loop-index g l = (end : Seen) (answer : Result (Unit {0}) PutErr) → Puts (g.O.Sink.seen l.out) (flat_map (sums_row l.fn.by l.fn.inputs (tops_of l.fn.table)) (map named (drop l.index l.rules))) end answer
    → Puts (g.O.Sink.seen l.fn.out) (flat_map (sums_row l.fn.by l.fn.inputs (tops_of l.fn.table)) l.fn.inputs.rules) end answer
