use Rattle.std.proofs.Common.{drop, map, Result}
use Rattle.lab_io.specs.declared.PutErr.{PutErr}
use Rattle.lab_io.specs.Sink.{Puts, Seen}
use Rattle.lab_inputs.specs.Stages.{network_of}
use Rattle.abrlab_top.specs.Regret.{networks_rows, tops_of}
use Rattle.abrlab_top.proofs.regret.put_networks.Given as goal

-- what puts the networks that are left puts them all
abbrev pub invariant-loop-index : goal.invariant-loop-index
invariant-loop-index g l = (end : Seen) (answer : Result (Unit {0}) PutErr) → Puts (g.O.Sink.seen l.out) (networks_rows l.fn.by l.fn.inputs (map network_of (drop l.index l.networks)) (tops_of (drop l.index l.fn.table))) end answer
    → Puts (g.O.Sink.seen l.fn.out) (networks_rows l.fn.by l.fn.inputs l.fn.inputs.networks (tops_of l.fn.table)) end answer
