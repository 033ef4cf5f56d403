use Rattle.std.proofs.Common.{drop, map, Result}
use Rattle.std.specs.List.{flat_map}
use Rattle.lab_io.specs.declared.PutErr.{PutErr}
use Rattle.lab_io.specs.Sink.{Seen}
use Rattle.lab_inputs.specs.Stages.{network_of}
use Rattle.abrlab_top.specs.Compare.{network_rows}
use Rattle.abrlab_top.specs.Stages.{WritesRows}
use Rattle.abrlab_top.proofs.compare.write_networks.Given as goal

-- what writes the networks that are left writes them all
abbrev pub invariant-loop-network : goal.invariant-loop-network
invariant-loop-network g l = (end : Seen) (answer : Result (Unit {0}) PutErr) → WritesRows (g.O.Sink.seen l.out) (flat_map (network_rows l.fn.inputs) (map network_of (drop l.network-index l.fn.networks))) answer end
    → WritesRows (g.O.Sink.seen l.fn.out) (flat_map (network_rows l.fn.inputs) (map network_of l.fn.networks)) answer end
