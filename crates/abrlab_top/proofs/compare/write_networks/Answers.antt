use Rattle.std.proofs.Common.{refl, sym}
use Rattle.lab_inputs.specs.Stages.{network_of}
use Rattle.abrlab_top.specs.Compare.{network_rows}
use Rattle.abrlab_top.proofs.RowByRow.{rows_as, rows_end, rows_failed, rows_from, rows_more, rows_none}
use Rattle.abrlab_top.proofs.compare.write_networks.Goals as goal

pub loop-network-preserved : goal.loop-network-preserved
loop-network-preserved g c = λ end answer h.
    c.loop-network.invariant end answer (rows_as _ _ _ _ _ (sym (rows_from (network_rows c.args.inputs.now) network_of c.args.networks.now c.loop-network.network-index c.network-item.result c.loop-network-test.true c.network-item.is))
    (rows_more _ _ _ _ _ _ _ _ c.in_ok-write_network.was c.write_network.ensures h))

pub returns-in_err-write_network : goal.returns-in_err-write_network
returns-in_err-write_network g c =
    c.loop-network.invariant _ _ (rows_as _ _ _ _ _ (sym (rows_from (network_rows c.args.inputs.now) network_of c.args.networks.now c.loop-network.network-index c.network-item.result c.loop-network-test.true c.network-item.is))
    (rows_failed _ _ _ _ _ c.from_residual.result _ c.in_err-write_network.was c.from_residual.ensures.1 c.write_network.ensures))

pub returns : goal.returns
returns g c = c.loop-network.invariant _ _ (rw (rows_end (network_rows c.args.inputs.now) network_of c.args.networks.now c.loop-network.network-index c.loop-network-test.false) (rows_none _ _ refl))
