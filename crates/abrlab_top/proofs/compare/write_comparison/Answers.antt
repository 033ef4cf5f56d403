use Rattle.std.proofs.Common.{ap}
use Rattle.std.specs.List.{flat_map}
use Rattle.abrlab_top.specs.Compare.{compare, network_rows}
use Rattle.abrlab_top.specs.Stages.{row_by_row}
use Rattle.abrlab_top.proofs.Networks.{compare_stopped, compared}
use Rattle.abrlab_top.proofs.RowByRow.{rows_as, rows_done, rows_ended}
use Rattle.abrlab_top.proofs.Whole.{all_settled, exit, settings_stop, unsettled}
use Rattle.abrlab_top.proofs.compare.write_comparison.Goals as goal

pub returns-in_err-fit : goal.returns-in_err-fit
returns-in_err-fit g c =
    let i = c.args.inputs.now in
    let stop = unsettled i c.fit.result _ c.in_err-fit.was c.fit.ensures in
    exit row_by_row (compare i) _ _ c.from_residual.result _ c.from_residual.ensures.1 (settings_stop row_by_row i (compare i) _ _ stop (compare_stopped i _ stop))

pub write_networks-requires : goal.write_networks-requires
write_networks-requires g c = record { fits = (all_settled c.args.inputs.now c.fit.result _ c.in_ok-fit.was c.fit.ensures).1 }

pub returns-in_err-write_networks : goal.returns-in_err-write_networks
returns-in_err-write_networks g c =
    let i = c.args.inputs.now in
    let done = all_settled i c.fit.result _ c.in_ok-fit.was c.fit.ensures in
    exit row_by_row (compare i) _ _ c.from_residual-in_err-write_networks.result _ c.from_residual-in_err-write_networks.ensures.1
    (rows_ended (compare i) (flat_map (network_rows i) i.networks) _ _ c.write_networks.result _ (compared i done.0) c.in_err-write_networks.was (rows_as _ _ _ _ _ (ap (flat_map (network_rows i)) c.networks.ensures.value) c.write_networks.ensures))

pub returns : goal.returns
returns g c =
    let i = c.args.inputs.now in
    let done = all_settled i c.fit.result _ c.in_ok-fit.was c.fit.ensures in
    rows_done (compare i) (flat_map (network_rows i) i.networks) _ _ c.write_networks.result _ (compared i done.0) c.in_ok-write_networks.was (rows_as _ _ _ _ _ (ap (flat_map (network_rows i)) c.networks.ensures.value) c.write_networks.ensures)
