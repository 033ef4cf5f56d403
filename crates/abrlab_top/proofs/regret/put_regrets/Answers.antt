use Rattle.std.specs.List.{flat_map}
use Rattle.lab_io.proofs.Puts.{puts_failed, puts_more}
use Rattle.abrlab_top.specs.Regret.{networks_rows, sums_row, tops_of}
use Rattle.abrlab_top.proofs.regret.put_regrets.Goals as goal

pub returns-in_err-put_networks : goal.returns-in_err-put_networks
returns-in_err-put_networks g c =
    let i = c.args.inputs.now in
    let tops = tops_of c.args.table.now in
    puts_failed _ _ (networks_rows c.args.by i i.networks tops) (flat_map (sums_row c.args.by i tops) i.rules) _ c.from_residual.result _ c.in_err-put_networks.was c.from_residual.ensures.1 c.put_networks.ensures

pub returns : goal.returns
returns g c =
    let i = c.args.inputs.now in
    let tops = tops_of c.args.table.now in
    puts_more _ _ _ (networks_rows c.args.by i i.networks tops) (flat_map (sums_row c.args.by i tops) i.rules) _ _ _ c.in_ok-put_networks.was c.put_networks.ensures c.put_totals.ensures
