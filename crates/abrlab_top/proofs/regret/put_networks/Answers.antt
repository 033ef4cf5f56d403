use Rattle.std.proofs.Common.{◌<◌, ap, refl, subst, sym}
use Rattle.lab_io.proofs.Puts.{puts_as, puts_failed, puts_more, puts_none}
use Rattle.abrlab_top.specs.Regret.{networks_rows, tops_of}
use Rattle.abrlab_top.proofs.Regrets.{at_place, networks_next, networks_over, ranked_at, table_count}
use Rattle.abrlab_top.proofs.regret.put_networks.Goals as goal

pub loop-index-init : goal.loop-index-init
loop-index-init g c = λ end answer h. puts_as _ _ _ _ _ (ap (λ ns. networks_rows c.args.by c.args.inputs.now ns (tops_of c.args.table.now)) c.networks-networks.ensures.value) h

pub bounds-table-index : goal.bounds-table-index
bounds-table-index g c =
    let count = table_count c.args.inputs.now c.networks-networks.result.now c.args.table.now c.networks-networks.ensures.value c.requires.table.values in
    subst (λ n. c.loop-index.index < n) (sym count) c.loop-index-test.true

pub put_network-requires-clause-scored : goal.put_network-requires-clause-scored
put_network-requires-clause-scored g c =
    at_place c.args.inputs.now c.networks-networks.result.now c.args.table.now c.loop-index.index c.index-networks-index.result _ c.networks-networks.ensures.value c.requires.table.values c.loop-index-test.true c.index-networks-index.is c.index-table-index.is

pub put_network-requires-clause-ranked : goal.put_network-requires-clause-ranked
put_network-requires-clause-ranked g c =
    let count = table_count c.args.inputs.now c.networks-networks.result.now c.args.table.now c.networks-networks.ensures.value c.requires.table.values in
    ranked_at c.args.table.now c.loop-index.index _ (subst (λ n. c.loop-index.index < n) (sym count) c.loop-index-test.true) c.index-table-index.is c.requires.table.ranked

pub loop-index-preserved : goal.loop-index-preserved
loop-index-preserved g c = λ end answer h.
    let count = table_count c.args.inputs.now c.networks-networks.result.now c.args.table.now c.networks-networks.ensures.value c.requires.table.values in
    c.loop-index.invariant end answer
    (puts_as _ _ _ _ _
    (sym (networks_next c.args.by c.args.inputs.now c.networks-networks.result.now c.args.table.now c.loop-index.index c.index-networks-index.result _ c.loop-index-test.true c.index-networks-index.is
    (subst (λ n. c.loop-index.index < n) (sym count) c.loop-index-test.true) c.index-table-index.is))
    (puts_more _ _ _ _ _ _ _ _ c.in_ok-put_network.was c.put_network.ensures h))

pub returns-in_err-put_network : goal.returns-in_err-put_network
returns-in_err-put_network g c =
    let count = table_count c.args.inputs.now c.networks-networks.result.now c.args.table.now c.networks-networks.ensures.value c.requires.table.values in
    c.loop-index.invariant _ _
    (puts_as _ _ _ _ _
    (sym (networks_next c.args.by c.args.inputs.now c.networks-networks.result.now c.args.table.now c.loop-index.index c.index-networks-index.result _ c.loop-index-test.true c.index-networks-index.is
    (subst (λ n. c.loop-index.index < n) (sym count) c.loop-index-test.true) c.index-table-index.is))
    (puts_failed _ _ _ _ _ c.from_residual.result _ c.in_err-put_network.was c.from_residual.ensures.1 c.put_network.ensures))

pub returns : goal.returns
returns g c = c.loop-index.invariant _ _ (rw (networks_over c.args.by c.args.inputs.now c.networks-networks.result.now c.args.table.now c.loop-index.index c.loop-index-test.false) (puts_none _ _ refl))
