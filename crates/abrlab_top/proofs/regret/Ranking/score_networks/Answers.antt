use Rattle.std.proofs.Common.{ap, map, sym}
use Rattle.std.proofs.lemmas.List.Elements.{All-nil, All-push}
use Rattle.abrlab_top.specs.Regret.{AreRanked, first_spent, seen_scored}
use Rattle.abrlab_top.proofs.Regrets.{all_scored, networks_seen, spent_here, spent_later, table_more, top_more, unspent_err, unspent_exit, unspent_wanting}
use Rattle.abrlab_top.proofs.regret.Ranking.score_networks.Goals as goal

pub loop-index-init : goal.loop-index-init
loop-index-init c =
    let i = c.args.self.now.inputs in
    record {
      spent = ap (first_spent i c.args.self.now.budget 1) (sym (networks_seen i c.inputs.result.now c.networks-networks.result.now c.inputs.ensures.value c.networks-networks.ensures.value));
      values = ap (map seen_scored) c.new-table.ensures.items;
      ranked = rw c.new-table.ensures.items (All-nil AreRanked);
      tops = rw c.new-table.ensures.items tt;
    }

pub returns-in_err-scored : goal.returns-in_err-scored
returns-in_err-scored c =
    let i = c.args.self.now.inputs in
    unspent_exit _ _ c.from_residual.result _ c.from_residual.ensures.1
    (spent_here i c.args.self.now.budget c.loop-index.index c.networks-networks.result.now c.index-networks-index.result _ _ c.loop-index-test.true c.index-networks-index.is c.loop-index.invariant.spent
    (unspent_err _ _ c.score_network.result _ c.in_err-scored.was c.score_network.ensures))

pub returns-in_err-push : goal.returns-in_err-push
returns-in_err-push c = unspent_wanting _ _ c.from_residual-in_err-push.result c.from_residual-in_err-push.ensures.1

pub loop-index-preserved : goal.loop-index-preserved
loop-index-preserved c =
    let i = c.args.self.now.inputs in
    let here = c.in_ok-scored.ensures in
    record {
      spent = spent_later i c.args.self.now.budget c.loop-index.index c.networks-networks.result.now c.index-networks-index.result _ c.loop-index-test.true c.index-networks-index.is c.loop-index.invariant.spent here.0;
      values = table_more i c.networks-networks.result.now c.loop-index.index c.index-networks-index.result c.loop-index.table.items _ c.in_ok-scored.scored c.loop-index-test.true c.index-networks-index.is c.in_ok-push.ensures.items c.loop-index.invariant.values here.1.0;
      ranked = rw c.in_ok-push.ensures.items (All-push AreRanked c.loop-index.table.items c.in_ok-scored.scored c.loop-index.invariant.ranked here.1.2);
      tops = top_more i c.args.self.now.budget c.networks-networks.result.now c.loop-index.index c.index-networks-index.result c.loop-index.table.items _ c.in_ok-scored.scored c.loop-index-test.true c.index-networks-index.is c.in_ok-push.ensures.items c.loop-index.invariant.tops here.1.1;
    }

pub returns : goal.returns
returns c =
    let i = c.args.self.now.inputs in
    all_scored i c.args.self.now.budget c.loop-index.index c.networks-networks.result.now c.loop-index.table.items (networks_seen i c.inputs.result.now c.networks-networks.result.now c.inputs.ensures.value c.networks-networks.ensures.value)
    c.networks-networks.ensures.few c.loop-index-test.false c.loop-index.invariant.spent c.loop-index.invariant.values c.loop-index.invariant.ranked c.loop-index.invariant.tops
