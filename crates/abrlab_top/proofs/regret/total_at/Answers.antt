use Rattle.std.proofs.Common.{◌<◌, ap, map, rules, subst, sym, take, take_all}
use Rattle.std.specs.Int.{w128}
use Rattle.std.proofs.lemmas.Int.{to_z-of_z}
use Rattle.session_report.specs.Regret.{IsTotalOf}
use Rattle.abrlab_top.specs.Regret.{scores_at}
use Rattle.abrlab_top.proofs.Regrets.{ranked_at, score_ranked, scores_as, total_as, total_more, total_short, wide_at}
use Rattle.abrlab_top.proofs.regret.total_at.Goals as goal

pub index-requires : goal.index-requires
index-requires c =
    subst (λ n. c.args.rule < n) (sym c.scored-item.result.scores.ok.0) (wide_at c.args.table.now c.args.rule c.loop-scored.scored-index c.scored-item.result c.loop-scored-test.true c.scored-item.is c.requires.wide)

pub add-requires-clause-pair : goal.add-requires-clause-pair
add-requires-clause-pair c =
    let score = to_z-of_z w128 c.index.result.now (search rules) in
    let best = to_z-of_z w128 c.scored-item.result.top (search rules) in
    scores_as _ _ _ _ score best (score_ranked c.scored-item.result c.args.rule c.index.result.now (ranked_at c.args.table.now c.loop-scored.scored-index c.scored-item.result c.loop-scored-test.true c.scored-item.is c.requires.ranked)
    (wide_at c.args.table.now c.args.rule c.loop-scored.scored-index c.scored-item.result c.loop-scored-test.true c.scored-item.is c.requires.wide) c.index.ensures)

pub add-requires-clause-room : goal.add-requires-clause-room
add-requires-clause-room c = total_short c.args.rule c.loop-scored.scored-index c.args.table.now _ c.loop-scored.invariant c.loop-scored-test.true c.requires.few

pub add-requires-clause-list : goal.add-requires-clause-list
add-requires-clause-list c = (_, c.loop-scored.invariant)

pub loop-scored-preserved : goal.loop-scored-preserved
loop-scored-preserved c =
    let score = to_z-of_z w128 c.index.result.now (search rules) in
    let best = to_z-of_z w128 c.scored-item.result.top (search rules) in
    let more = total_as (map (scores_at c.args.rule) (take c.loop-scored.scored-index c.args.table.now)) c.add.new.self _ _ _ _ score best (c.add.ensures _ c.loop-scored.invariant) in
    total_more c.args.rule c.loop-scored.scored-index c.args.table.now c.scored-item.result c.index.result.now _ c.loop-scored-test.true c.scored-item.is
    (wide_at c.args.table.now c.args.rule c.loop-scored.scored-index c.scored-item.result c.loop-scored-test.true c.scored-item.is c.requires.wide) c.index.ensures more

pub returns : goal.returns
returns c = subst (λ ps. IsTotalOf ps c.loop-scored.total) (ap (map (scores_at c.args.rule)) (take_all c.loop-scored.scored-index c.args.table.now c.loop-scored-test.false)) c.loop-scored.invariant
