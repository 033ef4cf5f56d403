use Rattle.std.proofs.Common.{◌≡◌, ◌∙◌, ◌<◌, ap, arith}
use Rattle.lab_model.specs.Film.{rungs_of}
use Rattle.labels.specs.Frontier.{by_rung}
use Rattle.labels.specs.Grown.{grown}
use Rattle.frontier_planner.proofs.Linking.{reached_more, reached_none}
use Rattle.frontier_planner.proofs.chains.reached_labels.Goals as goal

pub loop-rung-init : goal.loop-rung-init
loop-rung-init c =
    let none = reached_none c.args.brief.now.grid c.args.brief.now.scene c.args.arena.now c.args.segment c.new-reached.result.items c.new-reached.ensures.items in
    record { labels = none.0; stand = none.1 }

pub loop-rung-preserved : goal.loop-rung-preserved
loop-rung-preserved c =
    let g = c.args.brief.now.scene in
    let all = c.rungs-rung-end.ensures.value in
    let low = c.loop-rung-test.true in
    let rung : c.loop-rung.rung < rungs_of g.film = omega (arith, all, low) in
    let more = reached_more c.args.brief.now.grid g c.args.arena.now c.args.segment c.loop-rung.reached.items c.add_reached.new.reached.items c.loop-rung.rung c.chain_of.result c.requires.holds rung c.chain_of.ensures.value
    c.in_ok-add_reached.ensures c.loop-rung.invariant.labels c.loop-rung.invariant.stand in
    record { labels = more.0; stand = more.1 }

pub returns : goal.returns
returns c =
    let d = c.args.brief.now.grid in
    let g = c.args.brief.now.scene in
    let all = c.rungs-rung-end.ensures.value in
    let late = c.loop-rung-test.false in
    let within = c.loop-rung.auto.rung-end in
    let end : c.loop-rung.rung ≡ rungs_of g.film = omega (arith, all, late, within) in
    record { labels = c.loop-rung.invariant.labels ∙ ap (λ n. by_rung n (grown d g c.args.segment)) end; stand = c.loop-rung.invariant.stand }
