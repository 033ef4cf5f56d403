use Rattle.std.proofs.Common.{◌≡◌, ◌∙◌, ◌<◌, ap, arith, map}
use Rattle.lab_model.specs.Film.{rungs_of}
use Rattle.lab_model.specs.Ladder.{rungs_below}
use Rattle.labels.specs.Grown.{grown}
use Rattle.frontier_planner.specs.Linked.{labels_held}
use Rattle.label_arena.specs.Chains.{chain_at}
use Rattle.frontier_planner.proofs.Layers.{held_more}
use Rattle.frontier_planner.proofs.frontiers.layer_of.Goals as goal

pub loop-rung-preserved : goal.loop-rung-preserved
loop-rung-preserved c =
    let g = c.args.brief.now.scene in
    let r = c.loop-rung.rung in
    let all = c.rungs-rung-end.ensures.value in
    let low = c.loop-rung-test.true in
    let rung : r < rungs_of g.film = omega (arith, all, low) in
    held_more _ _ _ (grown c.args.brief.now.grid g c.args.segment) r c.loop-rung.invariant
    (c.in_ok-chain_labels.ensures ∙ ap (λ n. labels_held (chain_at c.args.arena.now n).nodes) c.chain_of.ensures.value ∙ (c.requires.holds.holds r rung).labels) c.in_ok-push.ensures.items

pub returns : goal.returns
returns c =
    let d = c.args.brief.now.grid in
    let g = c.args.brief.now.scene in
    let all = c.rungs-rung-end.ensures.value in
    let late = c.loop-rung-test.false in
    let within = c.loop-rung.auto.rung-end in
    let end : c.loop-rung.rung ≡ rungs_of g.film = omega (arith, all, late, within) in
    record { chains = c.loop-rung.invariant ∙ ap (λ n. map (grown d g c.args.segment) (rungs_below n)) end }
