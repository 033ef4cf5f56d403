use Rattle.std.proofs.Common.{◌∙◌, ◌+◌, ◌*◌, ◌<◌, ap, length, refl, subst, sym, arith}
use Rattle.std.proofs.lemmas.List.{length-map}
use Rattle.lab_model.specs.Film.{rungs_of, segments_of}
use Rattle.labels.specs.Grown.{grown}
use Rattle.labels.proofs.Counted.{by_rung_count, by_rung_fewer}
use Rattle.frontier_planner.specs.Linked.{AddsFrontier, HaveNodes}
use Rattle.frontier_planner.proofs.Adding.{added_nodes}
use Rattle.frontier_planner.proofs.Linking.{before_more, before_sealed, holds_more, number_inside, number_open}
use Rattle.frontier_planner.proofs.frontiers.grow_segment.Goals as goal

pub returns-then-len-rest : goal.returns-then-len-rest
returns-then-len-rest c =
    let g = c.args.brief.now.scene in
    let chain = grown c.args.brief.now.grid g c.args.segment in
    let r = c.loop-rung.rung in
    let all = c.rungs-rung-end.ensures.value in
    let low = c.loop-rung-test.true in
    let fewer = by_rung_fewer chain (r + 1) (rungs_of g.film) (omega (arith, all, low)) in
    let count = by_rung_count chain r in
    let rest = c.loop-rung.invariant.rest in
    let many = sym (length-map c.in_ok-chain.chain.items _) ∙ ap length c.in_ok-chain.ensures.labels in
    let long = c.len.ensures in
    let ok = c.in_ok-chain.chain.ok.0 in
    let more = c.if-len-rest.true in
    (refl, omega (arith, fewer, count, rest, many, long, ok, more))

pub add_frontier-requires-clause-before : goal.add_frontier-requires-clause-before
add_frontier-requires-clause-before c =
    let g = c.args.brief.now.scene in
    subst (HaveNodes c.loop-rung.arena) (sym c.deref-in-loop-rung-3.ensures.value)
    (before_sealed c.args.brief.now.grid g c.loop-rung.arena c.args.segment (c.args.segment * rungs_of g.film + c.loop-rung.rung) c.in_ok-before.before.items c.loop-rung.invariant.holds (omega arith) c.loop-rung.invariant.before)

pub loop-rung-preserved : goal.loop-rung-preserved
loop-rung-preserved c =
    let d = c.args.brief.now.grid in
    let g = c.args.brief.now.scene in
    let chain = grown d g c.args.segment in
    let i = c.args.segment in
    let r = c.loop-rung.rung in
    let so = c.loop-rung.invariant in
    let all = c.rungs-rung-end.ensures.value in
    let low = c.loop-rung-test.true in
    let rung : r < rungs_of g.film = omega (arith, all, low) in
    let number = c.chain_of.ensures.value in
    let frontier = c.in_ok-chain.chain.items in
    let before = c.in_ok-before.before.items in
    let a = c.loop-rung.arena in
    let b = c.add_frontier.new.arena in
    let added : AddsFrontier a b (i * rungs_of g.film + r) frontier before =
    subst (λ n. AddsFrontier a b n frontier before) number (subst (λ ks. AddsFrontier a b c.chain_of.result ks before) c.deref-in-loop-rung-2.ensures.value
    (subst (λ xs. AddsFrontier a b c.chain_of.result c.deref-in-loop-rung-2.result.now xs) c.deref-in-loop-rung-3.ensures.value c.in_ok-add_frontier.ensures)) in
    let inside = number_inside (segments_of g.film) (rungs_of g.film) i r c.requires.segment rung in
    let free = number_open d g a (i * rungs_of g.film + r) (i * rungs_of g.film + r) so.holds (omega arith) inside in
    let nodes = added_nodes a b (i * rungs_of g.film + r) frontier before added free.0 free.2 in
    let count = by_rung_count chain r in
    let many = sym (length-map frontier _) ∙ ap length c.in_ok-chain.ensures.labels in
    let long = c.len-in-loop-rung.ensures in
    let within = c.len.ensures in
    let ok = c.in_ok-chain.chain.ok.0 in
    let fits = c.if-len-rest.false in
    let rest = so.rest in
    let held = so.count in
    record {
      holds = holds_more d g a b i r frontier before so.holds c.requires.segment rung added c.in_ok-chain.ensures so.before;
      before = before_more d g a b i r frontier before so.holds c.requires.segment rung added c.in_ok-chain.ensures so.before;
      rest = omega (arith, count, many, long, within, ok, fits, rest);
      count = omega (arith, nodes, long, within, ok, fits, held);
    }
