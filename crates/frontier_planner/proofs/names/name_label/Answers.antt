use Rattle.std.proofs.Common.{◌≡◌, ◌∙◌, ◌+◌, ◌<◌, suc, length, get_or, ap, refl, subst, sym, arith}
use Rattle.lab_model.specs.Film.{rungs_of}
use Rattle.frontier_planner.specs.Blocks.{HaveFinders}
use Rattle.labels.specs.Covers.{HasAbove}
use Rattle.labels.specs.Grown.{grown}
use Rattle.labels.specs.Labels.{next_label}
use Rattle.labels.specs.Read.{place_above}
use Rattle.labels.proofs.Follows.{in_reach, label_follows}
use Rattle.labels.proofs.Grown.{grown_covers}
use Rattle.frontier_planner.proofs.Naming.{chain_few, chain_is, chains_count, name_one, rung_inside}
use Rattle.labels.proofs.Counted.{rung_pushed}
use Rattle.frontier_planner.proofs.Passed.{finder_there}
use Rattle.labels.proofs.Walks.{from_by_rung}
use Rattle.frontier_planner.proofs.names.name_label.Goals as goal
use Rattle.frontier_planner.proofs.names.name_label.Goals.{After-deref-in-loop-rung, After-index-chain}

pub index-chain-requires : goal.index-chain-requires
index-chain-requires c =
    let d = c.args.brief.now.grid in
    let g = c.args.brief.now.scene in
    let h = c.requires.layers in
    let layers = c.args.layers.now in
    rung_inside d g layers h (c.args.segment + 1) c.loop-rung.rung c.index-layers-segment.result c.requires.segment (omega arith)

-- the finders of the next segment's chains
have : (c : After-index-chain) → HaveFinders (get_or c.args.layers.now (c.args.segment + 1) c.index-layers-segment.result).chains.items c.args.finders.now
have c =
    let count = c.requires.layers.count in
    let next = c.requires.segment in
    c.requires.finders (omega (arith, next, count)) c.index-layers-segment.result

-- a rung is one of them
inside : (c : After-index-chain) → c.loop-rung.rung < length (get_or c.args.layers.now (c.args.segment + 1) c.index-layers-segment.result).chains.items
inside c =
    let d = c.args.brief.now.grid in
    let g = c.args.brief.now.scene in
    let count = chains_count d g c.args.layers.now c.requires.layers (c.args.segment + 1) c.index-layers-segment.result c.requires.segment in
    let rung : c.loop-rung.rung < rungs_of c.args.brief.now.scene.film = omega arith in
    omega (arith, count, rung)

pub bounds-finders-rung : goal.bounds-finders-rung
bounds-finders-rung c =
    let s = (goal.at.bounds-finders-rung c).After-index-chain in
    let count = (have s).count in
    let low = inside s in
    omega (arith, count, low)

-- the chain that was read is the coarse frontier of the rung
chain_there : (c : After-deref-in-loop-rung) → c.deref-in-loop-rung.result.now ≡ grown c.args.brief.now.grid c.args.brief.now.scene (c.args.segment + 1) c.loop-rung.rung
chain_there c =
    c.deref-in-loop-rung.ensures.value
    ∙ chain_is c.args.brief.now.grid c.args.brief.now.scene c.args.layers.now c.requires.layers (c.args.segment + 1) c.loop-rung.rung c.index-layers-segment.result c.index-chain.result.now c.requires.segment (omega arith) c.index-chain.ensures

pub name_of-place-requires-clause-reached : goal.name_of-place-requires-clause-reached
name_of-place-requires-clause-reached c =
    let d = c.args.brief.now.grid in
    let g = c.args.brief.now.scene in
    let next = c.requires.segment in
    let low : c.args.segment < _ = omega (arith, next) in
    record {
      old_rung = (in_reach d g c.requires.layers.case c.args.segment c.args.reached low c.requires.reached).0;
      old = label_follows d g c.requires.layers.case c.args.segment c.args.reached low c.requires.reached;
      rung = omega arith;
    }

pub name_of-place-requires-clause-few : goal.name_of-place-requires-clause-few
name_of-place-requires-clause-few c =
    let few = chain_few c.args.brief.now.grid c.args.brief.now.scene c.args.layers.now c.requires.layers (c.args.segment + 1) c.loop-rung.rung c.requires.segment (omega arith) in
    let long = ap length (chain_there c) in
    omega (arith, few, long)

pub name_of-place-requires-clause-finder : goal.name_of-place-requires-clause-finder
name_of-place-requires-clause-finder c =
    let s = (goal.at.name_of-place-requires-clause-finder c).After-index-chain in
    finder_there _ c.args.finders.now c.loop-rung.rung c.index-chain.result.now c.index-finders-rung.result _ (have s) (inside s) c.index-chain.ensures c.deref-in-loop-rung.ensures.value c.index-finders-rung.is

pub name_of-place-requires-clause-above : goal.name_of-place-requires-clause-above
name_of-place-requires-clause-above c =
    let d = c.args.brief.now.grid in
    let g = c.args.brief.now.scene in
    let case = c.requires.layers.case in
    let at = from_by_rung (rungs_of c.args.brief.now.scene.film) (grown d g c.args.segment) c.args.reached c.requires.reached in
    subst (λ ls. HasAbove ls (next_label g (c.args.segment + 1) c.args.reached.0 c.args.reached.1 c.loop-rung.rung)) (sym (chain_there c))
    ((grown_covers d g case.grid).goes_on c.args.segment c.args.reached.0 c.loop-rung.rung c.requires.segment at.0 (omega arith) c.args.reached.1 at.1)

pub loop-rung-preserved : goal.loop-rung-preserved
loop-rung-preserved c =
    let d = c.args.brief.now.grid in
    let g = c.args.brief.now.scene in
    let s = (goal.at.loop-rung-preserved c).After-deref-in-loop-rung in
    c.in_ok-push.ensures.items
    ∙ rung_pushed c.args.names.now.items c.loop-rung.names.items (λ r. place_above (grown d g (suc c.args.segment) r) (next_label g (suc c.args.segment) c.args.reached.0 c.args.reached.1 r)) c.loop-rung.rung c.name_of-place.result c.loop-rung.invariant
    (name_one d g c.args.segment c.loop-rung.rung c.args.reached c.name_of-place.result c.deref-in-loop-rung.result.now _ c.name_of-place.ensures (chain_there s) refl)
