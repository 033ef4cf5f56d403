use Rattle.std.proofs.Common.{refl, subst, sym, arith}
use Rattle.label_arena.specs.Chains.{HasParent}
use Rattle.frontier_planner.specs.Parents.{no_candidate}
use Rattle.frontier_planner.proofs.Adding.{append_after, append_all, append_more, append_none, append_open, append_parent, node_sealed}
use Rattle.frontier_planner.proofs.chains.append.Goals as goal

pub loop-candidate-init : goal.loop-candidate-init
loop-candidate-init c = append_none _ _ c.requires.open _ _ c.requires.empty

pub add-requires-clause-spare : goal.add-requires-clause-spare
add-requires-clause-spare c =
    let so = c.loop-candidate.invariant.spare in
    let few = c.requires.spare in
    let low = c.loop-candidate-test.true in
    omega (arith, so, few, low)

pub add-requires-clause-chain : goal.add-requires-clause-chain
add-requires-clause-chain c = append_open _ _ c.requires.open _ _ _ _ _ c.loop-candidate.invariant

pub add-requires-clause-after : goal.add-requires-clause-after
add-requires-clause-after c = append_after _ _ c.requires.open _ _ _ _ _ c.loop-candidate.invariant

pub add-requires-clause-parent : goal.add-requires-clause-parent
add-requires-clause-parent c =
    let a = c.args.arena.now in
    append_parent a c.args.chain c.requires.open c.args.frontier.now c.args.before.now c.loop-candidate.arena c.loop-candidate.last c.loop-candidate.candidate-index c.loop-candidate.invariant c.node_of-parent.result
    (subst (HasParent a) (sym c.node_of-parent.ensures) (node_sealed a c.args.before.now _ c.requires.before))

pub loop-candidate-preserved : goal.loop-candidate-preserved
loop-candidate-preserved c =
    let so = c.loop-candidate.invariant.spare in
    let few = c.requires.spare in
    let low = c.loop-candidate-test.true in
    append_more _ _ c.requires.open _ _ _ _ _ c.loop-candidate.invariant no_candidate _ _ _ _ low c.spare.ensures.sound (omega (arith, so, few, low)) refl c.node_of-parent.ensures c.add.ensures.added

pub returns : goal.returns
returns c = append_all _ _ c.requires.open _ _ _ _ _ c.loop-candidate.invariant c.loop-candidate-test.false
