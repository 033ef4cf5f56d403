use Rattle.std.proofs.Common.{◌∙◌, ◌+◌, ◌<◌, ◌^◌, inl, length, subst, sym, arith}
use Rattle.std.proofs.lemmas.Iterator.Consumers.{YieldsList-end, YieldsList-from_first}
use Rattle.std.proofs.lemmas.List.{map-id}
use Rattle.label_arena.specs.Chains.{chain_at, steps_of}
use Rattle.frontier_planner.proofs.Linking.{chain_short, steps_labels}
use Rattle.frontier_planner.proofs.frontiers.chain_labels.Goals as goal

pub count-requires-clause-fits : goal.count-requires-clause-fits
count-requires-clause-fits c =
    let short = chain_short c.args.arena.now c.args.chain c.spare.ensures.sound c.requires in
    inl (subst (λ steps. 0 + length steps < 2 ^ 64) (sym c.walk.ensures) (omega (arith, short)))

pub returns : goal.returns
returns c =
    let ns = (chain_at c.args.arena.now c.args.chain).nodes in
    let all = YieldsList-end (YieldsList-from_first (λ x. x) (λ w. w) (steps_of ns) (c.into_iter-step-iterator.ensures.into_iter_gives ∙ c.walk-step-items.ensures)) c.loop-step.yielded _ c.loop-step.yielded_by _ _ c.in-None.is c.next.ensures.steps in
    c.loop-step.invariant ∙ steps_labels c.loop-step.yielded ns (sym (map-id c.loop-step.yielded) ∙ all.0)
