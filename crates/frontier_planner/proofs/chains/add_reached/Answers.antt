use Rattle.std.proofs.Common.{◌∙◌, ◌++◌, ap, sym}
use Rattle.std.proofs.lemmas.Iterator.Consumers.{YieldsList-end, YieldsList-from_first}
use Rattle.std.proofs.lemmas.List.{map-id}
use Rattle.label_arena.specs.Chains.{chain_at, steps_of}
use Rattle.frontier_planner.proofs.Linking.{steps_reached}
use Rattle.frontier_planner.proofs.chains.add_reached.Goals as goal

pub returns : goal.returns
returns c =
    let ns = (chain_at c.args.arena.now c.args.chain).nodes in
    let all = YieldsList-end (YieldsList-from_first (λ x. x) (λ w. w) (steps_of ns) (c.into_iter-step-iterator.ensures.into_iter_gives ∙ c.walk-step-items.ensures)) c.loop-step.yielded _ c.loop-step.yielded_by _ _ c.in-None.is c.next.ensures.steps in
    c.loop-step.invariant ∙ ap (λ xs. c.args.reached.now.items ++ xs) (steps_reached c.args.rung c.loop-step.yielded ns (sym (map-id c.loop-step.yielded) ∙ all.0))
