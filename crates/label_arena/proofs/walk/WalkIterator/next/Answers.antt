use Rattle.std.proofs.Common.{◌∙◌, ◌∷◌, List, Option, length, sym, ap, subst, arith}
use Rattle.label_arena.specs.Links.{IsLinked, steps_from}
use Rattle.label_arena.specs.declared.node.Node.{Node}
use Rattle.label_arena.specs.declared.node.NodeId.{NodeId}
use Rattle.label_arena.specs.declared.walk.Step.{Step}
use Rattle.label_arena.proofs.Steps.{linked_parts, steps_on}
use Rattle.label_arena.proofs.walk.WalkIterator.next.Goals as goal

pub invariant_of-self : goal.invariant_of-self
invariant_of-self c =
    let s = c.self.inside in
    let k = c.in_ok-node.node in
    let linked = subst (λ (o : Option NodeId). IsLinked s.nodes.now o) c.in_ok-node.was c.self.invariant in
    subst (λ (y : Node). IsLinked s.nodes.now y.next) (sym c.node_at-held.ensures) (linked_parts s.nodes.now k linked).2

pub returns-clause-steps : goal.returns-clause-steps
returns-clause-steps c =
    let s = c.self.inside in
    let k = c.in_ok-node.node in
    let linked = subst (λ (o : Option NodeId). IsLinked s.nodes.now o) c.in_ok-node.was c.self.invariant in
    sym c.self.view_is
    ∙ (ap (λ (o : Option NodeId). steps_from s.nodes.now o) c.in_ok-node.was
    ∙ (steps_on s.nodes.now k linked
    ∙ ap (λ (y : Node). let step : Step = record { node = k; label = y.label } in step ∷ steps_from s.nodes.now y.next) (sym c.node_at-held.ensures)))

pub returns-clause-goes : goal.returns-clause-goes
returns-clause-goes c =
    let count = ap (λ (ss : List Step). length ss) (returns-clause-steps c) in
    record { on = λ _. (tt, tt, omega (arith, count)); keeps = tt; rests = λ _. tt }
