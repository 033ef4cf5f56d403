use Rattle.std.proofs.Common.{rules, ◌≡◌}
use Rattle.std.proofs.lemmas.Iterator.{cases_from_any}
use Rattle.std.proofs.lemmas.Iterator.Consumers.{YieldsList-from_first}
use Rattle.label_arena.specs.Chains.{chain_at, steps_of}
use Rattle.label_arena.specs.declared.walk.Step.{Step}
use borrow.Author.Tests.{tests}
use Rattle.frontier_planner.proofs.Reading.{stands_in}
use Rattle.frontier_planner.proofs.read.holds.Goals as goal

pub returns : goal.returns
returns c =
    stands_in (chain_at c.args.arena.now c.args.chain).nodes c.args.node c.any.result
    (cases_from_any _ _ _ (λ (s : Step). s.node ≡ c.args.node) (λ (s : Step). s.node ≡ c.args.node → ⊥) c.any.ensures.ran
    (YieldsList-from_first (λ x. x) (λ w. w) (steps_of (chain_at c.args.arena.now c.args.chain).nodes) c.walk.ensures) (λ x q k. search (rules, tests)) (λ x q k. search (rules, tests)))
