use Rattle.std.proofs.Common.{subst, sym}
use Rattle.label_arena.specs.Chains.{Holdings}
use Rattle.frontier_planner.specs.Linked.{HaveNodes}
use Rattle.frontier_planner.proofs.Adding.{added}
use Rattle.frontier_planner.proofs.chains.add_frontier.Goals as goal

pub append-requires-clause-before : goal.append-requires-clause-before
append-requires-clause-before c = subst (λ (x : Holdings). HaveNodes x c.args.before.now) (sym c.in_ok-make_room.ensures.ok) c.requires.before

pub returns : goal.returns
returns c = added _ _ _ _ _ _ _ _ c.requires.open.0 c.in_ok-make_room.ensures.ok c.append.ensures c.seal.ensures
