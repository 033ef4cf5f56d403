use Rattle.std.proofs.lemmas.List.Elements.{All-push}
use Rattle.frontier_planner.specs.Blocks.{IsLevel}
use Rattle.frontier_planner.proofs.blocks.add_level.Goals as goal

pub returns-in_ok-push : goal.returns-in_ok-push
returns-in_ok-push c = rw c.in_ok-push.ensures.items (All-push (IsLevel c.args.chain.now) c.args.levels.now.items c.in_ok-level_of.field-0 c.requires.levels c.in_ok-level_of.ensures)
