use Rattle.player_core.proofs.Tasks.{rules_are_lists}
use Rattle.player_core.proofs.laws.rules_are_lists.Goals as goal

pub returns : goal.returns
returns c = rules_are_lists
