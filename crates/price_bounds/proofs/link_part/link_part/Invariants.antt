use Rattle.price_bounds.proofs.LinkSteps.{stands}
use Rattle.price_bounds.proofs.link_part.link_part.Given as goal

abbrev pub invariant-loop-done : goal.invariant-loop-done
invariant-loop-done l = stands l.scene l.windows l.first l.done l.table.items
