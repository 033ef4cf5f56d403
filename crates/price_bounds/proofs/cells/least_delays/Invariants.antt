use Rattle.std.proofs.Common.{◌-◌}
use Rattle.price_bounds.specs.Tables.{AreEdgesSoFar}
use Rattle.price_bounds.proofs.cells.least_delays.Given as goal

abbrev pub invariant-loop-edge : goal.invariant-loop-edge
invariant-loop-edge l = AreEdgesSoFar l.first l.edge l.edges.items

abbrev pub decreases-loop-edge : goal.decreases-loop-edge
decreases-loop-edge l = 1000000000001 - l.edge
