use Rattle.shared_link.specs.Table.{AreFirstBodies}
use Rattle.shared_link.proofs.table.first_bodies.Given as goal

abbrev pub invariant-loop-place : goal.invariant-loop-place
invariant-loop-place l = AreFirstBodies l._place l.bodies.items
