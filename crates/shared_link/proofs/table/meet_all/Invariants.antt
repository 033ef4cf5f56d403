use Rattle.shared_link.proofs.Loops.{Met}
use Rattle.shared_link.proofs.table.meet_all.Given as goal

abbrev pub invariant-loop-place : goal.invariant-loop-place
invariant-loop-place g l = Met g.T.Rule.kind g.T.Rule.stands_for l.course l.fn.bodies l.fn.rules l.place l.bodies l.rules
