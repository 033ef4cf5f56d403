use Rattle.shared_link.specs.Table.{Passes}
use Rattle.shared_link.proofs.Loops.{Below}
use Rattle.shared_link.proofs.table.pass_all.Given as goal

abbrev pub invariant-loop-body : goal.invariant-loop-body
invariant-loop-body l = Below (Passes l.course l.share) l.fn.bodies l.body-index l.bodies
