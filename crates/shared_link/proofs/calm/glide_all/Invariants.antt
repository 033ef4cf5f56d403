use Rattle.shared_link.specs.Calm.{Glides}
use Rattle.shared_link.proofs.Loops.{Below}
use Rattle.shared_link.proofs.calm.glide_all.Given as goal

abbrev pub invariant-loop-body : goal.invariant-loop-body
invariant-loop-body l = Below (Glides l.lane.stage.course.now l.lane.takers l.until) l.fn.bodies l.body-index l.bodies
