use Rattle.std.proofs.Common.{map}
use Rattle.shared_link.proofs.Turns.{AtEvent}
use Rattle.shared_link.proofs.play.play_on.Given as goal

abbrev pub invariant-loop-turn : goal.invariant-loop-turn
invariant-loop-turn g l = AtEvent g.T.Rule.kind g.T.Rule.stands_for l.stage.course.now (map g.T.Rule.kind l.fn.rules.items) l._turn l.t l.bodies.items l.rules.items
