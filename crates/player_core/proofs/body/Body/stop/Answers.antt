use Rattle.std.proofs.lemmas.Result.{IfOk-weaker}
use Rattle.player_core.specs.Course.{case_on}
use Rattle.player_core.specs.Parts.{arrival, finish}
use Rattle.player_core.proofs.Follow.{step_then}
use Rattle.player_core.proofs.body.Body.stop.Goals as goal

pub returns-clause-stops : goal.returns-clause-stops
returns-clause-stops g c =
    IfOk-weaker c.finish.result _ _
    (λ x finished kind.
    step_then (arrival (case_on c.args.course.now kind)) (finish (case_on c.args.course.now kind)) c.args.self.now c.arrive.new.self c.finish.new.self (c.in_ok-arrive.ensures.arrives kind) (finished kind))
    c.finish.ensures
