use Rattle.std.proofs.Common.{◌∙◌, ap}
use Rattle.std.proofs.lemmas.Result.{IfOk-weaker}
use Rattle.network_clock.specs.Network.{period_at}
use Rattle.player_core.specs.Course.{case_on}
use Rattle.player_core.specs.Parts.{pass_in, pass_ms}
use Rattle.player_core.specs.Seen.{seen}
use Rattle.player_core.proofs.Follow.{step_as}
use Rattle.player_core.proofs.body.Body.pass.Goals as goal

pub returns : goal.returns
returns c =
    IfOk-weaker c.pass_in.result _ _
    (λ x passed kind.
    let k = case_on c.args.course.now kind in
    step_as _ (pass_ms k) c.args.self.now c.pass_in.new.self
    (λ h. ap (λ q. pass_in k q (seen c.args.self.now h)) (c.period_at.ensures.value ∙ ap (λ ps. period_at ps c.args.self.now.t) c.clock.ensures.value)) (passed kind))
    c.pass_in.ensures
