use Rattle.abrlab_top.proofs.Chosen.{near_ended, near_unread}
use Rattle.abrlab_top.proofs.near.near_plan.Goals as goal

pub returns-in_err-inputs : goal.returns-in_err-inputs
returns-in_err-inputs g c = near_unread c.args.as_certificate c.args.words _ _ _ c.read_inputs.result c.from_residual.result _ c.in_err-inputs.was c.from_residual.ensures.1 c.read_inputs.ensures.comes

pub returns : goal.returns
returns g c = near_ended c.args.as_certificate c.args.words c.in_ok-inputs.inputs _ _ _ _ _ c.in_ok-inputs.ensures.comes c.write_near.ensures
