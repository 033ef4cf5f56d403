use Rattle.abrlab_top.specs.Simulate.{simulate}
use Rattle.abrlab_top.specs.Stages.{at_the_end}
use Rattle.abrlab_top.proofs.Whole.{about_ends, read_failed}
use Rattle.abrlab_top.proofs.simulate.simulate.Goals as goal

pub returns-in_err-inputs : goal.returns-in_err-inputs
returns-in_err-inputs g c = read_failed at_the_end simulate c.args.words _ _ _ c.read_inputs.result c.from_residual.result _ c.in_err-inputs.was c.from_residual.ensures.1 c.read_inputs.ensures.comes

pub returns : goal.returns
returns g c = about_ends at_the_end simulate c.args.words c.in_ok-inputs.inputs _ _ _ _ _ (λ r h. cc) c.in_ok-inputs.ensures.comes c.write_simulation.ensures
