use Rattle.std.proofs.Common.{◌∙◌, sym}
use Rattle.lab_inputs.proofs.Fits.{settled_ok}
use Rattle.lab_inputs.proofs.inputs.Inputs.fit.Goals as goal

pub returns-in-None : goal.returns-in-None
returns-in-None c = settled_ok c.args.self.now (sym c.misfit.ensures ∙ c.in-None.is)
