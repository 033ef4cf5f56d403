use Rattle.std.proofs.Common.{◌∙◌, ap, map}
use Rattle.lab_inputs.specs.Inputs.{InputValues}
use Rattle.lab_inputs.specs.Stages.{network_of}
use Rattle.lab_inputs.proofs.Steps.{first_seen}
use Rattle.lab_inputs.proofs.inputs.Inputs.network.Goals as goal

pub returns : goal.returns
returns c = first_seen network_of c.deref.result.now _ c.first.result c.first.ensures.value (ap (map network_of) c.deref.ensures.value ∙ ap (λ (v : InputValues). v.networks) c.self.view_is)
