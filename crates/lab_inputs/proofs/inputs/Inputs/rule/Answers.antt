use Rattle.std.proofs.Common.{◌∙◌, ap, map}
use Rattle.lab_io.specs.Sink.{Text}
use Rattle.lab_model.specs.Rules.{RuleKind}
use Rattle.lab_words.specs.Command.{named}
use Rattle.lab_words.specs.Limits.{IsRuleWithin}
use Rattle.lab_inputs.specs.Inputs.{InputValues}
use Rattle.lab_inputs.proofs.Steps.{first_holds, first_seen}
use Rattle.lab_inputs.proofs.inputs.Inputs.rule.Goals as goal

pub returns-clause-value : goal.returns-clause-value
returns-clause-value c = first_seen named c.deref.result.now _ c.first.result c.first.ensures.value (ap (map named) c.deref.ensures.value ∙ ap (λ (v : InputValues). v.rules) c.self.view_is)

pub returns-clause-within : goal.returns-clause-within
returns-clause-within c =
    first_holds (λ (r : Text × RuleKind). IsRuleWithin r.1) named (map named c.self.inside.rules.items) c.first.result
    (first_seen named c.deref.result.now _ c.first.result c.first.ensures.value (ap (map named) c.deref.ensures.value)) c.self.invariant.1
