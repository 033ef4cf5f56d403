use Rattle.std.proofs.Common.{◌∙◌, sym, ap}
use Rattle.lab_model.proofs.Refusals.{fails_on, gives_error}
use Rattle.certificate_text.specs.Walk.{silent}
use Rattle.certificate_text.proofs.WalkLaws.{rest_stopped, walk_on, walk_over}
use Rattle.certificate_text.proofs.lines.Lines.pass_rest.Goals as goal

pub returns-in_err-next_layer : goal.returns-in_err-next_layer
returns-in_err-next_layer c =
    gives_error _ c.from_residual.result c.in_err-next_layer.field-0.0 _ c.from_residual.ensures.1
    (fails_on _ _ _ c.in_err-next_layer.ensures.steps.0 (λ e refused. sym c.loop-self.invariant.rest ∙ ap silent (rest_stopped c.loop-self.self e c.loop-self.invariant.inside refused)))

pub loop-self-smaller : goal.loop-self-smaller
loop-self-smaller c = (walk_on c.loop-self.self c.next_layer.new.self c.in_ok-next_layer.field-0 c.loop-self.invariant.inside c.if-is_some.ensures c.in_ok-next_layer.ensures.steps).fewer

pub loop-self-preserved : goal.loop-self-preserved
loop-self-preserved c =
    let on = walk_on c.loop-self.self c.next_layer.new.self c.in_ok-next_layer.field-0 c.loop-self.invariant.inside c.if-is_some.ensures c.in_ok-next_layer.ensures.steps in
    record { inside = on.inside; rest = on.rest ∙ c.loop-self.invariant.rest }

pub returns : goal.returns
returns c =
    sym c.loop-self.invariant.rest ∙ walk_over c.loop-self.self c.next_layer.new.self c.in_ok-next_layer.field-0 c.if-is_some.ensures c.in_ok-next_layer.ensures.steps
