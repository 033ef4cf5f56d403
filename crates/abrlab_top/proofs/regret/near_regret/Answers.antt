use Rattle.std.proofs.Common.{◌∙◌, ap}
use Rattle.lab_words.specs.Command.{CommandWords}
use Rattle.lab_inputs.specs.Inputs.{InputValues}
use Rattle.abrlab_top.proofs.Chosen.{bounds_ended, bounds_unread}
use Rattle.abrlab_top.proofs.regret.near_regret.Goals as goal

pub returns-in_err-inputs : goal.returns-in_err-inputs
returns-in_err-inputs g c =
    bounds_unread c.args.words _ _ _ c.read_inputs.result c.from_residual.result _ c.in_err-inputs.was c.from_residual.ensures.1 (rw c.into_film_words.ensures.value at c.read_inputs.ensures.comes)

pub write_near_regrets-requires : goal.write_near_regrets-requires
write_near_regrets-requires g c =
    ap (λ (v : InputValues). v.setup.abandon) c.in_ok-inputs.ensures.kept.is ∙ ap (λ (w : CommandWords). w.abandon) c.into_film_words.ensures.value ∙ c.into_film_words.ensures.calm

pub returns : goal.returns
returns g c = bounds_ended c.args.words c.in_ok-inputs.inputs _ _ _ _ _ (rw c.into_film_words.ensures.value at c.in_ok-inputs.ensures.comes) c.write_near_regrets.ensures
