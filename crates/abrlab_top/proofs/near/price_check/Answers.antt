use Rattle.abrlab_top.specs.Near.{near_check}
use Rattle.abrlab_top.specs.Stages.{of_a_price_check}
use Rattle.abrlab_top.proofs.Whole.{about_ends, prices_certificate, read_failed}
use Rattle.abrlab_top.proofs.near.price_check.Goals as goal

pub returns-in_err-inputs : goal.returns-in_err-inputs
returns-in_err-inputs g c =
    read_failed of_a_price_check near_check c.args.words _ _ _ c.read_inputs.result c.from_residual.result _ c.in_err-inputs.was c.from_residual.ensures.1 (rw c.into_film_words.ensures.value at c.read_inputs.ensures.comes)

pub returns : goal.returns
returns g c =
    about_ends of_a_price_check near_check c.args.words c.in_ok-inputs.inputs _ _ _ _ _ (λ r h. prices_certificate c.args.words r c.into_film_words.ensures.certificate c.into_film_words.ensures.by_prices h)
    (rw c.into_film_words.ensures.value at c.in_ok-inputs.ensures.comes) c.write_price_verdict.ensures
