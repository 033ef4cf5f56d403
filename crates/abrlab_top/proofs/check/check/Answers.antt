use Rattle.abrlab_top.specs.Check.{check}
use Rattle.abrlab_top.specs.Stages.{of_a_check}
use Rattle.abrlab_top.proofs.Whole.{about_ends, labels_certificate, read_failed}
use Rattle.abrlab_top.proofs.check.check.Goals as goal

pub returns-in_err-inputs : goal.returns-in_err-inputs
returns-in_err-inputs g c =
    read_failed of_a_check (check c.args.words.gap) c.args.words _ _ _ c.read_inputs.result c.from_residual.result _ c.in_err-inputs.was c.from_residual.ensures.1 (rw c.into_film_words.ensures.value at c.read_inputs.ensures.comes)

pub returns : goal.returns
returns g c =
    about_ends of_a_check (check c.args.words.gap) c.args.words c.in_ok-inputs.inputs _ _ _ _ _ (λ r h. labels_certificate c.args.words r c.into_film_words.ensures.certificate c.into_film_words.ensures.by_labels h)
    (rw c.into_film_words.ensures.value at c.in_ok-inputs.ensures.comes) (rw c.gap-gap.ensures at c.write_verdict.ensures)
