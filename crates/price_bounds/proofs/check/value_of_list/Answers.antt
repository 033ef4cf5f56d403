use Rattle.std.proofs.Common.{◌∙◌, arith, sym, subst}
use Rattle.std.proofs.lemmas.Int.{ints}
use Rattle.labels.specs.Form.{HasSignedDigits, score_digits}
use Rattle.labels.proofs.LabelsAreValues.{labels_are_values}
use Rattle.price_bounds.proofs.Short.{value_short}
use Rattle.price_bounds.proofs.check.value_of_list.Goals as goal

pub returns-clause-value : goal.returns-clause-value
returns-clause-value c =
    let e = c.value_of_list.ensures.value ∙ sym (labels_are_values c.args.scene.now c.value_of_list.ensures.task c.args.rungs.now c.requires) in
    omega (arith, ints, e)

pub returns-clause-short : goal.returns-clause-short
returns-clause-short c = subst (HasSignedDigits score_digits) (sym (returns-clause-value c)) (value_short c.args.scene.now c.value_of_list.ensures.task c.args.rungs.now c.requires)
