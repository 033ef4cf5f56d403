use Rattle.std.proofs.Common.{◌≡◌, ◌<◌, ◌^◌, true, arith, rules}
use Rattle.lab_words.specs.Spelling.{is_number}
use Rattle.lab_words.proofs.NumberLemmas.{too_large}
use Rattle.lab_words.proofs.numbers.number_of.Goals as goal

pub returns-in_default-3-clause-value : goal.returns-in_default-3-clause-value
returns-in_default-3-clause-value c =
    let spelled : is_number c.args.text.now ≡ true = search rules in
    let fits : c.args.most < 2 ^ 32 = omega (arith, c.ranges.most.fits) in
    too_large 32 c.args.least c.args.most c.args.text.now c.in_default.field-0 spelled fits c.in_default.ensures.value.0
