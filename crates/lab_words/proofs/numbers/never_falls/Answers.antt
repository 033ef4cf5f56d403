use Rattle.std.proofs.lemmas.List.Sorted.{non_decreasing_from_is_sorted}
use Rattle.lab_words.proofs.NumberLemmas.{falls_or_not}
use Rattle.lab_words.proofs.numbers.never_falls.Goals as goal

pub returns : goal.returns
returns c = falls_or_not c.args.numbers.now c.is_sorted.result (non_decreasing_from_is_sorted c.args.numbers.now c.is_sorted.result c.is_sorted.ensures.cases)
