use Rattle.price_text.proofs.FirstLines.{not_gap, not_of_gap, not_of_plain, not_plain}
use Rattle.price_text.proofs.laws.told_apart.Goals as goal

pub returns-clause-plain : goal.returns-clause-plain
returns-clause-plain c = not_plain

pub returns-clause-gap : goal.returns-clause-gap
returns-clause-gap c = not_gap

pub returns-clause-of_plain : goal.returns-clause-of_plain
returns-clause-of_plain c = not_of_plain

pub returns-clause-of_gap : goal.returns-clause-of_gap
returns-clause-of_gap c = not_of_gap
