use Rattle.std.proofs.Common.{◌∙◌}
use Rattle.std.proofs.lemmas.List.{drop_min, take_min}
use Rattle.certificate_text.proofs.writer.split_names.Goals as goal

pub returns-clause-own : goal.returns-clause-own
returns-clause-own c = rw c.min.ensures at c.split_at.ensures.front ∙ take_min c.args.per c.args.names.now

pub returns-clause-later : goal.returns-clause-later
returns-clause-later c = rw c.min.ensures at c.split_at.ensures.back ∙ drop_min c.args.per c.args.names.now
