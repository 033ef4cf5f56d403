use Rattle.labels.proofs.Inherits.{end_inherits, inherits}
use Rattle.labels.proofs.laws.dominance_is_inherited.Goals as goal

pub returns : goal.returns
returns c = record { successors = inherits; end_values = end_inherits }
