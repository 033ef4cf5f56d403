use Rattle.lab_model.specs.Row.{AreRows}
use Rattle.lab_model.proofs.weights.are_rows.Given as goal

abbrev pub invariant-loop-row : goal.invariant-loop-row
invariant-loop-row l = AreRows l.utilities l.count l.row
