use Rattle.std.proofs.Common.{◌≡◌, length}
use Rattle.csv_records.specs.Field.{without_indent}
use Rattle.csv_records.proofs.records.without_indent.Given as goal

abbrev pub invariant-loop-rest : goal.invariant-loop-rest
invariant-loop-rest l = without_indent l.rest ≡ without_indent l.field

abbrev pub decreases-loop-rest : goal.decreases-loop-rest
decreases-loop-rest l = length l.rest
