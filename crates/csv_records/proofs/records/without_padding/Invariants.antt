use Rattle.std.proofs.Common.{◌≡◌, length}
use Rattle.csv_records.specs.Field.{without_padding}
use Rattle.csv_records.proofs.records.without_padding.Given as goal

abbrev pub invariant-loop-rest : goal.invariant-loop-rest
invariant-loop-rest l = without_padding l.rest ≡ without_padding l.field

abbrev pub decreases-loop-rest : goal.decreases-loop-rest
decreases-loop-rest l = length l.rest
