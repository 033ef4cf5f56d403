-- A table is refused by its first records, one more than the segments, where it is refused by all.
use Rattle.std.proofs.Common.{◌≡◌, ◌+◌, ℕ, true, nat_lt, List, Option, refl, ap, arith}
use Rattle.std.proofs.lemmas.Bool.Decides.{nat_tests}
use Rattle.std.specs.List.{concat}
use Rattle.csv_records.specs.Table.{table_within}
use Rattle.lab_model.specs.declared.fault.Kind.TheVariants as kind
use Rattle.lab_model.specs.declared.fault.Key.TheVariants as key
use Rattle.lab_model.specs.Reading.{refusal}
use Rattle.lab_model.specs.Steps.{map_ok}
use Rattle.reader_faults.proofs.Each.{EndsAt}
use Rattle.reader_faults.proofs.Within.{plain_within}
use Rattle.utility_table.specs.Table.{utilities_in_row, rows_to_end, table_rows, table_utilities}

-- no row is read behind the last segment's
last_row : (segments rungs : ℕ) → EndsAt segments (λ (_ : Option (List ℕ)). utilities_in_row segments rungs)
last_row segments rungs before row r late = let past : nat_lt segments row ≡ true = grind (arith, nat_tests) in (refusal kind.Shape key.Utility row 0, rw past refl)

-- the first records of a text say what all of them say
pub utilities_within : (bytes : List ℕ) (segments rungs : ℕ) → map_ok concat (table_rows segments rungs (table_within (segments + 1) bytes)) ≡ table_utilities bytes segments rungs
unfolding table_utilities
utilities_within bytes segments rungs =
    ap (map_ok concat) (plain_within (λ (_ : Option (List ℕ)). utilities_in_row segments rungs) segments (rows_to_end segments) (last_row segments rungs) bytes)
