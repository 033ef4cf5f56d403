-- The fields of a record, by their columns.
use Rattle.std.proofs.Common.{◌≡◌, ◌<◌, ℕ, zero, suc, [], ◌∷◌, Some, get_or, length, refl, ap, arith}
use Rattle.csv.specs.Records.{field_at}
use Rattle.csv_records.specs.Field.{field_in, or_nothing, without_blanks}
use Rattle.csv_records.specs.Table.{Fields}

field_there : (fields : Fields) (column : ℕ) → column < length fields → field_at fields column ≡ Some (get_or fields column [])
unfolding field_at
field_there [] column low = absurd (omega arith)
field_there (f ∷ fs) zero low = refl
field_there (f ∷ fs) (suc column) low = field_there fs column (omega arith)

-- a field in a column that a record has
pub field_here : (fields : Fields) (column : ℕ) → column < length fields → field_in column fields ≡ without_blanks (get_or fields column [])
field_here fields column low = ap (λ f. without_blanks (or_nothing f)) (field_there fields column low)
