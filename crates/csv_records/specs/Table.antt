-- The records of a text of CSV, up to the first that is uneven.
use Rattle.std.specs.Prelude.{ℕ, ◌+◌, ◌==◌, Bool, true, false, List, [], ◌∷◌, length, map, take, Option, Some, None, if◌then◌else◌, nat_lt}
use Rattle.std.specs.List.{take_while}
use Rattle.csv.specs.Reading.{default_config, records, strip_bom}
use Rattle.csv.specs.Records.{fields_of}
use Rattle.csv.specs.declared.error.ErrorKind.{ErrorKind}
use Rattle.csv.specs.declared.error.ErrorKind.TheVariants as kind
use Rattle.csv_records.specs.declared.records.Records.{Records}

-- the fields of a record
abbrev pub Fields : Type 0
Fields = List (List ℕ)

-- what `csv` makes of the bytes
abbrev pub all_records : List ℕ → List Fields
all_records bytes = records default_config (strip_bom bytes)

-- so many fields
abbrev pub has_width : ℕ → Fields → Bool
has_width n r = length r == n

-- the records up to the first whose number of fields isn't the first record's
abbrev pub even_rows : List Fields → List Fields
even_rows [] = []
even_rows (r ∷ rs) = take_while (has_width (length r)) (r ∷ rs)

-- the number of that record, if there is one, counted from 1
abbrev pub uneven_row : List Fields → Option ℕ
uneven_row rs = if nat_lt (length (even_rows rs)) (length rs) then Some (length (even_rows rs) + 1) else None

-- the even records of a text, and the number of the uneven one behind them
pub record Table : Type 0 where
  pub rows : List Fields
  pub uneven : Option ℕ

-- the table of these records
abbrev pub table_from : List Fields → Table
table_from rs = record { rows = even_rows rs; uneven = uneven_row rs }

-- the table that the bytes are
unfoldable pub table_of : List ℕ → Table
table_of bytes = table_from (all_records bytes)

-- the table that the first records of the bytes are, at most so many
unfoldable pub table_within : ℕ → List ℕ → Table
table_within most bytes = table_from (take most (all_records bytes))

-- the table that a value holds
abbrev pub table_in : Records → Table
table_in t = record { rows = map fields_of t.rows.items; uneven = if t.uneven then Some (length t.rows.items + 1) else None }

-- a refusal of `csv` for another number of fields
abbrev pub is_uneven : ErrorKind → Bool
is_uneven (kind.UnequalLengths pos expected len) = true
is_uneven _ = false
