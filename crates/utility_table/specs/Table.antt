-- What the bytes of a utility table stand for: its utilities row by row, or the first test that fails.
use Rattle.std.specs.Prelude.{ℕ, ◌==◌, List, [], ◌∷◌, length, map, Option, Some, None, Result, Ok, Err, if◌then◌else◌, nat_lt}
use Rattle.std.specs.List.{concat}
use Rattle.csv_records.specs.Table.{Fields, Table, table_of}
use Rattle.csv_records.specs.Field.{whole_number, without_blanks}
use Rattle.lab_model.specs.Reading.{refusal}
use Rattle.lab_model.specs.Steps.{◌>>=◌, map_ok}
use Rattle.lab_model.specs.declared.fault.Refusal.{Refusal}
use Rattle.lab_model.specs.declared.fault.Kind.TheVariants as kind
use Rattle.lab_model.specs.declared.fault.Key.TheVariants as key
use Rattle.reader_faults.specs.Each.{each_after, each_from}
use Rattle.reader_faults.specs.Faults.{field_at}

-- a row of one of the segments
abbrev pub utility_row_within : ℕ → ℕ → Result ℕ Refusal
utility_row_within segments row = if nat_lt segments row then Err (refusal kind.Shape key.Utility row 0) else Ok row

-- a record with a field for each rung, as all of a table have that are as wide as the first
abbrev pub full_row : ℕ → ℕ → Fields → Result Fields Refusal
full_row rungs row r = if length r == rungs then Ok r else Err (refusal kind.Shape key.Utility row 0)

-- a utility is no less than the one before
abbrev pub not_below : Option ℕ → ℕ → ℕ → ℕ → Result ℕ Refusal
not_below None row column u = Ok u
not_below (Some before) row column u = if nat_lt u before then Err (refusal kind.Order key.Utility row column) else Ok u

-- the utility that a field is, behind the one before
abbrev pub utility_in : ℕ → Option ℕ → ℕ → List ℕ → Result ℕ Refusal
utility_in row before column field = do
  u ← field_at key.Utility row column (whole_number 0 1000000 field)
  not_below before row column u

-- the utilities of a segment, rung by rung
abbrev pub utilities_in_row : ℕ → ℕ → ℕ → Fields → Result (List ℕ) Refusal
utilities_in_row segments rungs row r = do
  _ ← utility_row_within segments row
  fields ← full_row rungs row r
  each_after (utility_in row) None 1 (map without_blanks fields)

-- the rows, if no uneven record stands behind them and there is one for each segment
abbrev pub rows_to_end : ℕ → Option ℕ → List (List ℕ) → Result (List (List ℕ)) Refusal
rows_to_end segments (Some row) rows = Err (refusal kind.NotCsv key.Utility row 0)
rows_to_end segments None [] = Err (refusal kind.Empty key.Whole 0 0)
rows_to_end segments None (r ∷ rs) = if nat_lt (length (r ∷ rs)) segments then Err (refusal kind.Shape key.Utility 0 0) else Ok (r ∷ rs)

-- the rows of a table, in a film of so many segments and rungs
abbrev pub table_rows : ℕ → ℕ → Table → Result (List (List ℕ)) Refusal
table_rows segments rungs t = do
  rows ← each_from (utilities_in_row segments rungs) 1 t.rows
  rows_to_end segments t.uneven rows

-- the utilities that the bytes are, row by row, in a film of so many segments and rungs
unfoldable pub table_utilities : List ℕ → ℕ → ℕ → Result (List ℕ) Refusal
table_utilities bytes segments rungs = map_ok concat (table_rows segments rungs (table_of bytes))
