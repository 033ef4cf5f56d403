-- What the bytes of a seek script stand for: its seeks, or the first test that fails.
use Rattle.std.specs.Prelude.{ℕ, ◌==◌, ◌&&◌, Bool, List, length, Option, Some, None, Result, Ok, Err, codes, if◌then◌else◌, nat_lt}
use Rattle.csv_records.specs.Table.{Fields, Table, table_of}
use Rattle.csv_records.specs.Field.{field_in, is_named, whole_number}
use Rattle.lab_model.specs.Steps.{◌>>=◌}
use Rattle.lab_model.specs.declared.context.Seek.{Seek}
use Rattle.lab_model.specs.declared.fault.Refusal.{Refusal}
use Rattle.lab_model.specs.declared.fault.Kind.TheVariants as kind
use Rattle.lab_model.specs.declared.fault.Key.TheVariants as key
use Rattle.lab_model.specs.Reading.{refusal}
use Rattle.reader_faults.specs.Each.{each_after}
use Rattle.reader_faults.specs.Faults.{field_at}
use Rattle.reader_faults.specs.Header.{behind_header}

-- the record is the two fields `at_ms` and `to_segment`
abbrev pub is_seek_header : Fields → Bool
is_seek_header r = (length r == 2) && is_named 0 (codes "at_ms") r && is_named 1 (codes "to_segment") r

-- a row of one of the 16 records behind the header
abbrev pub seek_row_within : ℕ → Result ℕ Refusal
seek_row_within row = if nat_lt 17 row then Err (refusal kind.OutOfRange key.Whole row 0) else Ok row

-- an instant in ms, up to 1000000000
abbrev pub instant_in : ℕ → Fields → Result ℕ Refusal
instant_in row r = field_at key.SeekAt row 1 (whole_number 0 1000000000 (field_in 0 r))

-- it is later than the seek before
abbrev pub later : Option Seek → ℕ → ℕ → Result ℕ Refusal
later None row at_ms = Ok at_ms
later (Some before) row at_ms = if nat_lt before.at_ms at_ms then Ok at_ms else Err (refusal kind.Order key.SeekAt row 1)

-- a number of a segment: it is below the number of segments
abbrev pub below : ℕ → ℕ → ℕ → Result ℕ Refusal
below segments row to = if nat_lt to segments then Ok to else Err (refusal kind.OutOfRange key.SeekTo row 2)

-- the segment that is sought
abbrev pub target_in : ℕ → ℕ → Fields → Result ℕ Refusal
target_in segments row r = do
  to ← field_at key.SeekTo row 2 (whole_number 0 65535 (field_in 1 r))
  below segments row to

-- the seek to a segment at an instant
abbrev pub seek_to : ℕ → ℕ → Seek
seek_to at_ms to = record { at_ms = at_ms; to = to }

-- the seek in a row, behind the one before
abbrev pub seek_in : ℕ → Option Seek → ℕ → Fields → Result Seek Refusal
seek_in segments before row r = do
  _ ← seek_row_within row
  at_ms ← instant_in row r
  _ ← later before row at_ms
  to ← target_in segments row r
  Ok (seek_to at_ms to)

-- the seeks, if no uneven record stands behind theirs
abbrev pub seeks_to_end : Option ℕ → List Seek → Result (List Seek) Refusal
seeks_to_end None seeks = Ok seeks
seeks_to_end (Some row) seeks = Err (refusal kind.NotCsv key.SeekRow row 0)

-- the seeks of a table, in a film of so many segments
abbrev pub seeks_in : ℕ → Table → Result (List Seek) Refusal
seeks_in segments t = do
  rs ← behind_header is_seek_header t.rows
  seeks ← each_after (seek_in segments) None 2 rs
  seeks_to_end t.uneven seeks

-- the seeks that the bytes are, in a film of so many segments
unfoldable pub seeks_of : List ℕ → ℕ → Result (List Seek) Refusal
seeks_of bytes segments = seeks_in segments (table_of bytes)
