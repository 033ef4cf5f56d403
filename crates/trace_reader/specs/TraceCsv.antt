-- What the bytes of a CSV trace stand for: its periods, or the first test that fails.
use Rattle.std.specs.Prelude.{ℕ, ◌==◌, ◌&&◌, Bool, List, [], ◌∷◌, length, Option, Some, None, Result, Ok, Err, codes, if◌then◌else◌, nat_lt}
use Rattle.csv_records.specs.Table.{Fields, Table, table_of}
use Rattle.csv_records.specs.Field.{field_in, is_named, thousandths, whole_number}
use Rattle.lab_model.specs.Steps.{◌>>=◌}
use Rattle.lab_model.specs.declared.trace.Period.{Period}
use Rattle.lab_model.specs.declared.fault.Refusal.{Refusal}
use Rattle.lab_model.specs.declared.fault.Kind.TheVariants as kind
use Rattle.lab_model.specs.declared.fault.Key.TheVariants as key
use Rattle.lab_model.specs.Reading.{refusal}
use Rattle.reader_faults.specs.Each.{each_from}
use Rattle.reader_faults.specs.Faults.{field_at}
use Rattle.reader_faults.specs.Header.{behind_header}
use Rattle.trace_reader.specs.Cycle.{good_cycle}

-- the record is the three fields `duration_ms`, `bandwidth_kbps` and `latency_ms`
abbrev pub is_trace_header : Fields → Bool
is_trace_header r = (length r == 3) && is_named 0 (codes "duration_ms") r && is_named 1 (codes "bandwidth_kbps") r && is_named 2 (codes "latency_ms") r

-- a row of one of the 100000 records behind the header
abbrev pub trace_row_within : ℕ → Result ℕ Refusal
trace_row_within row = if nat_lt 100001 row then Err (refusal kind.OutOfRange key.Whole row 0) else Ok row

-- the duration in ms
abbrev pub duration_in : ℕ → Fields → Result ℕ Refusal
duration_in row r = field_at key.Duration row 1 (whole_number 1 10000000 (field_in 0 r))

-- the bandwidth in thousandths of a kbps
abbrev pub bandwidth_in : ℕ → Fields → Result ℕ Refusal
bandwidth_in row r = field_at key.Bandwidth row 2 (thousandths 0 10000000 (field_in 1 r))

-- the latency in ms
abbrev pub latency_in : ℕ → Fields → Result ℕ Refusal
latency_in row r = field_at key.Latency row 3 (whole_number 0 10000 (field_in 2 r))

-- the period of these numbers, the bandwidth in thousandths of a kbps
abbrev pub period : ℕ → ℕ → ℕ → Period
period duration_ms bandwidth latency = record { duration_ms = duration_ms; bandwidth = bandwidth; latency = latency }

-- the period in a row
abbrev pub period_in_row : ℕ → Fields → Result Period Refusal
period_in_row row r = do
  _ ← trace_row_within row
  duration_ms ← duration_in row r
  bandwidth ← bandwidth_in row r
  latency ← latency_in row r
  Ok (period duration_ms bandwidth latency)

-- the periods, if no uneven record stands behind theirs and there are some
abbrev pub periods_to_end : Option ℕ → List Period → Result (List Period) Refusal
periods_to_end (Some row) ps = Err (refusal kind.NotCsv key.Period row 0)
periods_to_end None [] = Err (refusal kind.Empty key.Whole 0 0)
periods_to_end None (p ∷ ps) = Ok (p ∷ ps)

-- the periods of a table
abbrev pub table_periods : Table → Result (List Period) Refusal
table_periods t = do
  rs ← behind_header is_trace_header t.rows
  ps ← each_from period_in_row 2 rs
  periods_to_end t.uneven ps

-- the trace that a table is
abbrev pub table_trace : Table → Result (List Period) Refusal
table_trace t = do
  ps ← table_periods t
  good_cycle ps

-- the trace that the bytes of a CSV text are
unfoldable pub trace_csv_of : List ℕ → Result (List Period) Refusal
trace_csv_of bytes = table_trace (table_of bytes)
