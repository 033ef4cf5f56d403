-- What the bytes of a trace stand for: its periods, or the first test that fails.
use Rattle.std.specs.Prelude.{ℕ, ◌*◌, List, Result, Ok, codes}
use Rattle.serde_json.specs.Data.{Data}
use Rattle.json_fields.specs.Fields.{list_of, json_number_at, object_of, json_value_of}
use Rattle.lab_model.specs.Steps.{◌>>=◌}
use Rattle.lab_model.specs.declared.trace.Period.{Period}
use Rattle.lab_model.specs.declared.fault.Refusal.{Refusal}
use Rattle.lab_model.specs.declared.fault.Key.{Key}
use Rattle.lab_model.specs.declared.fault.Key.TheVariants as key
use Rattle.reader_faults.specs.Each.{each_from}
use Rattle.reader_faults.specs.Faults.{members_within, value_at}
use Rattle.trace_reader.specs.Cycle.{good_cycle}

-- the number under a key of a period
abbrev pub field_of : Key → List ℕ → ℕ → ℕ → ℕ → Data → Result ℕ Refusal
field_of k name least most row d = value_at k row 0 (json_number_at name least most d)

-- the period of these numbers, the bandwidth in kbps
abbrev pub period : ℕ → ℕ → ℕ → Period
period duration_ms bandwidth_kbps latency = record { duration_ms = duration_ms; bandwidth = 1000 * bandwidth_kbps; latency = latency }

-- the period that an object is
abbrev pub period_of_object : ℕ → Data → Result Period Refusal
period_of_object row d = do
  duration_ms ← field_of key.Duration (codes "duration_ms") 1 10000000 row d
  bandwidth_kbps ← field_of key.Bandwidth (codes "bandwidth_kbps") 0 10000000 row d
  latency ← field_of key.Latency (codes "latency_ms") 0 10000 row d
  Ok (period duration_ms bandwidth_kbps latency)

-- the period in a row
abbrev pub json_period_in : ℕ → Data → Result Period Refusal
json_period_in row d = do
  o ← value_at key.Period row 0 (object_of d)
  period_of_object row o

-- the members of the list that the bytes are, 1 to 100000
abbrev pub period_members : Data → Result (List Data) Refusal
period_members d = do
  ds ← value_at key.Whole 0 0 (list_of d)
  members_within key.Whole 100000 ds

-- the periods of a list
abbrev pub periods_of : Data → Result (List Period) Refusal
periods_of d = do
  ds ← period_members d
  each_from json_period_in 1 ds

-- the trace that a value is
abbrev pub trace_of_json : Data → Result (List Period) Refusal
trace_of_json d = do
  periods ← periods_of d
  good_cycle periods

-- the trace that the bytes of a JSON text are
unfoldable pub trace_json : List ℕ → Result (List Period) Refusal
trace_json bytes = do
  d ← value_at key.Whole 0 0 (json_value_of bytes)
  trace_of_json d
