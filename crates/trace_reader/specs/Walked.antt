-- What a walk along a CSV trace has read.
use Rattle.std.specs.Prelude.{◌≡◌, ℕ, true, List, [], ◌∷◌, Result, Ok, Err}
use Rattle.csv.specs.Records.{fields_of}
use Rattle.csv_records.specs.Table.{table_within}
use Rattle.csv_records.specs.Walk.{HasGiven}
use Rattle.csv_records.specs.declared.walk.Walk.{Walk}
use Rattle.lab_model.specs.Reading.{Fails}
use Rattle.lab_model.specs.declared.fault.InputFault.{InputFault}
use Rattle.trace_reader.specs.TraceCsv.{is_trace_header, table_periods}

-- the walk gave the header, or the text is refused for its first record
abbrev pub Headed : {X : Type 0} → List ℕ → Result X InputFault → Walk → Type 0
Headed bytes (Ok x) w = HasGiven bytes 100002 (fields_of w.row ∷ []) w × (is_trace_header (fields_of w.row) ≡ true)
Headed bytes (Err e) w = Fails e (table_periods (table_within 100002 bytes))
