-- A trace that was read keeps the limits of a trace.
use Rattle.std.proofs.Common.{◌≡◌, ◌*◌, ℕ, cond, nat_lt, List, length, Ok, Err, subst, arith}
use Rattle.std.specs.List.{All}
use Rattle.std.proofs.lemmas.Bool.Decides.{nat_tests}
use Rattle.serde_json.specs.Data.{Data}
use Rattle.json_fields.specs.Fields.{json_value_of}
use Rattle.lab_model.proofs.Steps.{test_err, then_ok}
use Rattle.csv_records.specs.Table.{table_of}
use Rattle.lab_model.specs.Cycle.{IsPeriod, IsTrace, cycle_bits, cycle_ms}
use Rattle.lab_model.specs.Film.{IsWithin}
use Rattle.lab_model.specs.declared.trace.Period.{Period}
use Rattle.lab_model.specs.declared.fault.Kind.TheVariants as kind
use Rattle.lab_model.specs.declared.fault.Key.TheVariants as key
use Rattle.trace_reader.specs.Cycle.{good_cycle}
use Rattle.lab_model.specs.Reading.{refusal}
use Rattle.reader_faults.specs.Faults.{value_at}
use Rattle.trace_reader.specs.Trace.{periods_of, trace_json, trace_of_json}
use Rattle.trace_reader.specs.TraceCsv.{table_periods, trace_csv_of}
use Rattle.trace_reader.proofs.CsvLimits.{table_periods-count, table_periods-periods}
use Rattle.trace_reader.proofs.Limits.{periods_of-count, periods_of-periods}

good_cycle-limits : (ps qs : List Period) → IsWithin 1 100000 (length ps) → All IsPeriod ps → good_cycle ps ≡ Ok qs → IsTrace qs
good_cycle-limits ps qs count periods h =
    let short = test_err (nat_lt 100000000 (cycle_ms ps)) (cond (nat_lt (cycle_bits ps) (1000 * cycle_ms ps)) (Err (refusal kind.TooSlow key.Cycle 0 0)) (Ok ps)) qs (refusal kind.OutOfRange key.Cycle 0 0) h in
    let carries = test_err (nat_lt (cycle_bits ps) (1000 * cycle_ms ps)) (Ok ps) qs (refusal kind.TooSlow key.Cycle 0 0) short.1 in
    let same : ps ≡ qs = cc in
    subst IsTrace same (record { count = count; periods = periods; cycle = grind (arith, nat_tests, short.0); carries = grind (arith, nat_tests, carries.0) })

trace_of_json-limits : (d : Data) (qs : List Period) → trace_of_json d ≡ Ok qs → IsTrace qs
trace_of_json-limits d qs h =
    let ps = then_ok (periods_of d) good_cycle qs h in
    good_cycle-limits ps.0 qs (periods_of-count d ps.0 ps.1) (periods_of-periods d ps.0 ps.1) ps.2

-- what a JSON trace is accepted as keeps the limits
pub trace_json-limits : (bytes : List ℕ) (ps : List Period) → trace_json bytes ≡ Ok ps → IsTrace ps
unfolding trace_json
trace_json-limits bytes ps h =
    let d = then_ok (value_at key.Whole 0 0 (json_value_of bytes)) trace_of_json ps h in
    trace_of_json-limits d.0 ps d.2

-- what a CSV trace is accepted as keeps the limits
pub trace_csv-limits : (bytes : List ℕ) (ps : List Period) → trace_csv_of bytes ≡ Ok ps → IsTrace ps
unfolding trace_csv_of
trace_csv-limits bytes ps h =
    let qs = then_ok (table_periods (table_of bytes)) good_cycle ps h in
    good_cycle-limits qs.0 ps (table_periods-count (table_of bytes) qs.0 qs.1) (table_periods-periods (table_of bytes) qs.0 qs.1) qs.2
