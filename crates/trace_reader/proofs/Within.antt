-- A trace is refused by its first 100002 records where it is refused by all.
use Rattle.std.proofs.Common.{◌≡◌, ℕ, true, nat_lt, List, Option, Result, refl, ap, arith}
use Rattle.std.proofs.lemmas.Bool.Decides.{nat_tests}
use Rattle.lab_model.specs.Steps.{◌>>=◌}
use Rattle.csv_records.specs.Table.{table_within}
use Rattle.reader_faults.proofs.Each.{EndsAt}
use Rattle.reader_faults.proofs.Within.{reads_within}
use Rattle.lab_model.specs.declared.trace.Period.{Period}
use Rattle.lab_model.specs.declared.fault.Refusal.{Refusal}
use Rattle.lab_model.specs.declared.fault.Kind.TheVariants as kind
use Rattle.lab_model.specs.declared.fault.Key.TheVariants as key
use Rattle.trace_reader.specs.Cycle.{good_cycle}
use Rattle.lab_model.specs.Reading.{refusal}
use Rattle.reader_faults.specs.Header.{behind_header}
use Rattle.trace_reader.specs.TraceCsv.{periods_to_end, is_trace_header, period_in_row, table_trace, trace_csv_of}

-- no period is read behind the row 100001
last_row : EndsAt 100001 (λ (_ : Option Period). period_in_row)
last_row b row r late = let past : nat_lt 100001 row ≡ true = grind (arith, nat_tests) in (refusal kind.OutOfRange key.Whole row 0, rw past refl)

-- the first 100002 records of a text say what all of them say
pub trace_within : (bytes : List ℕ) → table_trace (table_within 100002 bytes) ≡ trace_csv_of bytes
unfolding trace_csv_of
trace_within bytes =
    ap (λ (ps : Result (List Period) Refusal). ps >>= good_cycle)
    (reads_within (behind_header is_trace_header) is_trace_header (refusal kind.Shape key.Header 1 0) (λ (_ : Option Period). period_in_row) 100001 periods_to_end (λ r rs. refl) last_row (omega arith) bytes)
