-- Periods that were read from a table keep their limits.
use Rattle.std.proofs.Common.{◌≡◌, ◌≤◌, ◌+◌, ℕ, nat_lt, List, [], ◌∷◌, length, Option, Some, None, Ok, subst, arith}
use Rattle.std.specs.List.{All}
use Rattle.std.proofs.lemmas.Bool.Decides.{nat_tests}
use Rattle.csv_records.specs.Table.{Table}
use Rattle.csv_records.specs.Field.{field_in, thousandths, whole_number}
use Rattle.lab_model.specs.Steps.{◌>>=◌}
use Rattle.reader_faults.proofs.Ranges.{thousandths-within, whole_number-within}
use Rattle.reader_faults.specs.Each.{each_from}
use Rattle.reader_faults.proofs.Each.{each_all, each_most}
use Rattle.reader_faults.proofs.Places.{field_at-ok}
use Rattle.lab_model.proofs.Steps.{test_err, then_ok}
use Rattle.lab_model.specs.Cycle.{IsPeriod}
use Rattle.lab_model.specs.Film.{IsWithin}
use Rattle.lab_model.specs.declared.trace.Period.{Period}
use Rattle.lab_model.specs.declared.fault.Kind.TheVariants as kind
use Rattle.lab_model.specs.declared.fault.Key.TheVariants as key
use Rattle.lab_model.specs.Reading.{refusal}
use Rattle.reader_faults.specs.Header.{behind_header}
use Rattle.trace_reader.specs.TraceCsv.{bandwidth_in, trace_row_within, duration_in, periods_to_end, latency_in, period, period_in_row, table_periods, is_trace_header}

-- what a period that was read keeps
record Keeps (row : ℕ) (p : Period) : Type 0 where
  few : row ≤ 100001
  limits : IsPeriod p

keeps-of : (row duration_ms bandwidth latency : ℕ) → row ≤ 100001 → IsWithin 1 10000000 duration_ms → bandwidth ≤ 10000000000 → latency ≤ 10000 → Keeps row (period duration_ms bandwidth latency)
keeps-of row duration_ms bandwidth latency few a b c = record { few = few; limits = record { duration = a; bandwidth = b; latency = c } }

keeps : (row : ℕ) (r : List (List ℕ)) (p : Period) → period_in_row row r ≡ Ok p → Keeps row p
keeps row r p h =
    let a = then_ok (trace_row_within row) (λ _. duration_in row r >>= (λ x. bandwidth_in row r >>= (λ y. latency_in row r >>= (λ z. Ok (period x y z))))) p h in
    let b = then_ok (duration_in row r) (λ x. bandwidth_in row r >>= (λ y. latency_in row r >>= (λ z. Ok (period x y z)))) p a.2 in
    let c = then_ok (bandwidth_in row r) (λ y. latency_in row r >>= (λ z. Ok (period b.0 y z))) p b.2 in
    let d = then_ok (latency_in row r) (λ z. Ok (period b.0 c.0 z)) p c.2 in
    let same : period b.0 c.0 d.0 ≡ p = cc in
    let t = test_err (nat_lt 100001 row) (Ok row) a.0 (refusal kind.OutOfRange key.Whole row 0) a.1 in
    let few : row ≤ 100001 = grind (arith, nat_tests, t.0) in
    let duration = whole_number-within 1 10000000 (field_in 0 r) b.0 (field_at-ok key.Duration row 1 (whole_number 1 10000000 (field_in 0 r)) b.0 b.1) in
    let bandwidth = thousandths-within 0 10000000 (field_in 1 r) c.0 (field_at-ok key.Bandwidth row 2 (thousandths 0 10000000 (field_in 1 r)) c.0 c.1) in
    let latency = whole_number-within 0 10000 (field_in 2 r) d.0 (field_at-ok key.Latency row 3 (whole_number 0 10000 (field_in 2 r)) d.0 d.1) in
    subst (Keeps row) same (keeps-of row b.0 c.0 d.0 few duration bandwidth.1 latency.1)

periods_to_end-ok : (uneven : Option ℕ) (ps qs : List Period) → periods_to_end uneven ps ≡ Ok qs → (ps ≡ qs) × (1 ≤ length qs)
periods_to_end-ok None [] qs h = absurd cc
periods_to_end-ok None (p ∷ ps) qs h = let e : p ∷ ps ≡ qs = cc in (e, subst (λ (xs : List Period). 1 ≤ length xs) e (omega arith))
periods_to_end-ok (Some row) ps qs h = absurd cc

-- the periods of a table keep their limits
record Limits (ps : List Period) : Type 0 where
  count : IsWithin 1 100000 (length ps)
  periods : All IsPeriod ps

limits : (t : Table) (qs : List Period) → table_periods t ≡ Ok qs → Limits qs
limits t qs h =
    let rs = then_ok (behind_header is_trace_header t.rows) (λ rs. each_from period_in_row 2 rs >>= periods_to_end t.uneven) qs h in
    let ps = then_ok (each_from period_in_row 2 rs.0) (periods_to_end t.uneven) qs rs.2 in
    let last = periods_to_end-ok t.uneven ps.0 qs ps.2 in
    let most : length ps.0 + 2 ≤ 100001 + 1 = each_most (λ (_ : Option Period). period_in_row) 100001 None 2 rs.0 ps.0 (λ b p r s e. (keeps p r s e).few) ps.1 (omega arith) in
    let all : All IsPeriod ps.0 = each_all IsPeriod (λ (_ : Option Period). period_in_row) None 2 rs.0 ps.0 (λ b p r s e. (keeps p r s e).limits) ps.1 in
    let count : length qs ≤ 100000 = subst (λ (xs : List Period). length xs ≤ 100000) last.0 (omega (arith, most)) in
    record { count = (last.1, count); periods = subst (λ (xs : List Period). All IsPeriod xs) last.0 all }

-- 1 to 100000 periods were read
pub table_periods-count : (t : Table) (qs : List Period) → table_periods t ≡ Ok qs → IsWithin 1 100000 (length qs)
table_periods-count t qs h = (limits t qs h).count

-- each of them keeps its limits
pub table_periods-periods : (t : Table) (qs : List Period) → table_periods t ≡ Ok qs → All IsPeriod qs
table_periods-periods t qs h = (limits t qs h).periods
