-- Periods that were read keep their limits.
use Rattle.std.proofs.Common.{◌≡◌, ℕ, List, length, Option, None, Ok, codes, sym, subst, arith}
use Rattle.std.specs.List.{All}
use Rattle.serde_json.specs.Data.{Data}
use Rattle.json_fields.specs.Fields.{list_of, json_number_at, object_of}
use Rattle.lab_model.specs.Steps.{◌>>=◌}
use Rattle.lab_model.proofs.Steps.{then_ok}
use Rattle.reader_faults.specs.Each.{each_from}
use Rattle.reader_faults.proofs.Places.{members_within-ok, value_at-ok}
use Rattle.reader_faults.proofs.Ranges.{json_number_at-within}
use Rattle.reader_faults.proofs.Each.{each_all, each_count}
use Rattle.lab_model.specs.Cycle.{IsPeriod}
use Rattle.lab_model.specs.Film.{IsWithin}
use Rattle.lab_model.specs.declared.trace.Period.{Period}
use Rattle.lab_model.specs.declared.fault.Key.{Key}
use Rattle.lab_model.specs.declared.fault.Key.TheVariants as key
use Rattle.reader_faults.specs.Faults.{members_within, value_at}
use Rattle.trace_reader.specs.Trace.{field_of, period_of_object, period_members, period, json_period_in, periods_of}

-- 1 to 100000 periods were read
pub periods_of-count : (d : Data) (ps : List Period) → periods_of d ≡ Ok ps → IsWithin 1 100000 (length ps)
periods_of-count d ps h =
    let ds = then_ok (period_members d) (λ ds. each_from json_period_in 1 ds) ps h in
    let members = then_ok (value_at key.Whole 0 0 (list_of d)) (members_within key.Whole 100000) ds.0 ds.1 in
    subst (IsWithin 1 100000) (sym (each_count (λ (_ : Option Period). json_period_in) None 1 ds.0 ps ds.2)) (members_within-ok key.Whole 100000 members.0 ds.0 members.2).1

field_of-within : (k : Key) (name : List ℕ) (least most row : ℕ) (d : Data) (n : ℕ) → field_of k name least most row d ≡ Ok n → IsWithin least most n
field_of-within k name least most row d n h = json_number_at-within name least most d n (value_at-ok k row 0 (json_number_at name least most d) n h)

period-limits : (duration_ms bandwidth_kbps latency : ℕ) → IsWithin 1 10000000 duration_ms → IsWithin 0 10000000 bandwidth_kbps → IsWithin 0 10000 latency → IsPeriod (period duration_ms bandwidth_kbps latency)
period-limits duration_ms bandwidth_kbps latency a b c = record { duration = a; bandwidth = omega (arith, b.1); latency = c.1 }

period_of_object-limits : (row : ℕ) (d : Data) (p : Period) → period_of_object row d ≡ Ok p → IsPeriod p
period_of_object-limits row d p h =
    let a = then_ok (field_of key.Duration (codes "duration_ms") 1 10000000 row d) (λ x. field_of key.Bandwidth (codes "bandwidth_kbps") 0 10000000 row d >>= (λ y. field_of key.Latency (codes "latency_ms") 0 10000 row d >>= (λ z. Ok (period x y z)))) p h in
    let b = then_ok (field_of key.Bandwidth (codes "bandwidth_kbps") 0 10000000 row d) (λ y. field_of key.Latency (codes "latency_ms") 0 10000 row d >>= (λ z. Ok (period a.0 y z))) p a.2 in
    let c = then_ok (field_of key.Latency (codes "latency_ms") 0 10000 row d) (λ z. Ok (period a.0 b.0 z)) p b.2 in
    let same : period a.0 b.0 c.0 ≡ p = cc in
    subst IsPeriod same (period-limits a.0 b.0 c.0 (field_of-within key.Duration (codes "duration_ms") 1 10000000 row d a.0 a.1) (field_of-within key.Bandwidth (codes "bandwidth_kbps") 0 10000000 row d b.0 b.1) (field_of-within key.Latency (codes "latency_ms") 0 10000 row d c.0 c.1))

json_period_in-limits : (row : ℕ) (d : Data) (p : Period) → json_period_in row d ≡ Ok p → IsPeriod p
json_period_in-limits row d p h = let o = then_ok (value_at key.Period row 0 (object_of d)) (period_of_object row) p h in period_of_object-limits row o.0 p o.2

-- each of them keeps its limits
pub periods_of-periods : (d : Data) (ps : List Period) → periods_of d ≡ Ok ps → All IsPeriod ps
periods_of-periods d ps h =
    let ds = then_ok (period_members d) (λ ds. each_from json_period_in 1 ds) ps h in
    each_all IsPeriod (λ (_ : Option Period). json_period_in) None 1 ds.0 ps (λ (_ : Option Period). json_period_in-limits) ds.2
