use Rattle.std.proofs.Common.{◌≡◌, ◌∙◌, ℕ, List, Option, Result, ap, length, map, rules, sym}
use Rattle.std.specs.List.{concat}
use Rattle.std.proofs.lemmas.List.{length-map}
use Rattle.csv.specs.Records.{fields_of}
use Rattle.lab_model.specs.Steps.{◌>>=◌, map_ok}
use Rattle.lab_model.specs.declared.fault.Refusal.{Refusal}
use Rattle.lab_model.proofs.Refusals.{fails_on, gives_error}
use Rattle.lab_model.proofs.Steps.{map_ok-err, map_ok-ok}
use Rattle.reader_faults.specs.Each.{each_from}
use Rattle.reader_faults.proofs.Each.{each_count}
use Rattle.csv_records.specs.Table.{table_in}
use Rattle.utility_table.specs.Table.{utilities_in_row, rows_to_end}
use Rattle.utility_table.proofs.table_rows.Goals as goal

pub returns-in_err-utilities : goal.returns-in_err-utilities
returns-in_err-utilities c =
    let failed = rw c.deref.ensures.value at c.in_err-utilities.ensures.utilities in
    gives_error _ c.from_residual.result c.in_err-utilities.field-0.0 _ c.from_residual.ensures.1
    (fails_on _ _ _ failed (λ y k. ap (λ (r : Result (List (List ℕ)) Refusal). map_ok concat (r >>= rows_to_end c.args.segments (table_in c.args.records.now).uneven)) (map_ok-err concat _ y k)))

pub returns : goal.returns
returns c =
    let records = map fields_of c.args.records.now.rows.items in
    let m = map_ok-ok concat (each_from (utilities_in_row c.args.segments c.args.rungs) 1 records) c.in_ok-utilities.utilities.items (rw c.deref.ensures.value at c.in_ok-utilities.ensures.utilities) in
    let count : length m.0 ≡ length c.args.records.now.rows.items = each_count (λ (_ : Option (List ℕ)). utilities_in_row c.args.segments c.args.rungs) _ 1 records m.0 m.1 ∙ length-map c.args.records.now.rows.items fields_of in
    let size : c.len.result ≡ length c.args.records.now.rows.items = search rules in
    let said = c.rows_to_end.ensures m.0 (sym m.2) (size ∙ sym count) in
    rw m.1 (rw c.uneven_row.ensures.value at said)
