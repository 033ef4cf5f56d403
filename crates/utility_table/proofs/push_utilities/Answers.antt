use Rattle.std.proofs.Common.{◌∙◌, ◌+◌, ◌∷◌, ◌++◌, [], Ok, get_or, ap, sym, refl, append_assoc, append-nil}
use Rattle.csv.specs.Records.{fields_of}
use Rattle.csv_records.specs.Field.{without_blanks}
use Rattle.lab_model.proofs.Refusals.{fails_on, gives_error}
use Rattle.reader_faults.proofs.Each.{each_ended, each_stopped, each_went}
use Rattle.utility_table.specs.Table.{utility_in}
use Rattle.utility_table.proofs.Fields.{field_here}
use Rattle.utility_table.proofs.push_utilities.Goals as goal

pub returns-in_err-utility : goal.returns-in_err-utility
returns-in_err-utility c =
    let fields = fields_of c.args.fields.now in
    let field = get_or fields c.loop-column.column [] in
    let low = rw c.len-column-end.ensures at c.loop-column-test.true in
    let here = c.field_in.ensures ∙ field_here fields c.loop-column.column low in
    gives_error _ c.from_residual.result c.in_err-utility.field-0.0 _ c.from_residual.ensures.1
    (fails_on _ _ _ c.in_err-utility.ensures (λ y h. sym c.loop-column.invariant ∙ each_stopped without_blanks (utility_in c.args.row) _ fields c.loop-column.column [] field c.loop-column.before (c.loop-column.column + 1) y low refl (rw here at h)))

pub loop-column-preserved : goal.loop-column-preserved
loop-column-preserved c =
    let fields = fields_of c.args.fields.now in
    let field = get_or fields c.loop-column.column [] in
    let low = rw c.len-column-end.ensures at c.loop-column-test.true in
    let here = c.field_in.ensures ∙ field_here fields c.loop-column.column low in
    rw c.in_ok-push.ensures.items
    (each_went without_blanks (utility_in c.args.row) (λ us. c.loop-column.utilities.items ++ us) _ fields c.loop-column.column [] field c.loop-column.before (c.loop-column.column + 1) (c.loop-column.column + 1 + 1) c.in_ok-utility.utility low refl refl (rw here at c.in_ok-utility.ensures) (λ us. append_assoc c.loop-column.utilities.items (c.in_ok-utility.utility ∷ []) us) ∙ c.loop-column.invariant)

pub returns : goal.returns
returns c = sym c.loop-column.invariant ∙ each_ended without_blanks (utility_in c.args.row) _ (fields_of c.args.fields.now) c.loop-column.column c.loop-column.before (c.loop-column.column + 1) (rw c.len-column-end.ensures at c.loop-column-test.false) ∙ ap Ok (append-nil c.loop-column.utilities.items)
