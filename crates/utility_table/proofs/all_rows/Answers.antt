use Rattle.std.proofs.Common.{◌∙◌, ◌+◌, ◌++◌, Option, Ok, List, ℕ, ap, sym, refl, append_assoc, append-nil}
use Rattle.std.specs.List.{concat}
use Rattle.csv.specs.Records.{fields_of}
use Rattle.lab_model.proofs.Refusals.{fails_on, gives_error}
use Rattle.lab_model.proofs.Steps.{map_ok-err, map_ok-ok}
use Rattle.reader_faults.proofs.Each.{each_ended, each_next, each_stopped}
use Rattle.utility_table.specs.Table.{utilities_in_row}
use Rattle.utility_table.proofs.all_rows.Goals as goal

pub returns-in_err-push_row-clause-utilities : goal.returns-in_err-push_row-clause-utilities
returns-in_err-push_row-clause-utilities c =
    gives_error _ c.from_residual.result c.in_err-push_row.field-0.0 _ c.from_residual.ensures.1
    (fails_on _ _ _ c.in_err-push_row.ensures.utilities (λ y h. sym c.loop-i.invariant.rows ∙ each_stopped fields_of (λ (_ : Option (List ℕ)). utilities_in_row c.args.segments c.args.rungs) _ c.args.rows.now c.loop-i.i _ c.index-rows-i.result _ (c.loop-i.i + 1) y c.loop-i-test.true c.index-rows-i.is (map_ok-err _ _ y h)))

pub loop-i-preserved : goal.loop-i-preserved
loop-i-preserved c =
    let row = map_ok-ok (λ us. c.loop-i.utilities.items ++ us) _ c.push_row.new.utilities.items c.in_ok-push_row.ensures.utilities in
    record {
      few = c.in_ok-push_row.ensures.few;
      rows = each_next fields_of (utilities_in_row c.args.segments c.args.rungs) (λ rows. c.loop-i.utilities.items ++ concat rows) (λ rows. c.push_row.new.utilities.items ++ concat rows) c.args.rows.now c.loop-i.i _ c.index-rows-i.result (c.loop-i.i + 1) (c.loop-i.i + 1 + 1) row.0 c.loop-i-test.true c.index-rows-i.is refl row.1
          (λ rows. ap (λ (front : List ℕ). front ++ concat rows) (sym row.2) ∙ append_assoc c.loop-i.utilities.items row.0 (concat rows)) ∙ c.loop-i.invariant.rows;
    }

pub returns-clause-utilities : goal.returns-clause-utilities
returns-clause-utilities c = sym c.loop-i.invariant.rows ∙ each_ended fields_of (λ (_ : Option (List ℕ)). utilities_in_row c.args.segments c.args.rungs) _ c.args.rows.now c.loop-i.i _ (c.loop-i.i + 1) c.loop-i-test.false ∙ ap Ok (append-nil c.loop-i.utilities.items)
