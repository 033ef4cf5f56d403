use Rattle.std.proofs.Common.{◌∙◌, ◌+◌, ◌++◌, Option, Ok, List, ℕ, ap, sym, append_assoc, append-nil, refl}
use Rattle.std.specs.List.{concat}
use Rattle.reader_faults.proofs.Each.{each_ended, each_next, each_stopped}
use Rattle.lab_model.proofs.Steps.{map_ok-err, map_ok-ok}
use Rattle.serde_json.specs.View.{view}
use Rattle.manifest_reader.specs.Manifest.{sizes_in_row}
use Rattle.lab_model.proofs.Refusals.{fails_on, gives_error}
use Rattle.manifest_reader.proofs.all_sizes.Goals as goal

pub returns-in_err-push_row : goal.returns-in_err-push_row
returns-in_err-push_row c =
    gives_error _ c.from_residual.result c.in_err-push_row.field-0.0 _ c.from_residual.ensures.1
    (fails_on _ _ _ c.in_err-push_row.ensures (λ y h. sym c.loop-i.invariant ∙ each_stopped view (λ (_ : Option (List ℕ)). sizes_in_row c.args.rungs) _ c.args.values.now c.loop-i.i _ c.index-values-i.result _ (c.loop-i.i + 1) y c.loop-i-test.true c.index-values-i.is (map_ok-err _ _ y h)))

pub loop-i-preserved : goal.loop-i-preserved
loop-i-preserved c =
    let row = map_ok-ok (λ xs. c.loop-i.sizes.items ++ xs) _ c.push_row.new.sizes.items c.in_ok-push_row.ensures in
    each_next view (sizes_in_row c.args.rungs) (λ rows. c.loop-i.sizes.items ++ concat rows) (λ rows. c.push_row.new.sizes.items ++ concat rows) c.args.values.now c.loop-i.i _ c.index-values-i.result (c.loop-i.i + 1) (c.loop-i.i + 1 + 1) row.0 c.loop-i-test.true c.index-values-i.is refl row.1
    (λ rows. ap (λ (front : List ℕ). front ++ concat rows) (sym row.2) ∙ append_assoc c.loop-i.sizes.items row.0 (concat rows)) ∙ c.loop-i.invariant

pub returns : goal.returns
returns c = sym c.loop-i.invariant ∙ each_ended view (λ (_ : Option (List ℕ)). sizes_in_row c.args.rungs) _ c.args.values.now c.loop-i.i _ (c.loop-i.i + 1) c.loop-i-test.false ∙ ap Ok (append-nil c.loop-i.sizes.items)
