use Rattle.std.proofs.Common.{◌∙◌, ◌+◌, ◌∷◌, ◌++◌, [], Option, Ok, ℕ, ap, sym, append_assoc, append-nil, refl}
use Rattle.reader_faults.proofs.Each.{each_ended, each_next, each_stopped}
use Rattle.serde_json.specs.View.{view}
use Rattle.manifest_reader.specs.Manifest.{size_in}
use Rattle.lab_model.proofs.Refusals.{fails_on, gives_error}
use Rattle.manifest_reader.proofs.push_sizes.Goals as goal

pub returns-in_err-size : goal.returns-in_err-size
returns-in_err-size c =
    gives_error _ c.from_residual.result c.in_err-size.field-0.0 _ c.from_residual.ensures.1
    (fails_on _ _ _ c.in_err-size.ensures (λ y h. sym c.loop-i.invariant ∙ each_stopped view (λ (_ : Option ℕ). size_in c.args.row) _ c.args.values.now c.loop-i.i _ c.index-values-i.result _ (c.loop-i.i + 1) y c.loop-i-test.true c.index-values-i.is h))

pub loop-i-preserved : goal.loop-i-preserved
loop-i-preserved c =
    rw c.in_ok-push.ensures.items
    (each_next view (size_in c.args.row) (λ xs. c.loop-i.sizes.items ++ xs) _ c.args.values.now c.loop-i.i _ c.index-values-i.result (c.loop-i.i + 1) (c.loop-i.i + 1 + 1) c.in_ok-size.size c.loop-i-test.true c.index-values-i.is refl c.in_ok-size.ensures (λ xs. append_assoc c.loop-i.sizes.items (c.in_ok-size.size ∷ []) xs) ∙ c.loop-i.invariant)

pub returns : goal.returns
returns c = sym c.loop-i.invariant ∙ each_ended view (λ (_ : Option ℕ). size_in c.args.row) _ c.args.values.now c.loop-i.i _ (c.loop-i.i + 1) c.loop-i-test.false ∙ ap Ok (append-nil c.loop-i.sizes.items)
