use Rattle.std.proofs.Common.{◌∙◌, ◌+◌, ◌∷◌, ◌++◌, [], Option, Ok, ap, sym, append_assoc, append-nil, refl}
use Rattle.reader_faults.proofs.Each.{each_ended, each_next, each_stopped}
use Rattle.serde_json.specs.View.{view}
use Rattle.lab_model.specs.declared.trace.Period.{Period}
use Rattle.trace_reader.specs.Trace.{json_period_in}
use Rattle.lab_model.proofs.Refusals.{fails_on, gives_error}
use Rattle.trace_reader.proofs.json.all_periods.Goals as goal

pub returns-in_err-period : goal.returns-in_err-period
returns-in_err-period c =
    gives_error _ c.from_residual.result c.in_err-period.field-0.0 _ c.from_residual.ensures.1
    (fails_on _ _ _ c.in_err-period.ensures (λ y h. sym c.loop-i.invariant ∙ each_stopped view (λ (_ : Option Period). json_period_in) _ c.args.values.now c.loop-i.i _ c.index-values-i.result _ (c.loop-i.i + 1) y c.loop-i-test.true c.index-values-i.is h))

pub loop-i-preserved : goal.loop-i-preserved
loop-i-preserved c =
    rw c.in_ok-push.ensures.items
    (each_next view json_period_in (λ ps. c.loop-i.periods.items ++ ps) _ c.args.values.now c.loop-i.i _ c.index-values-i.result (c.loop-i.i + 1) (c.loop-i.i + 1 + 1) c.in_ok-period.period c.loop-i-test.true c.index-values-i.is refl c.in_ok-period.ensures (λ ps. append_assoc c.loop-i.periods.items (c.in_ok-period.period ∷ []) ps) ∙ c.loop-i.invariant)

pub returns : goal.returns
returns c = sym c.loop-i.invariant ∙ each_ended view (λ (_ : Option Period). json_period_in) _ c.args.values.now c.loop-i.i _ (c.loop-i.i + 1) c.loop-i-test.false ∙ ap Ok (append-nil c.loop-i.periods.items)
