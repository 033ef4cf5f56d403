use Rattle.std.proofs.Common.{◌∙◌, sym}
use Rattle.lab_model.proofs.Refusals.{fails_on, gives_error}
use Rattle.certificate_text.proofs.Loops.{numbers_ended, numbers_more, numbers_stopped}
use Rattle.certificate_text.proofs.fields.push_numbers.Goals as goal

pub returns-in_err-n : goal.returns-in_err-n
returns-in_err-n c =
    gives_error _ c.from_residual.result c.in_err-n.field-0.0 _ c.from_residual.ensures.1
    (fails_on _ _ _ (rw c.stop_before.ensures at c.in_err-n.ensures.number) (λ y h. sym c.loop-i.invariant ∙ numbers_stopped c.loop-i.into.items c.args.row c.args.digits c.args.count c.loop-i.i c.loop-i.rest.now y c.loop-i-test.true h))

pub loop-i-preserved : goal.loop-i-preserved
loop-i-preserved c =
    rw c.in_ok-push.ensures.ok
    (numbers_more c.loop-i.into.items c.args.row c.args.digits c.args.count c.loop-i.i c.in_ok-n.n c.loop-i.rest.now c.in_ok-n.behind.now c.loop-i-test.true (rw c.stop_before.ensures at c.in_ok-n.ensures.number) ∙ c.loop-i.invariant)

pub returns : goal.returns
returns c = sym c.loop-i.invariant ∙ numbers_ended c.loop-i.into.items c.args.row c.args.digits c.args.count c.loop-i.i c.loop-i.rest.now c.loop-i-test.false
