use Rattle.std.proofs.Common.{◌∙◌, sym}
use Rattle.lab_model.proofs.Refusals.{fails_on, gives_error}
use Rattle.price_text.proofs.Loops.{windows_ended, windows_more, windows_stopped}
use Rattle.price_text.proofs.reader.push_windows.Goals as goal

pub returns-in_err-window : goal.returns-in_err-window
returns-in_err-window c =
    gives_error _ c.from_residual.result c.in_err-window.field-0.0 _ c.from_residual.ensures.1
    (fails_on _ _ _ c.in_err-window.ensures (λ y h. sym c.loop-i.invariant ∙ windows_stopped c.loop-i.into.items c.args.row c.args.count c.loop-i.i c.loop-i.rest.now y c.loop-i-test.true h))

pub loop-i-preserved : goal.loop-i-preserved
loop-i-preserved c =
    rw c.in_ok-push.ensures.ok
    (windows_more c.loop-i.into.items c.in_ok-window.window c.args.row c.args.count c.loop-i.i c.loop-i.rest.now c.in_ok-window.later.now c.loop-i-test.true c.in_ok-window.ensures ∙ c.loop-i.invariant)

pub returns : goal.returns
returns c = sym c.loop-i.invariant ∙ windows_ended c.loop-i.into.items c.args.row c.args.count c.loop-i.i c.loop-i.rest.now c.loop-i-test.false
