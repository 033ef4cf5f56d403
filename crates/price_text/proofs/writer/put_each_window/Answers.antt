use Rattle.std.proofs.Common.{refl, sym}
use Rattle.lab_io.proofs.Puts.{puts_as, puts_failed, puts_more, puts_none}
use Rattle.price_text.proofs.Texts.{windows_end, windows_from}
use Rattle.price_text.proofs.writer.put_each_window.Goals as goal

pub loop-window-preserved : goal.loop-window-preserved
loop-window-preserved g c = λ end answer h.
    c.loop-window.invariant end answer (puts_as _ _ _ _ _ (sym (windows_from c.args.windows.now c.loop-window.window-index _ c.loop-window-test.true))
    (puts_more _ _ _ _ _ _ _ _ c.in_ok-put_window.was c.put_window.ensures h))

pub returns-in_err-put_window : goal.returns-in_err-put_window
returns-in_err-put_window g c =
    c.loop-window.invariant _ _ (puts_as _ _ _ _ _ (sym (windows_from c.args.windows.now c.loop-window.window-index _ c.loop-window-test.true))
    (puts_failed _ _ _ _ _ c.from_residual.result _ c.in_err-put_window.was c.from_residual.ensures.1 c.put_window.ensures))

pub returns : goal.returns
returns g c = c.loop-window.invariant _ _ (rw (windows_end c.args.windows.now c.loop-window.window-index c.loop-window-test.false) (puts_none _ _ refl))
