use Rattle.std.proofs.Common.{◌∙◌, refl, sym, arith}
use Rattle.price_bounds.proofs.Verdicts.{window_end}
use Rattle.price_bounds.proofs.check.bad_window.Goals as goal

pub loop-number-init : goal.loop-number-init
loop-number-init c = refl

pub returns : goal.returns
returns c = sym (c.loop-number.invariant ∙ window_end c.args.segments c.loop-number.first c.loop-number.last c.loop-number.number c.args.windows.now (omega arith))
