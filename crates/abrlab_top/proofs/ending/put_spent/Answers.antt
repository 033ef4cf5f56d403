use Rattle.abrlab_top.specs.Ending.{spender}
use Rattle.lab_io.proofs.Puts.{puts_failed, puts_more}
use Rattle.abrlab_top.proofs.ending.put_spent.Goals as goal

pub returns-in_err-put_spender : goal.returns-in_err-put_spender
returns-in_err-put_spender g c = puts_failed _ _ (spender c.args.trace) _ _ c.from_residual.result _ c.in_err-put_spender.was c.from_residual.ensures.1 c.put_spender.ensures

pub returns : goal.returns
returns g c = puts_more _ _ _ (spender c.args.trace) _ _ _ _ c.in_ok-put_spender.was c.put_spender.ensures c.put_spending.ensures
