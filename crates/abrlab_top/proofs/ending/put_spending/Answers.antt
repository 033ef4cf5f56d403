use Rattle.std.proofs.Common.{codes}
use Rattle.lab_io.proofs.Puts.{puts_failed, puts_more}
use Rattle.abrlab_top.proofs.ending.put_spending.Goals as goal

pub returns-in_err-put_text : goal.returns-in_err-put_text
returns-in_err-put_text g c = puts_failed _ _ (codes "budget spent at segment ") _ _ c.from_residual.result _ c.in_err-put_text.was c.from_residual.ensures.1 c.put_text.ensures

pub returns : goal.returns
returns g c = puts_more _ _ _ (codes "budget spent at segment ") _ _ _ _ c.in_ok-put_text.was c.put_text.ensures c.put_segment.ensures
