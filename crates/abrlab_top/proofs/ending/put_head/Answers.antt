use Rattle.std.specs.Fmt.{decimal}
use Rattle.lab_io.proofs.Puts.{puts_failed, puts_more}
use Rattle.abrlab_top.proofs.ending.put_head.Goals as goal

pub returns-in_err-put_place : goal.returns-in_err-put_place
returns-in_err-put_place g c = puts_failed _ _ (decimal c.args.place) _ _ c.from_residual.result _ c.in_err-put_place.was c.from_residual.ensures.1 c.put_place.ensures

pub returns : goal.returns
returns g c = puts_more _ _ _ (decimal c.args.place) _ _ _ _ c.in_ok-put_place.was c.put_place.ensures c.put_text.ensures
