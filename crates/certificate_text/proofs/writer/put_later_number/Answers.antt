use Rattle.std.proofs.Common.{◌∷◌, [], rules}
use Rattle.std.specs.Fmt.{decimal}
use Rattle.lab_io.proofs.Puts.{puts_failed, puts_more}
use Rattle.certificate_text.proofs.writer.put_later_number.Goals as goal

pub returns-in_err-put_text : goal.returns-in_err-put_text
returns-in_err-put_text g c = puts_failed _ _ (32 ∷ []) (decimal c.args.n) _ c.from_residual.result _ c.in_err-put_text.was c.from_residual.ensures.1 c.put_text.ensures

pub returns : goal.returns
returns g c = puts_more _ _ _ (32 ∷ []) (decimal c.args.n) _ _ _ c.in_ok-put_text.was c.put_text.ensures (search rules)
