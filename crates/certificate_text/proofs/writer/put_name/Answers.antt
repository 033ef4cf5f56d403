use Rattle.std.proofs.Common.{◌∷◌, []}
use Rattle.std.specs.Fmt.{decimal}
use Rattle.lab_io.proofs.Gathered.{gathers_failed, gathers_more}
use Rattle.certificate_text.proofs.writer.put_name.Goals as goal

pub returns-in_err-put_text : goal.returns-in_err-put_text
returns-in_err-put_text g c = gathers_failed _ _ _ _ _ (32 ∷ []) (decimal c.args.name) _ c.from_residual.result _ c.in_err-put_text.was c.from_residual.ensures.1 c.put_text.ensures

pub returns : goal.returns
returns g c = gathers_more _ _ _ _ _ _ (32 ∷ []) (decimal c.args.name) _ _ _ c.in_ok-put_text.was c.put_text.ensures (rw c.from.ensures at c.put_count.ensures)
