use Rattle.std.proofs.Common.{codes, map}
use Rattle.std.specs.Fmt.{decimal}
use Rattle.lab_io.specs.Piece.{later_fields}
use Rattle.lab_io.proofs.Puts.{puts_failed, puts_more}
use Rattle.certificate_text.proofs.writer.put_plan.Goals as goal

pub returns-in_err-put_text : goal.returns-in_err-put_text
returns-in_err-put_text g c =
    puts_failed _ _ (codes "plan") (later_fields (map decimal c.args.rungs.now)) _ c.from_residual.result _ c.in_err-put_text.was c.from_residual.ensures.1 c.put_text.ensures

pub returns : goal.returns
returns g c = puts_more _ _ _ (codes "plan") (later_fields (map decimal c.args.rungs.now)) _ _ _ c.in_ok-put_text.was c.put_text.ensures c.put_rungs.ensures
