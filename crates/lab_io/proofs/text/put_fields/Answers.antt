use Rattle.std.proofs.Common.{sym}
use Rattle.lab_io.proofs.Puts.{puts_as, puts_failed, puts_more}
use Rattle.lab_io.proofs.Walks.{fields_first}
use Rattle.lab_io.proofs.text.put_fields.Goals as goal

pub returns-in_err-put_piece-in-len1-up : goal.returns-in_err-put_piece-in-len1-up
returns-in_err-put_piece-in-len1-up g c =
    puts_as _ _ _ _ _ (sym (fields_first c.args.fields.now _ c.in-len1-up.len_at_least))
    (puts_failed _ _ _ _ _ c.from_residual.result _ c.in_err-put_piece-in-len1-up.was c.from_residual.ensures.1 c.put_piece.ensures)

pub returns-in_ok-put_piece-in-len1-up : goal.returns-in_ok-put_piece-in-len1-up
returns-in_ok-put_piece-in-len1-up g c =
    puts_as _ _ _ _ _ (sym (fields_first c.args.fields.now _ c.in-len1-up.len_at_least))
    (puts_more _ _ _ _ _ _ _ _ c.in_ok-put_piece-in-len1-up.was c.put_piece.ensures c.put_later_fields.ensures)
