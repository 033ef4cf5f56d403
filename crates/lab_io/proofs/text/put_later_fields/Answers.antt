use Rattle.std.proofs.Common.{◌∷◌, [], pos}
use Rattle.lab_io.proofs.Puts.{puts_failed, puts_more}
use Rattle.lab_io.proofs.Walks.{fields_end, fields_from}
use Rattle.lab_io.specs.declared.text.Piece.TheVariants as piece
use Rattle.lab_io.proofs.text.put_later_fields.Goals as goal

pub loop-field-preserved : goal.loop-field-preserved
loop-field-preserved g c = λ end answer h.
    let e = fields_from c.args.fields.now c.loop-field.field-index _ c.loop-field-test.true in
    c.loop-field.invariant end answer (rw e (puts_more _ _ _ (32 ∷ []) _ _ _ _ c.in_ok-put_text.was c.put_text.ensures
    (puts_more _ _ _ _ _ _ _ _ c.in_ok-put_piece.was c.put_piece.ensures h)))

pub returns-in_err-put_text : goal.returns-in_err-put_text
returns-in_err-put_text g c =
    let e = fields_from c.args.fields.now c.loop-field.field-index (piece.Number (pos 0)) c.loop-field-test.true in
    c.loop-field.invariant _ _ (rw e (puts_failed _ _ (32 ∷ []) _ _ c.from_residual.result _ c.in_err-put_text.was c.from_residual.ensures.1 c.put_text.ensures))

pub returns-in_err-put_piece : goal.returns-in_err-put_piece
returns-in_err-put_piece g c =
    let e = fields_from c.args.fields.now c.loop-field.field-index _ c.loop-field-test.true in
    c.loop-field.invariant _ _ (rw e (puts_more _ _ _ (32 ∷ []) _ _ _ _ c.in_ok-put_text.was c.put_text.ensures
    (puts_failed _ _ _ _ _ c.from_residual-in_err-put_piece.result _ c.in_err-put_piece.was c.from_residual-in_err-put_piece.ensures.1 c.put_piece.ensures)))

pub returns : goal.returns
returns g c = c.loop-field.invariant _ _ (rw (fields_end c.args.fields.now c.loop-field.field-index c.loop-field-test.false) c.put_text-2.ensures)
