use Rattle.std.proofs.Common.{refl}
use Rattle.lab_io.proofs.Puts.{puts_failed, puts_more, puts_none}
use Rattle.lab_io.proofs.Walks.{pieces_end, pieces_from}
use Rattle.lab_io.proofs.text.put_pieces.Goals as goal

pub loop-piece-preserved : goal.loop-piece-preserved
loop-piece-preserved g c = λ end answer h.
    let e = pieces_from c.args.pieces.now c.loop-piece.piece-index _ c.loop-piece-test.true in
    c.loop-piece.invariant end answer (rw e (puts_more _ _ _ _ _ _ _ _ c.in_ok-put_piece.was c.put_piece.ensures h))

pub returns-in_err-put_piece : goal.returns-in_err-put_piece
returns-in_err-put_piece g c =
    let e = pieces_from c.args.pieces.now c.loop-piece.piece-index _ c.loop-piece-test.true in
    c.loop-piece.invariant _ _ (rw e (puts_failed _ _ _ _ _ c.from_residual.result _ c.in_err-put_piece.was c.from_residual.ensures.1 c.put_piece.ensures))

pub returns : goal.returns
returns g c = c.loop-piece.invariant _ _ (rw (pieces_end c.args.pieces.now c.loop-piece.piece-index c.loop-piece-test.false) (puts_none _ _ refl))
