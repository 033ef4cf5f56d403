use Rattle.std.proofs.Common.{◌∷◌, [], codes, rules}
use Rattle.std.specs.Fmt.{decimal, signed_decimal}
use Rattle.lab_io.specs.Piece.{fields_line}
use Rattle.lab_io.proofs.Puts.{puts_failed, puts_more}
use Rattle.abrlab_top.proofs.plan.put_lines.Goals as goal

pub returns-in_err-put_score : goal.returns-in_err-put_score
returns-in_err-put_score g c =
    puts_failed _ _ (fields_line (codes "score" ∷ signed_decimal c.args.list.now.score ∷ [])) _ _ c.from_residual.result _ c.in_err-put_score.was c.from_residual.ensures.1 (search rules)

pub returns-in_err-put_labels : goal.returns-in_err-put_labels
returns-in_err-put_labels g c =
    puts_more _ _ _ (fields_line (codes "score" ∷ signed_decimal c.args.list.now.score ∷ [])) _ _ _ _ c.in_ok-put_score.was (search rules)
    (puts_failed _ _ (fields_line (codes "labels" ∷ decimal c.args.list.now.labels ∷ [])) _ _ c.from_residual-in_err-put_labels.result _ c.in_err-put_labels.was c.from_residual-in_err-put_labels.ensures.1 c.put_labels.ensures)

pub returns : goal.returns
returns g c =
    puts_more _ _ _ (fields_line (codes "score" ∷ signed_decimal c.args.list.now.score ∷ [])) _ _ _ _ c.in_ok-put_score.was (search rules)
    (puts_more _ _ _ (fields_line (codes "labels" ∷ decimal c.args.list.now.labels ∷ [])) _ _ _ _ c.in_ok-put_labels.was c.put_labels.ensures (rw c.deref.ensures.value at c.put_plan.ensures))
