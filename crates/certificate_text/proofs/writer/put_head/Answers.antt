use Rattle.std.proofs.Common.{rules, ◌∷◌, [], ◌++◌, codes, map, sym}
use Rattle.std.specs.Fmt.{decimal, signed_decimal}
use Rattle.lab_io.specs.Piece.{fields_line}
use Rattle.lab_io.proofs.Puts.{puts_as, puts_failed, puts_more}
use Rattle.labels.specs.Parts.{plan_parts}
use Rattle.certificate_text.proofs.Texts.{counts_text, head_text, lists_text}
use Rattle.certificate_text.proofs.writer.put_head.Goals as goal

pub returns-in_err-put_counts : goal.returns-in_err-put_counts
returns-in_err-put_counts g c =
    let parts = plan_parts c.args.film.now c.args.plan.now in
    puts_as _ _ _ _ _ (sym (head_text parts))
    (puts_failed _ _ (counts_text parts.table parts.segments parts.rungs) (lists_text parts) _ c.from_residual.result _ c.in_err-put_counts.was c.from_residual.ensures.1 c.put_counts.ensures)

pub returns-in_err-put_score : goal.returns-in_err-put_score
returns-in_err-put_score g c =
    let parts = plan_parts c.args.film.now c.args.plan.now in
    puts_as _ _ _ _ _ (sym (head_text parts))
    (puts_more _ _ _ (counts_text parts.table parts.segments parts.rungs) (lists_text parts) _ _ _ c.in_ok-put_counts.was c.put_counts.ensures
    (puts_failed _ _ (fields_line (codes "score" ∷ signed_decimal parts.score ∷ [])) (fields_line (codes "plan" ∷ map decimal parts.plan) ++ fields_line (codes "start" ∷ map decimal parts.starts))
    _ c.from_residual-in_err-put_score.result _ c.in_err-put_score.was c.from_residual-in_err-put_score.ensures.1 (search rules)))

pub returns-in_err-put_plan : goal.returns-in_err-put_plan
returns-in_err-put_plan g c =
    let parts = plan_parts c.args.film.now c.args.plan.now in
    puts_as _ _ _ _ _ (sym (head_text parts))
    (puts_more _ _ _ (counts_text parts.table parts.segments parts.rungs) (lists_text parts) _ _ _ c.in_ok-put_counts.was c.put_counts.ensures
    (puts_more _ _ _ (fields_line (codes "score" ∷ signed_decimal parts.score ∷ [])) (fields_line (codes "plan" ∷ map decimal parts.plan) ++ fields_line (codes "start" ∷ map decimal parts.starts))
    _ _ _ c.in_ok-put_score.was (search rules)
    (puts_failed _ _ (fields_line (codes "plan" ∷ map decimal parts.plan)) (fields_line (codes "start" ∷ map decimal parts.starts))
    _ c.from_residual-in_err-put_plan.result _ c.in_err-put_plan.was c.from_residual-in_err-put_plan.ensures.1 (rw c.deref.ensures.value at c.put_plan.ensures))))

pub returns : goal.returns
returns g c =
    let parts = plan_parts c.args.film.now c.args.plan.now in
    puts_as _ _ _ _ _ (sym (head_text parts))
    (puts_more _ _ _ (counts_text parts.table parts.segments parts.rungs) (lists_text parts) _ _ _ c.in_ok-put_counts.was c.put_counts.ensures
    (puts_more _ _ _ (fields_line (codes "score" ∷ signed_decimal parts.score ∷ [])) (fields_line (codes "plan" ∷ map decimal parts.plan) ++ fields_line (codes "start" ∷ map decimal parts.starts))
    _ _ _ c.in_ok-put_score.was (search rules)
    (puts_more _ _ _ (fields_line (codes "plan" ∷ map decimal parts.plan)) (fields_line (codes "start" ∷ map decimal parts.starts))
    _ _ _ c.in_ok-put_plan.was (rw c.deref.ensures.value at c.put_plan.ensures) (rw c.deref-2.ensures.value at c.put_starts.ensures))))
