use Rattle.std.proofs.Common.{ℤ, ap, rules}
use mir.Val.{SFits}
use Rattle.std.specs.Int.{w128}
use Rattle.std.proofs.lemmas.Int.{to_z-of_z}
use Rattle.lab_io.proofs.Puts.{puts_as, puts_failed, puts_more}
use Rattle.labels.specs.Parts.{plan_parts}
use Rattle.certificate_text.specs.Spelling.{gap_lines, lines_text, spelling}
use Rattle.gap_plan.proofs.writer.write_gap.Goals as goal

pub returns-in_err-put_gap : goal.returns-in_err-put_gap
returns-in_err-put_gap g c =
    let bound = c.args.coarse.now.bound in
    let fits : SFits w128 bound = search rules in
    puts_failed _ _ (lines_text (gap_lines bound)) (spelling (plan_parts c.args.film.now c.args.coarse.now.plan)) _ c.from_residual.result _ c.in_err-put_gap.was c.from_residual.ensures.1
    (puts_as _ _ _ (lines_text (gap_lines bound)) _ (ap (λ (z : ℤ). lines_text (gap_lines z)) (to_z-of_z w128 bound fits)) c.put_gap.ensures)

pub returns : goal.returns
returns g c =
    let bound = c.args.coarse.now.bound in
    let fits : SFits w128 bound = search rules in
    puts_more _ _ _ (lines_text (gap_lines bound)) (spelling (plan_parts c.args.film.now c.args.coarse.now.plan)) _ _ _ c.in_ok-put_gap.was
    (puts_as _ _ _ (lines_text (gap_lines bound)) _ (ap (λ (z : ℤ). lines_text (gap_lines z)) (to_z-of_z w128 bound fits)) c.put_gap.ensures) c.write_certificate.ensures
