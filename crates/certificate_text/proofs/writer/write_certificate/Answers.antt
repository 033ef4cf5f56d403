use Rattle.std.proofs.Common.{◌++◌, sym}
use Rattle.lab_io.specs.Piece.{fields_line}
use Rattle.lab_io.proofs.Puts.{puts_as, puts_failed, puts_more}
use Rattle.labels.specs.Parts.{plan_parts}
use Rattle.certificate_text.specs.Line.{fields_of}
use Rattle.certificate_text.specs.Grammar.{end_line}
use Rattle.certificate_text.specs.Spelling.{chains_lines, head_lines, lines_text}
use Rattle.certificate_text.proofs.Texts.{spelling_parts}
use Rattle.certificate_text.proofs.writer.write_certificate.Goals as goal

pub returns-in_err-put_head : goal.returns-in_err-put_head
returns-in_err-put_head g c =
    let parts = plan_parts c.args.film.now c.args.plan.now in
    puts_as _ _ _ _ _ (sym (spelling_parts parts))
    (puts_failed _ _ (lines_text (head_lines parts)) (lines_text (chains_lines parts.segments parts.rungs 0 parts.chains) ++ fields_line (fields_of end_line tt))
    _ c.from_residual.result _ c.in_err-put_head.was c.from_residual.ensures.1 c.put_head.ensures)

pub returns-in_err-put_chains : goal.returns-in_err-put_chains
returns-in_err-put_chains g c =
    let parts = plan_parts c.args.film.now c.args.plan.now in
    puts_as _ _ _ _ _ (sym (spelling_parts parts))
    (puts_more _ _ _ (lines_text (head_lines parts)) (lines_text (chains_lines parts.segments parts.rungs 0 parts.chains) ++ fields_line (fields_of end_line tt))
    _ _ _ c.in_ok-put_head.was c.put_head.ensures
    (puts_failed _ _ (lines_text (chains_lines parts.segments parts.rungs 0 parts.chains)) (fields_line (fields_of end_line tt))
    _ c.from_residual-in_err-put_chains.result _ c.in_err-put_chains.was c.from_residual-in_err-put_chains.ensures.1 (rw c.deref.ensures.value at c.put_chains.ensures)))

pub returns : goal.returns
returns g c =
    let parts = plan_parts c.args.film.now c.args.plan.now in
    puts_as _ _ _ _ _ (sym (spelling_parts parts))
    (puts_more _ _ _ (lines_text (head_lines parts)) (lines_text (chains_lines parts.segments parts.rungs 0 parts.chains) ++ fields_line (fields_of end_line tt))
    _ _ _ c.in_ok-put_head.was c.put_head.ensures
    (puts_more _ _ _ (lines_text (chains_lines parts.segments parts.rungs 0 parts.chains)) (fields_line (fields_of end_line tt))
    _ _ _ c.in_ok-put_chains.was (rw c.deref.ensures.value at c.put_chains.ensures) c.put_line.ensures))
