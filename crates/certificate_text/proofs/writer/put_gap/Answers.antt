use Rattle.std.proofs.Common.{◌∙◌, ◌++◌, [], ℤ, ap, append-nil, sym}
use Rattle.std.specs.Int.{w128}
use Rattle.std.proofs.lemmas.Int.{to_z-of_z}
use Rattle.lab_io.specs.Piece.{fields_line}
use Rattle.lab_io.proofs.Puts.{puts_as, puts_failed, puts_more}
use Rattle.certificate_text.specs.Line.{fields_of}
use Rattle.certificate_text.specs.Grammar.{gap_bound_line, gap_line}
use Rattle.certificate_text.proofs.writer.put_gap.Goals as goal

pub returns-in_err-put_fields : goal.returns-in_err-put_fields
returns-in_err-put_fields g c =
    puts_failed _ _ (fields_line (fields_of gap_line tt)) (fields_line (fields_of gap_bound_line (c.args.bound, tt)) ++ []) _ c.from_residual.result _ c.in_err-put_fields.was c.from_residual.ensures.1 c.put_fields.ensures

pub returns : goal.returns
returns g c =
    let second = fields_line (fields_of gap_bound_line (c.args.bound, tt)) in
    let own = ap (λ (z : ℤ). fields_line (fields_of gap_bound_line (z, tt))) (to_z-of_z w128 c.args.bound c.ranges.bound) in
    puts_more _ _ _ (fields_line (fields_of gap_line tt)) (second ++ []) _ _ _ c.in_ok-put_fields.was c.put_fields.ensures (puts_as _ _ _ (second ++ []) _ (own ∙ sym (append-nil second)) c.put_bound.ensures)
