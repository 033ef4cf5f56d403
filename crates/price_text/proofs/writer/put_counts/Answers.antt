use Rattle.std.proofs.Common.{◌++◌, sym}
use Rattle.lab_io.specs.Piece.{fields_line}
use Rattle.lab_io.proofs.Puts.{puts_as, puts_failed, puts_more}
use Rattle.certificate_text.specs.Line.{fields_of}
use Rattle.certificate_text.specs.Grammar.{rungs_line, segments_line}
use Rattle.price_text.specs.Grammar.{prices_line}
use Rattle.price_text.proofs.Texts.{three_lines}
use Rattle.price_text.proofs.writer.put_counts.Goals as goal

pub returns-in_err-put_first_line : goal.returns-in_err-put_first_line
returns-in_err-put_first_line g c =
    let segments = fields_of segments_line (c.args.certificate.now.segments, tt) in
    let rungs = fields_of rungs_line (c.args.certificate.now.rungs, tt) in
    puts_as _ _ _ _ _ (sym (three_lines (fields_of prices_line tt) segments rungs))
    (puts_failed _ _ (fields_line (fields_of prices_line tt)) (fields_line segments ++ fields_line rungs)
    _ c.from_residual.result _ c.in_err-put_first_line.was c.from_residual.ensures.1 c.put_first_line.ensures)

pub returns-in_err-put_count : goal.returns-in_err-put_count
returns-in_err-put_count g c =
    let segments = fields_of segments_line (c.args.certificate.now.segments, tt) in
    let rungs = fields_of rungs_line (c.args.certificate.now.rungs, tt) in
    puts_as _ _ _ _ _ (sym (three_lines (fields_of prices_line tt) segments rungs))
    (puts_more _ _ _ (fields_line (fields_of prices_line tt)) (fields_line segments ++ fields_line rungs)
    _ _ _ c.in_ok-put_first_line.was c.put_first_line.ensures
    (puts_failed _ _ (fields_line segments) (fields_line rungs)
    _ c.from_residual-in_err-put_count.result _ c.in_err-put_count.was c.from_residual-in_err-put_count.ensures.1 c.put_count.ensures))

pub returns : goal.returns
returns g c =
    let segments = fields_of segments_line (c.args.certificate.now.segments, tt) in
    let rungs = fields_of rungs_line (c.args.certificate.now.rungs, tt) in
    puts_as _ _ _ _ _ (sym (three_lines (fields_of prices_line tt) segments rungs))
    (puts_more _ _ _ (fields_line (fields_of prices_line tt)) (fields_line segments ++ fields_line rungs)
    _ _ _ c.in_ok-put_first_line.was c.put_first_line.ensures
    (puts_more _ _ _ (fields_line segments) (fields_line rungs)
    _ _ _ c.in_ok-put_count.was c.put_count.ensures (rw c.from.ensures at c.put_count-2.ensures)))
