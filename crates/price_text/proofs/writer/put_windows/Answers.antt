use Rattle.std.proofs.Common.{length, map}
use Rattle.lab_io.specs.Piece.{fields_line}
use Rattle.lab_io.proofs.Puts.{puts_failed, puts_more}
use Rattle.certificate_text.specs.Line.{fields_of}
use Rattle.certificate_text.specs.Spelling.{lines_text}
use Rattle.price_text.specs.Grammar.{windows_line}
use Rattle.price_text.specs.Spelling.{window_fields}
use Rattle.price_text.proofs.writer.put_windows.Goals as goal

pub returns-in_err-put_count : goal.returns-in_err-put_count
returns-in_err-put_count g c =
    puts_failed _ _ (fields_line (fields_of windows_line (length c.args.windows.now, tt))) (lines_text (map window_fields c.args.windows.now))
    _ c.from_residual.result _ c.in_err-put_count.was c.from_residual.ensures.1 c.put_count.ensures

pub returns : goal.returns
returns g c =
    puts_more _ _ _ (fields_line (fields_of windows_line (length c.args.windows.now, tt))) (lines_text (map window_fields c.args.windows.now))
    _ _ _ c.in_ok-put_count.was c.put_count.ensures c.put_each_window.ensures
