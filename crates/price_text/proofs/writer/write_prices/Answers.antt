use Rattle.std.proofs.Common.{◌++◌, sym}
use Rattle.lab_io.proofs.Puts.{puts_as, puts_failed, puts_more}
use Rattle.certificate_text.specs.Spelling.{lines_text}
use Rattle.price_bounds.specs.Verdict.{price_parts}
use Rattle.price_text.specs.Spelling.{count_lines, value_lines, window_lines}
use Rattle.price_text.proofs.Texts.{last_text, prices_parts}
use Rattle.price_text.proofs.writer.write_prices.Goals as goal

pub returns-in_err-put_counts : goal.returns-in_err-put_counts
returns-in_err-put_counts g c =
    let parts = price_parts c.args.certificate.now in
    puts_as _ _ _ _ _ (sym (prices_parts parts))
    (puts_failed _ _ (lines_text (count_lines parts)) (lines_text (value_lines parts) ++ (lines_text (window_lines parts.windows) ++ last_text))
    _ c.from_residual.result _ c.in_err-put_counts.was c.from_residual.ensures.1 c.put_counts.ensures)

pub returns-in_err-put_values : goal.returns-in_err-put_values
returns-in_err-put_values g c =
    let parts = price_parts c.args.certificate.now in
    puts_as _ _ _ _ _ (sym (prices_parts parts))
    (puts_more _ _ _ (lines_text (count_lines parts)) (lines_text (value_lines parts) ++ (lines_text (window_lines parts.windows) ++ last_text))
    _ _ _ c.in_ok-put_counts.was c.put_counts.ensures
    (puts_failed _ _ (lines_text (value_lines parts)) (lines_text (window_lines parts.windows) ++ last_text)
    _ c.from_residual-in_err-put_values.result _ c.in_err-put_values.was c.from_residual-in_err-put_values.ensures.1 c.put_values.ensures))

pub returns-in_err-put_windows : goal.returns-in_err-put_windows
returns-in_err-put_windows g c =
    let parts = price_parts c.args.certificate.now in
    puts_as _ _ _ _ _ (sym (prices_parts parts))
    (puts_more _ _ _ (lines_text (count_lines parts)) (lines_text (value_lines parts) ++ (lines_text (window_lines parts.windows) ++ last_text))
    _ _ _ c.in_ok-put_counts.was c.put_counts.ensures
    (puts_more _ _ _ (lines_text (value_lines parts)) (lines_text (window_lines parts.windows) ++ last_text)
    _ _ _ c.in_ok-put_values.was c.put_values.ensures
    (puts_failed _ _ (lines_text (window_lines parts.windows)) last_text
    _ c.from_residual-in_err-put_windows.result _ c.in_err-put_windows.was c.from_residual-in_err-put_windows.ensures.1 (rw c.deref.ensures.value at c.put_windows.ensures))))

pub returns : goal.returns
returns g c =
    let parts = price_parts c.args.certificate.now in
    puts_as _ _ _ _ _ (sym (prices_parts parts))
    (puts_more _ _ _ (lines_text (count_lines parts)) (lines_text (value_lines parts) ++ (lines_text (window_lines parts.windows) ++ last_text))
    _ _ _ c.in_ok-put_counts.was c.put_counts.ensures
    (puts_more _ _ _ (lines_text (value_lines parts)) (lines_text (window_lines parts.windows) ++ last_text)
    _ _ _ c.in_ok-put_values.was c.put_values.ensures
    (puts_more _ _ _ (lines_text (window_lines parts.windows)) last_text
    _ _ _ c.in_ok-put_windows.was (rw c.deref.ensures.value at c.put_windows.ensures) c.put_line.ensures)))
