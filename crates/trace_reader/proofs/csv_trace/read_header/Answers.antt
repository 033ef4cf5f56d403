use Rattle.std.proofs.Common.{◌≡◌, ◌∙◌, [], false, None, Some, sym, ap}
use Rattle.csv.specs.Records.{fields_of}
use Rattle.trace_reader.specs.TraceCsv.{is_trace_header}
use Rattle.trace_reader.proofs.Walked.{no_header, other_header}
use Rattle.trace_reader.proofs.csv_trace.read_header.Goals as goal

pub returns-else-is_trace_header : goal.returns-else-is_trace_header
returns-else-is_trace_header c bytes h =
    let given = rw c.in-Ok-true.field-0-test at (c.in-Ok-true.ensures bytes 100002 [] h) in
    let other : is_trace_header (fields_of c.advance.new.self.row) ≡ false = ap (λ r. is_trace_header (fields_of r)) (sym c.row.ensures) ∙ sym c.is_trace_header.ensures ∙ c.if-is_trace_header.false in
    rw c.refusal.ensures (other_header bytes (fields_of c.advance.new.self.row) c.advance.new.self given other)

pub returns-in-Ok-false : goal.returns-in-Ok-false
returns-in-Ok-false c bytes h =
    rw c.refusal-in-Ok-false.ensures (no_header bytes None (rw c.in-Ok-false.field-0-test at (c.in-Ok-false.ensures bytes 100002 [] h)))

pub returns-in-Err-Uneven : goal.returns-in-Err-Uneven
returns-in-Err-Uneven c bytes h =
    rw c.refusal-in-Err-Uneven.ensures (no_header bytes (Some 1) (rw c.in-Err-Uneven.field-0-is at (c.in-Err-Uneven.ensures bytes 100002 [] h)))
