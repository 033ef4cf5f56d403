use Rattle.std.proofs.Common.{◌∙◌, ◌∷◌, None, sym, ap}
use Rattle.csv.specs.Records.{fields_of}
use Rattle.lab_model.proofs.Refusals.{fails_on, gives_error}
use Rattle.trace_reader.specs.TraceCsv.{period_in_row}
use Rattle.trace_reader.proofs.Walked.{reads_ended, reads_more, reads_none, reads_refused, reads_uneven}
use Rattle.trace_reader.proofs.csv_trace.text_periods.Goals as goal

pub returns-in_err-read_header : goal.returns-in_err-read_header
returns-in_err-read_header c =
    gives_error _ c.from_residual.result c.in_err-read_header.field-0.0 _ c.from_residual.ensures.1
    (c.in_err-read_header.ensures c.args.bytes.now c.new-walk.ensures)

pub loop-row-init : goal.loop-row-init
loop-row-init c =
    let head = c.in_ok-read_header.ensures c.args.bytes.now c.new-walk.ensures in
    rw c.new-periods.ensures.items (reads_none c.args.bytes.now _ _ head.0 head.1)

pub returns-in_err-period-in-Ok-true : goal.returns-in_err-period-in-Ok-true
returns-in_err-period-in-Ok-true c =
    let s = c.loop-row.invariant in
    let given = rw c.in-Ok-true.field-0-test at (c.in-Ok-true.ensures c.args.bytes.now 100002 (s.header ∷ s.rows) s.given) in
    gives_error _ c.from_residual-in_err-period-in-Ok-true.result c.in_err-period-in-Ok-true.field-0.0 _ c.from_residual-in_err-period-in-Ok-true.ensures.1
    (fails_on _ _ _ c.in_err-period-in-Ok-true.ensures.period (λ y h. reads_refused c.args.bytes.now c.loop-row.periods.items c.loop-row.row c.loop-row.walk c.advance.new.self y s given (ap (λ r. period_in_row c.loop-row.row (fields_of r)) (sym c.row.ensures) ∙ h)))

pub loop-row-preserved : goal.loop-row-preserved
loop-row-preserved c =
    let s = c.loop-row.invariant in
    let given = rw c.in-Ok-true.field-0-test at (c.in-Ok-true.ensures c.args.bytes.now 100002 (s.header ∷ s.rows) s.given) in
    rw c.in_ok-push-in-Ok-true.ensures.items
    (reads_more c.args.bytes.now c.loop-row.periods.items c.loop-row.row c.loop-row.walk c.advance.new.self c.in_ok-period-in-Ok-true.period s given c.in_ok-period-in-Ok-true.ensures.few
    (ap (λ r. period_in_row c.loop-row.row (fields_of r)) (sym c.row.ensures) ∙ c.in_ok-period-in-Ok-true.ensures.period))

pub returns-in-Ok-false : goal.returns-in-Ok-false
returns-in-Ok-false c =
    let s = c.loop-row.invariant in
    let ended = rw c.in-Ok-false.field-0-test at (c.in-Ok-false.ensures c.args.bytes.now 100002 (s.header ∷ s.rows) s.given) in
    rw (reads_ended c.args.bytes.now c.loop-row.periods.items c.loop-row.row c.loop-row.walk None s ended) c.periods_to_end.ensures

pub returns-in-Err-Uneven : goal.returns-in-Err-Uneven
returns-in-Err-Uneven c =
    let s = c.loop-row.invariant in
    let ended = rw c.in-Err-Uneven.field-0-is at (c.in-Err-Uneven.ensures c.args.bytes.now 100002 (s.header ∷ s.rows) s.given) in
    rw (reads_uneven c.args.bytes.now c.loop-row.periods.items c.loop-row.row c.loop-row.walk s ended) c.periods_to_end-in-Err-Uneven.ensures
