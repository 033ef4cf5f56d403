use Rattle.std.proofs.Common.{drop, Result}
use Rattle.lab_io.specs.Batch.{Gathers}
use Rattle.lab_io.specs.Sink.{Seen, Text}
use Rattle.lab_io.specs.declared.PutErr.{PutErr}
use Rattle.certificate_text.specs.Spelling.{label_lines, lines_text}
use Rattle.certificate_text.proofs.writer.batch_labels.Given as goal

-- what puts the rest puts it all
abbrev pub invariant-loop-label : goal.invariant-loop-label
invariant-loop-label g l = (end : Seen) (left : Text) (answer : Result (Unit {0}) PutErr) → Gathers (g.O.Sink.seen l.out) l.batch (lines_text (label_lines l.per (drop l.label-index l.labels) l.names)) end left answer
    → Gathers (g.O.Sink.seen l.fn.out) l.fn.batch (lines_text (label_lines l.per l.fn.labels l.fn.names)) end left answer
