use Rattle.std.proofs.Common.{drop, map, Result}
use Rattle.lab_io.specs.Sink.{Puts, Seen}
use Rattle.lab_io.specs.declared.PutErr.{PutErr}
use Rattle.certificate_text.specs.Spelling.{lines_text}
use Rattle.price_text.specs.Spelling.{window_fields}
use Rattle.price_text.proofs.writer.put_each_window.Given as goal

-- what puts the rest puts it all
abbrev pub invariant-loop-window : goal.invariant-loop-window
invariant-loop-window g l =
    (end : Seen) (answer : Result (Unit {0}) PutErr) → Puts (g.O.Sink.seen l.out) (lines_text (map window_fields (drop l.window-index l.windows))) end answer
    → Puts (g.O.Sink.seen l.fn.out) (lines_text (map window_fields l.fn.windows)) end answer
