use Rattle.trace_reader.proofs.Walked.{HasReadPeriods}
use Rattle.trace_reader.proofs.csv_trace.text_periods.Given as goal

abbrev pub invariant-loop-row : goal.invariant-loop-row
invariant-loop-row l = HasReadPeriods l.fn.bytes l.periods.items l.row l.walk
