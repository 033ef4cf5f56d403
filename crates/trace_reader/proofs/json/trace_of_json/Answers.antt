use Rattle.serde_json.specs.View.{view}
use Rattle.trace_reader.proofs.Limits.{periods_of-count, periods_of-periods}
use Rattle.trace_reader.proofs.json.trace_of_json.Goals as goal

pub whole_trace-requires-clause-count : goal.whole_trace-requires-clause-count
whole_trace-requires-clause-count c = periods_of-count (view c.args.value.now) c.in_ok-periods.periods.items c.in_ok-periods.ensures

pub whole_trace-requires-clause-periods : goal.whole_trace-requires-clause-periods
whole_trace-requires-clause-periods c = periods_of-periods (view c.args.value.now) c.in_ok-periods.periods.items c.in_ok-periods.ensures
