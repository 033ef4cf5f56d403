use Rattle.std.proofs.Common.{rules}
use Rattle.trace_reader.specs.Trace.{trace_json}
use Rattle.trace_reader.proofs.json.read_trace_json.Goals as goal

pub returns-in_err-value : goal.returns-in_err-value
unfolding trace_json
returns-in_err-value c = search rules

pub returns : goal.returns
unfolding trace_json
returns c = search rules
