use Rattle.std.proofs.Common.{◌∙◌, List, Result, ap, sym, subst}
use Rattle.lab_model.specs.Steps.{◌>>=◌}
use Rattle.lab_model.specs.Reading.{Gives}
use Rattle.lab_model.specs.declared.fault.Refusal.{Refusal}
use Rattle.lab_model.specs.declared.trace.Period.{Period}
use Rattle.lab_model.proofs.Refusals.{fails_on, gives_error}
use Rattle.csv_records.specs.Table.{table_within}
use Rattle.trace_reader.specs.Cycle.{good_cycle}
use Rattle.trace_reader.proofs.CsvLimits.{table_periods-count, table_periods-periods}
use Rattle.trace_reader.proofs.Within.{trace_within}
use Rattle.trace_reader.proofs.csv_trace.read_trace_csv.Goals as goal

pub whole_trace-requires-clause-count : goal.whole_trace-requires-clause-count
whole_trace-requires-clause-count c = table_periods-count (table_within 100002 c.args.bytes.now) c.in_ok-periods.periods.items c.in_ok-periods.ensures

pub whole_trace-requires-clause-periods : goal.whole_trace-requires-clause-periods
whole_trace-requires-clause-periods c = table_periods-periods (table_within 100002 c.args.bytes.now) c.in_ok-periods.periods.items c.in_ok-periods.ensures

pub returns-in_err-periods : goal.returns-in_err-periods
returns-in_err-periods c =
    gives_error _ c.from_residual.result c.in_err-periods.field-0.0 _ c.from_residual.ensures.1
    (fails_on _ _ _ c.in_err-periods.ensures (λ y h. sym (trace_within c.args.bytes.now) ∙ ap (λ (ps : Result (List Period) Refusal). ps >>= good_cycle) h))

pub returns : goal.returns
returns c =
    subst (λ whole. Gives (λ t. t) c.whole_trace.result whole)
    (sym (ap (λ (ps : Result (List Period) Refusal). ps >>= good_cycle) c.in_ok-periods.ensures) ∙ trace_within c.args.bytes.now) c.whole_trace.ensures
