use Rattle.std.proofs.Common.{◌≡◌, ◌+◌, ◌++◌, Option, None, drop, map}
use Rattle.serde_json.specs.View.{view}
use Rattle.lab_model.specs.Steps.{map_ok}
use Rattle.reader_faults.specs.Each.{each_after, each_from}
use Rattle.lab_model.specs.declared.trace.Period.{Period}
use Rattle.trace_reader.specs.Trace.{json_period_in}
use Rattle.trace_reader.proofs.json.all_periods.Given as goal

abbrev pub invariant-loop-i : goal.invariant-loop-i
invariant-loop-i l =
    map_ok (λ ps. l.periods.items ++ ps) (each_after (λ (_ : Option Period). json_period_in) None (l.i + 1) (map view (drop l.i l.values)))
    ≡ each_from json_period_in 1 (map view l.values)
