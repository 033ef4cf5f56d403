use Rattle.std.proofs.Common.{◌≡◌, ◌+◌, ◌++◌, ◌≤◌, Option, None, ℕ, List, drop, map}
use Rattle.std.specs.List.{concat}
use Rattle.csv.specs.Records.{fields_of}
use Rattle.lab_model.specs.Steps.{map_ok}
use Rattle.reader_faults.specs.Each.{each_after, each_from}
use Rattle.utility_table.specs.Table.{utilities_in_row}
use Rattle.utility_table.proofs.all_rows.Given as goal

abbrev pub invariant-loop-i : goal.invariant-loop-i
invariant-loop-i l = record {
  few : l.i ≤ l.segments;
  rows : map_ok (λ rows. l.utilities.items ++ concat rows) (each_after (λ (_ : Option (List ℕ)). utilities_in_row l.segments l.rungs) None (l.i + 1) (map fields_of (drop l.i l.rows)))
      ≡ map_ok concat (each_from (utilities_in_row l.segments l.rungs) 1 (map fields_of l.rows));
}
