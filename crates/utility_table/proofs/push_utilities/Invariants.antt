use Rattle.std.proofs.Common.{◌≡◌, ◌+◌, ◌++◌, None, drop, map}
use Rattle.csv.specs.Records.{fields_of}
use Rattle.csv_records.specs.Field.{without_blanks}
use Rattle.lab_model.specs.Steps.{map_ok}
use Rattle.reader_faults.specs.Each.{each_after}
use Rattle.utility_table.specs.Table.{utility_in}
use Rattle.utility_table.proofs.push_utilities.Given as goal

abbrev pub invariant-loop-column : goal.invariant-loop-column
invariant-loop-column l =
    map_ok (λ us. l.utilities.items ++ us) (each_after (utility_in l.row) l.before (l.column + 1) (map without_blanks (drop l.column (fields_of l.fields))))
    ≡ map_ok (λ us. l.fn.utilities.items ++ us) (each_after (utility_in l.row) None 1 (map without_blanks (fields_of l.fields)))
