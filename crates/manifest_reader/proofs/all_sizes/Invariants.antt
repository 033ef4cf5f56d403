use Rattle.std.proofs.Common.{◌≡◌, ◌+◌, ◌++◌, Option, None, ℕ, List, drop, map}
use Rattle.std.specs.List.{concat}
use Rattle.serde_json.specs.View.{view}
use Rattle.lab_model.specs.Steps.{map_ok}
use Rattle.reader_faults.specs.Each.{each_after, each_from}
use Rattle.manifest_reader.specs.Manifest.{sizes_in_row}
use Rattle.manifest_reader.proofs.all_sizes.Given as goal

abbrev pub invariant-loop-i : goal.invariant-loop-i
invariant-loop-i l =
    map_ok (λ rows. l.sizes.items ++ concat rows) (each_after (λ (_ : Option (List ℕ)). sizes_in_row l.rungs) None (l.i + 1) (map view (drop l.i l.values)))
    ≡ map_ok concat (each_from (sizes_in_row l.rungs) 1 (map view l.values))
