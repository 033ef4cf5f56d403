use Rattle.std.proofs.Common.{◌≡◌, ◌+◌, ◌++◌, Option, None, ℕ, drop, map}
use Rattle.serde_json.specs.View.{view}
use Rattle.lab_model.specs.Steps.{map_ok}
use Rattle.reader_faults.specs.Each.{each_after, each_from}
use Rattle.manifest_reader.specs.Manifest.{size_in}
use Rattle.manifest_reader.proofs.push_sizes.Given as goal

abbrev pub invariant-loop-i : goal.invariant-loop-i
invariant-loop-i l =
    map_ok (λ xs. l.sizes.items ++ xs) (each_after (λ (_ : Option ℕ). size_in l.row) None (l.i + 1) (map view (drop l.i l.values)))
    ≡ map_ok (λ xs. l.fn.sizes.items ++ xs) (each_from (size_in l.row) 1 (map view l.values))
