use Rattle.std.proofs.Common.{◌≡◌, ◌+◌, ◌++◌, None, drop, map}
use Rattle.serde_json.specs.View.{view}
use Rattle.reader_faults.specs.Each.{each_after}
use Rattle.lab_model.specs.Steps.{map_ok}
use Rattle.manifest_reader.specs.Manifest.{bitrate_in}
use Rattle.manifest_reader.proofs.rising_bitrates.Given as goal

abbrev pub invariant-loop-i : goal.invariant-loop-i
invariant-loop-i l =
    map_ok (λ xs. l.bitrates.items ++ xs) (each_after bitrate_in l.before (l.i + 1) (map view (drop l.i l.values)))
    ≡ each_after bitrate_in None 1 (map view l.values)
