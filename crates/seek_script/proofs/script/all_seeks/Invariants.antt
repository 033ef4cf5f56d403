use Rattle.std.proofs.Common.{◌≡◌, ◌+◌, ◌++◌, ◌≤◌, None, drop, map}
use Rattle.csv.specs.Records.{fields_of}
use Rattle.lab_model.specs.Steps.{map_ok}
use Rattle.reader_faults.specs.Each.{each_after}
use Rattle.seek_script.specs.Script.{seek_in}
use Rattle.seek_script.proofs.script.all_seeks.Given as goal

abbrev pub invariant-loop-i : goal.invariant-loop-i
invariant-loop-i l = record {
  few : l.i ≤ 16;
  seeks : map_ok (λ ss. l.seeks.items ++ ss) (each_after (seek_in l.segments) l.before (l.i + 2) (map fields_of (drop l.i l.rows)))
      ≡ each_after (seek_in l.segments) None 2 (map fields_of l.rows);
}
