use Rattle.std.proofs.Common.{◌≡◌, ◌+◌, ◌<◌, ℕ, List, Some, length, map, false}
use Rattle.csv.specs.Reading.{Ready, default_config, source_of, strip_bom}
use Rattle.csv.specs.Records.{fields_of}
use Rattle.csv.specs.declared.reader.Trim.TheVariants as trim
use Rattle.csv_records.specs.Walk.{Fit, StandsBehind, width_of}
use Rattle.csv_records.proofs.records.records_of.Given as goal

abbrev pub invariant-loop-row : goal.invariant-loop-row
invariant-loop-row l = record {
  count : length l.rows.items + l.row-iterator.n ≡ l.most;
  trim : l.row-iterator.iter.rdr.trim ≡ trim.None;
  ready : Ready l.row-iterator.iter.rdr;
  left : 0 < l.row-iterator.iter.left;
  config : l.row-iterator.iter.rdr.config ≡ default_config;
  flexible : l.row-iterator.iter.rdr.flexible ≡ false;
  expected : l.row-iterator.iter.rdr.expected ≡ width_of (map fields_of l.rows.items);
  fit : Fit (map fields_of l.rows.items);
  unread : List ℕ;
  source : source_of (λ s. Some s.now) l.row-iterator.iter.rdr ≡ Some unread;
  stands : StandsBehind (strip_bom l.fn.bytes) (map fields_of l.rows.items) l.row-iterator.iter.rdr.state unread;
}
