-- What the bytes of a manifest stand for: the film, or the first test that fails.
use Rattle.std.specs.Prelude.{ℕ, ◌==◌, List, length, Option, Some, None, Result, Ok, Err, codes, if◌then◌else◌, nat_lt}
use Rattle.std.specs.List.{concat}
use Rattle.serde_json.specs.Data.{Data}
use Rattle.json_fields.specs.Fields.{list_at, list_of, json_number_at, json_number_of, object_of, json_value_of}
use Rattle.lab_model.specs.Film.{Film, film, most_rungs, most_segments}
use Rattle.lab_model.specs.Reading.{refusal}
use Rattle.lab_model.specs.Steps.{◌>>=◌, map_ok}
use Rattle.lab_model.specs.declared.fault.Refusal.{Refusal}
use Rattle.lab_model.specs.declared.fault.Kind.TheVariants as kind
use Rattle.lab_model.specs.declared.fault.Key.{Key}
use Rattle.lab_model.specs.declared.fault.Key.TheVariants as key
use Rattle.reader_faults.specs.Each.{each_after, each_from}
use Rattle.reader_faults.specs.Faults.{members_within, value_at}

-- the duration of a segment
abbrev pub seg_ms_of : Data → Result ℕ Refusal
seg_ms_of d = value_at key.SegmentDuration 0 0 (json_number_at (codes "segment_duration_ms") 1 60000 d)

-- the list of one member to the most under a key
abbrev pub members_at : Key → List ℕ → ℕ → Data → Result (List Data) Refusal
members_at k name most d = do
  ds ← value_at k 0 0 (list_at name d)
  members_within k most ds

-- a bitrate is greater than the one before
abbrev pub above : Option ℕ → ℕ → ℕ → Result ℕ Refusal
above None column n = Ok n
above (Some before) column n = if nat_lt before n then Ok n else Err (refusal kind.Order key.Bitrates 0 column)

-- the bitrate in a column, behind the one before
abbrev pub bitrate_in : Option ℕ → ℕ → Data → Result ℕ Refusal
bitrate_in before column d = do
  n ← value_at key.Bitrates 0 column (json_number_of 1 10000000 d)
  above before column n

-- the ladder of bitrates
abbrev pub bitrates_of : Data → Result (List ℕ) Refusal
bitrates_of d = do
  ds ← members_at key.Bitrates (codes "bitrates_kbps") most_rungs d
  each_after bitrate_in None 1 ds

-- the size in a row and column
abbrev pub size_in : ℕ → ℕ → Data → Result ℕ Refusal
size_in row column d = value_at key.SegmentSizes row column (json_number_of 1 200000000 d)

-- a row has a size for each rung
abbrev pub row_of_width : ℕ → ℕ → List Data → Result (List Data) Refusal
row_of_width rungs row ds = if length ds == rungs then Ok ds else Err (refusal kind.Shape key.SegmentSizes row 0)

-- the members of a row
abbrev pub row_members : ℕ → ℕ → Data → Result (List Data) Refusal
row_members rungs row d = do
  ds ← value_at key.SegmentSizes row 0 (list_of d)
  row_of_width rungs row ds

-- the sizes of a segment, rung by rung
abbrev pub sizes_in_row : ℕ → ℕ → Data → Result (List ℕ) Refusal
sizes_in_row rungs row d = do
  ds ← row_members rungs row d
  each_from (size_in row) 1 ds

-- the sizes, segment by segment
abbrev pub sizes_of : ℕ → Data → Result (List ℕ) Refusal
sizes_of rungs d = do
  ds ← members_at key.SegmentSizes (codes "segment_sizes_bits") most_segments d
  map_ok concat (each_from (sizes_in_row rungs) 1 ds)

-- the manifest that an object is
abbrev pub film_of : Data → Result Film Refusal
film_of d = do
  seg_ms ← seg_ms_of d
  bitrates ← bitrates_of d
  sizes ← sizes_of (length bitrates) d
  Ok (film seg_ms bitrates sizes)

-- the object that the bytes are
abbrev pub manifest_object : List ℕ → Result Data Refusal
manifest_object bytes = do
  d ← value_at key.Whole 0 0 (json_value_of bytes)
  value_at key.Whole 0 0 (object_of d)

-- the manifest that the bytes are
unfoldable pub manifest_of : List ℕ → Result Film Refusal
manifest_of bytes = do
  d ← manifest_object bytes
  film_of d
