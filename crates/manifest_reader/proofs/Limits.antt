-- A manifest that was read keeps the limits of a film.
use Rattle.std.proofs.Common.{◌≡◌, ◌∙◌, ◌==◌, ◌*◌, ℕ, cond, nat_lt, List, length, Option, None, Result, Ok, Err, codes, sym, ap, subst, arith}
use Rattle.std.specs.List.{All, concat}
use Rattle.std.specs.List.Sorted.{IsStrictlyIncreasing}
use Rattle.std.proofs.lemmas.Bool.Decides.{nat_tests}
use Rattle.serde_json.specs.Data.{Data}
use Rattle.json_fields.specs.Fields.{list_at, list_of, json_number_at, json_number_of}
use Rattle.lab_model.specs.Steps.{map_ok}
use Rattle.lab_model.proofs.Steps.{map_ok-ok, test_ok, then_ok}
use Rattle.reader_faults.specs.Each.{each_after, each_from}
use Rattle.reader_faults.specs.Faults.{members_within, value_at}
use Rattle.reader_faults.proofs.Places.{members_within-ok, value_at-ok}
use Rattle.reader_faults.proofs.Ranges.{number-within, json_number_at-within}
use Rattle.reader_faults.proofs.Each.{each_all, each_count}
use Rattle.lab_model.specs.Film.{IsFilm, IsWithin, film, most_rungs, most_segments}
use Rattle.lab_model.specs.declared.fault.Kind.TheVariants as kind
use Rattle.lab_model.specs.declared.fault.Key.{Key}
use Rattle.lab_model.specs.declared.fault.Key.TheVariants as key
use Rattle.lab_model.specs.Reading.{refusal}
use Rattle.manifest_reader.specs.Manifest.{above, bitrate_in, bitrates_of, members_at, sizes_in_row, row_members, seg_ms_of, row_of_width, size_in, sizes_of}
use Rattle.manifest_reader.proofs.Rising.{IsStrictlyIncreasing-rises, above-ok, each-rises}
use Rattle.manifest_reader.proofs.Sizes.{IsRow, All-concat, length-concat, rows_of_sizes}

-- the list that was read under a key has one member to the most
pub members_at-within : (k : Key) (name : List ℕ) (most : ℕ) (d : Data) (found : List Data) → members_at k name most d ≡ Ok found → IsWithin 1 most (length found)
members_at-within k name most d found h =
    let ds = then_ok (value_at k 0 0 (list_at name d)) (members_within k most) found h in
    (members_within-ok k most ds.0 found ds.2).1

bitrate_in-within : (before : Option ℕ) (column : ℕ) (d : Data) (n : ℕ) → bitrate_in before column d ≡ Ok n → IsWithin 1 10000000 n
bitrate_in-within before column d n h =
    let m = then_ok (value_at key.Bitrates 0 column (json_number_of 1 10000000 d)) (above before column) n h in
    let same = (above-ok before column m.0 n m.2).1 in
    subst (IsWithin 1 10000000) same (number-within 1 10000000 d m.0 (value_at-ok key.Bitrates 0 column (json_number_of 1 10000000 d) m.0 m.1))

seg_ms_of-within : (d : Data) (n : ℕ) → seg_ms_of d ≡ Ok n → IsWithin 1 60000 n
seg_ms_of-within d n h = json_number_at-within (codes "segment_duration_ms") 1 60000 d n (value_at-ok key.SegmentDuration 0 0 (json_number_at (codes "segment_duration_ms") 1 60000 d) n h)

-- what is known of a ladder
pub record IsLadder (xs : List ℕ) : Type 0 where
  pub count : IsWithin 1 most_rungs (length xs)
  pub rising : IsStrictlyIncreasing xs
  pub bitrates : All (IsWithin 1 10000000) xs

-- bitrates that were read are one to 16, rise, and keep their limits
pub bitrates_of-ladder : (d : Data) (xs : List ℕ) → bitrates_of d ≡ Ok xs → IsLadder xs
bitrates_of-ladder d xs h =
    let ds = then_ok (members_at key.Bitrates (codes "bitrates_kbps") most_rungs d) (each_after bitrate_in None 1) xs h in
    record {
      count = subst (IsWithin 1 most_rungs) (sym (each_count bitrate_in None 1 ds.0 xs ds.2)) (members_at-within key.Bitrates (codes "bitrates_kbps") most_rungs d ds.0 ds.1);
      rising = IsStrictlyIncreasing-rises None xs (each-rises None 1 ds.0 xs ds.2);
      bitrates = each_all (IsWithin 1 10000000) bitrate_in None 1 ds.0 xs bitrate_in-within ds.2;
    }

size_in-within : (row column : ℕ) (d : Data) (n : ℕ) → size_in row column d ≡ Ok n → IsWithin 1 200000000 n
size_in-within row column d n h = number-within 1 200000000 d n (value_at-ok key.SegmentSizes row column (json_number_of 1 200000000 d) n h)

row_of_width-len : (rungs row : ℕ) (ds found : List Data) → row_of_width rungs row ds ≡ Ok found → length found ≡ rungs
row_of_width-len rungs row ds found h =
    let t = test_ok (length ds == rungs) (Ok ds) found (refusal kind.Shape key.SegmentSizes row 0) h in
    let same : ds ≡ found = cc in sym (ap length same) ∙ grind (arith, nat_tests, t.0)

sizes_in_row-row : (rungs row : ℕ) (d : Data) (xs : List ℕ) → sizes_in_row rungs row d ≡ Ok xs → IsRow rungs xs
sizes_in_row-row rungs row d xs h =
    let ds = then_ok (row_members rungs row d) (λ ds. each_from (size_in row) 1 ds) xs h in
    let members = then_ok (value_at key.SegmentSizes row 0 (list_of d)) (row_of_width rungs row) ds.0 ds.1 in (
      each_count (λ (_ : Option ℕ). size_in row) None 1 ds.0 xs ds.2 ∙ row_of_width-len rungs row members.0 ds.0 members.2,
      each_all (IsWithin 1 200000000) (λ (_ : Option ℕ). size_in row) None 1 ds.0 xs (λ (_ : Option ℕ). size_in-within row) ds.2,
    )

-- what is known of the sizes
pub record IsTable (rungs : ℕ) (xs : List ℕ) : Type 0 where
  pub rows : ℕ
  pub count : IsWithin 1 most_segments rows
  pub whole : length xs ≡ rows * rungs
  pub sizes : All (IsWithin 1 200000000) xs

-- sizes that were read are one to 2000 whole rows, and keep their limits
pub sizes_of-table : (rungs : ℕ) (d : Data) (xs : List ℕ) → sizes_of rungs d ≡ Ok xs → IsTable rungs xs
sizes_of-table rungs d xs h =
    let ds = then_ok (members_at key.SegmentSizes (codes "segment_sizes_bits") most_segments d) (λ ds. map_ok concat (each_from (sizes_in_row rungs) 1 ds)) xs h in
    let rows = map_ok-ok concat (each_from (sizes_in_row rungs) 1 ds.0) xs ds.2 in
    let are_rows = each_all (IsRow rungs) (λ (_ : Option (List ℕ)). sizes_in_row rungs) None 1 ds.0 rows.0 (λ (_ : Option (List ℕ)). sizes_in_row-row rungs) rows.1 in
    record {
      rows = length rows.0;
      count = subst (IsWithin 1 most_segments) (sym (each_count (λ (_ : Option (List ℕ)). sizes_in_row rungs) None 1 ds.0 rows.0 rows.1)) (members_at-within key.SegmentSizes (codes "segment_sizes_bits") most_segments d ds.0 ds.1);
      whole = sym (ap length rows.2) ∙ length-concat rungs rows.0 are_rows;
      sizes = subst (All (IsWithin 1 200000000)) rows.2 (All-concat rungs rows.0 are_rows);
    }

-- parts that were read are a film
pub parts-film : (d : Data) (seg_ms : ℕ) (bitrates sizes : List ℕ) (rungs : ℕ) → rungs ≡ length bitrates → seg_ms_of d ≡ Ok seg_ms → bitrates_of d ≡ Ok bitrates → sizes_of rungs d ≡ Ok sizes → IsFilm (film seg_ms bitrates sizes)
parts-film d seg_ms bitrates sizes rungs e s b z =
    let ladder = bitrates_of-ladder d bitrates b in
    let table = sizes_of-table (length bitrates) d sizes (subst (λ n. sizes_of n d ≡ Ok sizes) e z) in
    let segments = rows_of_sizes (length sizes) table.rows (length bitrates) table.whole ladder.count.0 in
    record {
      seg_ms = seg_ms_of-within d seg_ms s;
      rungs = ladder.count;
      rising = ladder.rising;
      bitrates = ladder.bitrates;
      whole = rw segments table.whole;
      segments = rw segments table.count;
      sizes = table.sizes;
    }
