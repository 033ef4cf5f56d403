-- A script is refused by its first 18 records where it is refused by all.
use Rattle.std.proofs.Common.{◌≡◌, ℕ, true, nat_lt, List, refl, arith}
use Rattle.std.proofs.lemmas.Bool.Decides.{nat_tests}
use Rattle.csv_records.specs.Table.{table_within}
use Rattle.reader_faults.proofs.Each.{EndsAt}
use Rattle.reader_faults.proofs.Within.{reads_within}
use Rattle.lab_model.specs.declared.fault.Kind.TheVariants as kind
use Rattle.lab_model.specs.declared.fault.Key.TheVariants as key
use Rattle.lab_model.specs.Reading.{refusal}
use Rattle.reader_faults.specs.Header.{behind_header}
use Rattle.seek_script.specs.Script.{seeks_to_end, is_seek_header, seek_in, seeks_in, seeks_of}

-- no seek is read behind the row 17
last_row : (segments : ℕ) → EndsAt 17 (seek_in segments)
last_row segments before row r late = let past : nat_lt 17 row ≡ true = grind (arith, nat_tests) in (refusal kind.OutOfRange key.Whole row 0, rw past refl)

-- the first 18 records of a text say what all of them say
pub seeks_within : (bytes : List ℕ) (segments : ℕ) → seeks_in segments (table_within 18 bytes) ≡ seeks_of bytes segments
unfolding seeks_of
seeks_within bytes segments =
    reads_within (behind_header is_seek_header) is_seek_header (refusal kind.Shape key.Header 1 0) (seek_in segments) 17 seeks_to_end (λ r rs. refl) (last_row segments) (omega arith) bytes
