-- A walk along a CSV trace reads what its table says.
use Rattle.std.proofs.Common.{◌≡◌, ◌∙◌, ◌+◌, ◌≤◌, ◌++◌, ℕ, true, false, List, [], ◌∷◌, length, length-append, append_assoc, Option, None, Some, Result, Ok, Err, refl, sym, ap, arith}
use Rattle.csv.specs.Records.{fields_of}
use Rattle.csv_records.specs.Table.{Fields, table_within}
use Rattle.csv_records.specs.Walk.{HasGiven, tabled}
use Rattle.csv_records.specs.declared.walk.Walk.{Walk}
use Rattle.csv_records.proofs.Rows.{begun}
use Rattle.lab_model.specs.Steps.{◌>>=◌}
use Rattle.lab_model.specs.declared.fault.Kind.TheVariants as kind
use Rattle.lab_model.specs.declared.fault.Key.TheVariants as key
use Rattle.lab_model.specs.declared.fault.Refusal.{Refusal}
use Rattle.lab_model.specs.declared.trace.Period.{Period}
use Rattle.lab_model.specs.Reading.{refusal}
use Rattle.reader_faults.specs.Each.{each_after, each_from}
use Rattle.reader_faults.proofs.Each.{each_fails, each_more}
use Rattle.reader_faults.specs.Header.{behind_header}
use Rattle.trace_reader.specs.TraceCsv.{is_trace_header, period_in_row, periods_to_end, table_periods}

-- what rows say, the first being the header, and how they end
abbrev said : List Fields → Option ℕ → Result (List Period) Refusal
said rows uneven = behind_header is_trace_header rows >>= (λ rs. each_from period_in_row 2 rs >>= periods_to_end uneven)

-- a text without a record is empty
pub no_header : (bytes : List ℕ) (uneven : Option ℕ) → table_within 100002 bytes ≡ tabled [] uneven → table_periods (table_within 100002 bytes) ≡ Err (refusal kind.Empty key.Whole 0 0)
no_header bytes uneven e = ap table_periods e

-- a first record that is no header is refused
pub other_header : (bytes : List ℕ) (r : List (List ℕ)) (w : Walk) → HasGiven bytes 100002 (r ∷ []) w → is_trace_header r ≡ false → table_periods (table_within 100002 bytes) ≡ Err (refusal kind.Shape key.Header 1 0)
other_header bytes r w h other =
    let first = begun bytes 100002 (r ∷ []) w h in
    ap (λ (rows : List Fields). said rows (table_within 100002 bytes).uneven) first.1 ∙ rw other refl

-- the periods behind the header, as far as the walk has come
pub record HasReadPeriods (bytes : List ℕ) (periods : List Period) (row : ℕ) (w : Walk) : Type 0 where
  pub header : List (List ℕ)
  pub rows : List Fields
  pub given : HasGiven bytes 100002 (header ∷ rows) w
  pub is : is_trace_header header ≡ true
  pub each : each_after (λ (_ : Option Period). period_in_row) None 2 rows ≡ Ok periods
  pub place : row ≡ 2 + length rows
  pub few : row ≤ 100002

-- behind the header no period was read
pub reads_none : (bytes : List ℕ) (header : List (List ℕ)) (w : Walk) → HasGiven bytes 100002 (header ∷ []) w → is_trace_header header ≡ true → HasReadPeriods bytes [] 2 w
unfolding each_after
reads_none bytes header w h is = record { header = header; rows = []; given = h; is = is; each = refl; place = refl; few = omega arith }

at_place : (row : ℕ) (rows : List Fields) (r : List (List ℕ)) (a : Result Period Refusal) → row ≡ 2 + length rows → period_in_row row r ≡ a → period_in_row (2 + length rows) r ≡ a
at_place row rows r a e h = ap (λ (n : ℕ). period_in_row n r) (sym e) ∙ h

-- one more period was read
pub reads_more : (bytes : List ℕ) (periods : List Period) (row : ℕ) (w x : Walk) (p : Period) (s : HasReadPeriods bytes periods row w) → HasGiven bytes 100002 ((s.header ∷ s.rows) ++ fields_of x.row ∷ []) x
    → row ≤ 100001 → period_in_row row (fields_of x.row) ≡ Ok p → HasReadPeriods bytes (periods ++ p ∷ []) (row + 1) x
reads_more bytes periods row w x p s given low e =
    let size : length (s.rows ++ fields_of x.row ∷ []) ≡ length s.rows + 1 = length-append s.rows (fields_of x.row ∷ []) in
    let place = s.place in
    record {
      header = s.header;
      rows = s.rows ++ fields_of x.row ∷ [];
      given = given;
      is = s.is;
      each = each_more period_in_row None 2 s.rows periods (fields_of x.row) p s.each (at_place row s.rows (fields_of x.row) (Ok p) s.place e);
      place = omega (arith, place, size);
      few = omega (arith, low);
    }

-- the next record is refused, and so is the text
pub reads_refused : (bytes : List ℕ) (periods : List Period) (row : ℕ) (w x : Walk) (y : Refusal) (s : HasReadPeriods bytes periods row w) → HasGiven bytes 100002 ((s.header ∷ s.rows) ++ fields_of x.row ∷ []) x
    → period_in_row row (fields_of x.row) ≡ Err y → table_periods (table_within 100002 bytes) ≡ Err y
reads_refused bytes periods row w x y s given e =
    let first = begun bytes 100002 ((s.header ∷ s.rows) ++ fields_of x.row ∷ []) x given in
    let behind : (s.rows ++ fields_of x.row ∷ []) ++ first.0 ≡ s.rows ++ fields_of x.row ∷ first.0 = append_assoc s.rows (fields_of x.row ∷ []) first.0 in
    let fails = each_fails period_in_row None 2 s.rows periods (fields_of x.row) first.0 y s.each (at_place row s.rows (fields_of x.row) (Err y) s.place e) in
    let is = s.is in
    ap (λ (rows : List Fields). said rows (table_within 100002 bytes).uneven) first.1
    ∙ ap (λ (rows : List Fields). said (s.header ∷ rows) (table_within 100002 bytes).uneven) behind
    ∙ rw (is, fails) refl

-- behind the last period the text says how it ends
pub reads_ended : (bytes : List ℕ) (periods : List Period) (row : ℕ) (w : Walk) (uneven : Option ℕ) (s : HasReadPeriods bytes periods row w) → table_within 100002 bytes ≡ tabled (s.header ∷ s.rows) uneven
    → table_periods (table_within 100002 bytes) ≡ periods_to_end uneven periods
reads_ended bytes periods row w uneven s e =
    let is = s.is in
    let each = s.each in
    ap table_periods e ∙ rw (is, each) refl

-- behind the last period the next record is uneven
pub reads_uneven : (bytes : List ℕ) (periods : List Period) (row : ℕ) (w : Walk) (s : HasReadPeriods bytes periods row w) → table_within 100002 bytes ≡ tabled (s.header ∷ s.rows) (Some (length (s.header ∷ s.rows) + 1))
    → table_periods (table_within 100002 bytes) ≡ periods_to_end (Some row) periods
reads_uneven bytes periods row w s e =
    let here : length (s.header ∷ s.rows) + 1 ≡ row = omega (arith, s.place) in
    reads_ended bytes periods row w (Some row) s (e ∙ ap (λ (n : ℕ). tabled (s.header ∷ s.rows) (Some n)) here)
