-- How far a text was read, record by record.
use Rattle.std.specs.Prelude.{◌≡◌, ℕ, ◌+◌, ◌<◌, ◌++◌, Bool, true, false, List, [], ◌∷◌, length, Option, Some, None, Result, Ok, Err}
use Rattle.std.specs.List.{take_while}
use Rattle.csv.specs.Machine.{ends_at_end}
use Rattle.csv.specs.Reading.{Ready, default_config, records, records_from, source_of, strip_bom}
use Rattle.csv.specs.Records.{fields_of}
use Rattle.csv.specs.declared.parser.State.{State}
use Rattle.csv.specs.declared.reader.Trim.TheVariants as trim
use Rattle.csv_records.specs.Table.{Fields, Table, even_rows, has_width, table_within}
use Rattle.csv_records.specs.declared.walk.Halt.{Halt}
use Rattle.csv_records.specs.declared.walk.Halt.TheVariants as halt
use Rattle.csv_records.specs.declared.walk.Walk.{Walk}

-- the records of xs are these rows and the ones that follow from the state s and the bytes y
pub record StandsBehind (xs : List ℕ) (rows : List Fields) (s : State) (y : List ℕ) : Type 0 where
  pub fuel : ℕ
  pub enough : length y < fuel
  pub between : ends_at_end s ≡ false
  pub rest : records default_config xs ≡ rows ++ records_from default_config fuel s y

-- how many fields each record has to have
abbrev pub width_of : List Fields → Option ℕ
width_of [] = None
width_of (r ∷ rs) = Some (length r)

-- the even records behind others of this width
abbrev pub more_rows : Option ℕ → List Fields → List Fields
more_rows None rest = even_rows rest
more_rows (Some n) rest = take_while (has_width n) rest

-- the rows so far are even
abbrev pub Fit : List Fields → Type 0
Fit rows = (rest : List Fields) → even_rows (rows ++ rest) ≡ rows ++ more_rows (width_of rows) rest

-- a walk along at most so many records of the bytes has given these, each as wide as the first, and stands behind them
pub record HasGiven (bytes : List ℕ) (most : ℕ) (rows : List Fields) (w : Walk) : Type 0 where
  pub count : length rows + w.left ≡ most
  pub trim : w.reader.trim ≡ trim.None
  pub ready : Ready w.reader
  pub config : w.reader.config ≡ default_config
  pub flexible : w.reader.flexible ≡ false
  pub failed : w.reader.failed ≡ false
  pub expected : w.reader.expected ≡ width_of rows
  pub fit : Fit rows
  pub unread : List ℕ
  pub source : source_of (λ s. Some s.now) w.reader ≡ Some unread
  pub stands : StandsBehind (strip_bom bytes) rows w.reader.state unread

-- the table with these rows, and the number of the uneven record behind them
abbrev pub tabled : List Fields → Option ℕ → Table
tabled rows uneven = record { rows = rows; uneven = uneven }

-- a step of a walk that has given these rows: one more; or they are all, or all but an uneven one behind them; or memory was wanting
abbrev pub AdvancesWalk : List ℕ → ℕ → List Fields → Walk → Result Bool Halt → Type 0
AdvancesWalk bytes most rows w (Ok true) = HasGiven bytes most (rows ++ fields_of w.row ∷ []) w
AdvancesWalk bytes most rows w (Ok false) = table_within most bytes ≡ tabled rows None
AdvancesWalk bytes most rows w (Err halt.Uneven) = table_within most bytes ≡ tabled rows (Some (length rows + 1))
AdvancesWalk bytes most rows w (Err halt.Memory) = Unit {0}
