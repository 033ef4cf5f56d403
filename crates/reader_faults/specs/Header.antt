-- The header of a text of CSV.
use Rattle.std.specs.Prelude.{Bool, List, [], ◌∷◌, Result, Ok, Err, if◌then◌else◌}
use Rattle.csv_records.specs.Table.{Fields}
use Rattle.lab_model.specs.declared.fault.Refusal.{Refusal}
use Rattle.lab_model.specs.declared.fault.Kind.TheVariants as kind
use Rattle.lab_model.specs.declared.fault.Key.TheVariants as key
use Rattle.lab_model.specs.Reading.{refusal}

-- the records behind the first, if it passes this test of a header
abbrev pub behind_header : (Fields → Bool) → List Fields → Result (List Fields) Refusal
behind_header is_header [] = Err (refusal kind.Empty key.Whole 0 0)
behind_header is_header (r ∷ rs) = if is_header r then Ok rs else Err (refusal kind.Shape key.Header 1 0)
