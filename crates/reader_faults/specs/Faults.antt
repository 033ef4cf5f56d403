-- Faults of files: what a fault of a value or a field is called, with its key and its place.
use Rattle.std.specs.Prelude.{ℕ, ◌==◌, List, length, Result, Ok, Err, if◌then◌else◌, nat_lt}
use Rattle.csv_records.specs.declared.number.Fault as csv
use Rattle.csv_records.specs.declared.number.Fault.TheVariants as field
use Rattle.json_fields.specs.declared.Fault as json
use Rattle.json_fields.specs.declared.Fault.TheVariants as value
use Rattle.serde_json.specs.Data.{Data}
use Rattle.lab_model.specs.declared.fault.Kind.{Kind}
use Rattle.lab_model.specs.declared.fault.Kind.TheVariants as kind
use Rattle.lab_model.specs.declared.fault.Key.{Key}
use Rattle.lab_model.specs.declared.fault.Refusal.{Refusal}
use Rattle.lab_model.specs.Reading.{refusal}

-- what a fault of a JSON value is called
abbrev pub value_kind : json.Fault → Kind
value_kind value.NotJson = kind.NotJson
value_kind value.MissingKey = kind.MissingKey
value_kind value.WrongKind = kind.WrongKind
value_kind value.NotWhole = kind.NotWhole
value_kind value.OutOfRange = kind.OutOfRange

-- what a fault of a CSV field is called
abbrev pub field_kind : csv.Fault → Kind
field_kind field.NotWhole = kind.NotWhole
field_kind field.WrongKind = kind.WrongKind
field_kind field.OutOfRange = kind.OutOfRange

-- what was made of a JSON value, or the refusal of its fault at this key, row and column
abbrev pub value_at : {A : Type 0} → Key → ℕ → ℕ → Result A json.Fault → Result A Refusal
value_at key row column (Ok x) = Ok x
value_at key row column (Err f) = Err (refusal (value_kind f) key row column)

-- the same of a CSV field
abbrev pub field_at : {A : Type 0} → Key → ℕ → ℕ → Result A csv.Fault → Result A Refusal
field_at key row column (Ok x) = Ok x
field_at key row column (Err f) = Err (refusal (field_kind f) key row column)

-- the members of a list, which are one to the most
abbrev pub members_within : Key → ℕ → List Data → Result (List Data) Refusal
members_within key most ds =
    if length ds == 0 then Err (refusal kind.Empty key 0 0)
    else (if nat_lt most (length ds) then Err (refusal kind.OutOfRange key 0 0) else Ok ds)
