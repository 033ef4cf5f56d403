-- What bytes of JSON, a key of an object and a number within its range stand for, or what is wrong.
use Rattle.std.specs.Prelude.{◌≡◌, ℕ, ◌&&◌, List, [], ◌∷◌, Option, Some, None, Result, Ok, Err, if◌then◌else◌, nat_le, is_some, option_map}
use Rattle.std.specs.Str.{is_utf8}
use Rattle.serde_json.specs.Data.{Data, Num, Items, no_items, item}
use Rattle.serde_json.specs.Read.{read}
use Rattle.serde_json.specs.Find.{as_array, as_i64, as_number, as_object, as_u64, get}
use Rattle.json_fields.specs.declared.Fault.{Fault}
use Rattle.json_fields.specs.declared.Fault.TheVariants as fault
use Rattle.json_fields.specs.declared.ReadErr.{ReadErr}
use Rattle.json_fields.specs.declared.ReadErr.TheVariants as errors

-- the value, or this fault where there is none
abbrev pub or_fault : {A E : Type 0} → E → Option A → Result A E
or_fault e (Some x) = Ok x
or_fault e None = Err e

-- the value that serde_json makes of the bytes; none where it refuses them
abbrev pub json_of : List ℕ → Option Data
json_of bytes = if is_utf8 bytes then read bytes else None

-- the same value, or that the bytes are no JSON
abbrev pub json_value_of : List ℕ → Result Data Fault
json_value_of bytes = or_fault fault.NotJson (json_of bytes)

-- the value, if it is an object
abbrev pub object_of : Data → Result Data Fault
object_of d = if is_some (as_object d) then Ok d else Err fault.WrongKind

-- the members, one by one
abbrev pub json_members : Items → List Data
json_members no_items = []
json_members (item d ds) = d ∷ json_members ds

-- the members of a list
abbrev pub list_of : Data → Result (List Data) Fault
list_of d = or_fault fault.WrongKind (option_map json_members (as_array d))

-- the value under a key of an object
abbrev pub member_of : List ℕ → Data → Result Data Fault
member_of key d = or_fault fault.MissingKey (get key d)

-- a number from the least to the most
abbrev pub json_number_within : ℕ → ℕ → ℕ → Result ℕ Fault
json_number_within least most n = if nat_le least n && nat_le n most then Ok n else Err fault.OutOfRange

-- a number that `as_u64` gives is tested by its range; another whole one is negative, and so out of range
abbrev pub whole_json_number : ℕ → ℕ → Num → Option ℕ → Result ℕ Fault
whole_json_number least most x (Some n) = json_number_within least most n
whole_json_number least most x None = if is_some (as_i64 x) then Err fault.OutOfRange else Err fault.NotWhole

-- the tests of a number that was found: that it is whole, and its range
abbrev pub number_found : ℕ → ℕ → Option Num → Result ℕ Fault
number_found least most (Some x) = whole_json_number least most x (as_u64 x)
number_found least most None = Err fault.WrongKind

-- the tests of a number: its kind, that it is whole, and its range
abbrev pub json_number_of : ℕ → ℕ → Data → Result ℕ Fault
json_number_of least most d = number_found least most (as_number d)

-- the number that a member is, if there is the member
abbrev pub member_number : ℕ → ℕ → Result Data Fault → Result ℕ Fault
member_number least most (Ok d) = json_number_of least most d
member_number least most (Err f) = Err f

-- the number under a key of an object
abbrev pub json_number_at : List ℕ → ℕ → ℕ → Data → Result ℕ Fault
json_number_at key least most d = member_number least most (member_of key d)

-- the list that a member is, if there is the member
abbrev pub member_list : Result Data Fault → Result (List Data) Fault
member_list (Ok d) = list_of d
member_list (Err f) = Err f

-- the list under a key of an object
abbrev pub list_at : List ℕ → Data → Result (List Data) Fault
list_at key d = member_list (member_of key d)

-- a call answered the value, as `seen` sees it, or the fault
abbrev pub AnswersJson : {X Y E : Type 0} → (X → Y) → Result X E → Result Y E → Type 0
AnswersJson seen (Ok x) r = r ≡ Ok (seen x)
AnswersJson seen (Err e) r = r ≡ Err e

-- the same, but that the call may have been out of memory
abbrev pub ReadsJson : {X Y : Type 0} → (X → Y) → Result X ReadErr → Result Y Fault → Type 0
ReadsJson seen (Ok x) r = r ≡ Ok (seen x)
ReadsJson seen (Err errors.Memory) r = Unit {0}
ReadsJson seen (Err (errors.Fault f)) r = r ≡ Err f
