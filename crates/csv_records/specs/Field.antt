-- A field of a record, and the tests of a field that is a number.
use Rattle.std.specs.Prelude.{ℕ, ◌+◌, ◌-◌, ◌*◌, ◌^◌, ◌==◌, ◌&&◌, ◌||◌, Bool, false, List, [], ◌∷◌, length, reverse, Option, Some, None, Result, Ok, Err, if◌then◌else◌, nat_le}
use Rattle.std.specs.List.{before_first, after_first}
use Rattle.std.specs.Str.{all_ascii_digits, bytes_eq}
use Rattle.std.specs.Str.Parse.{digits_value}
use Rattle.csv.specs.Records.{field_at}
use Rattle.csv_records.specs.Table.{Fields}
use Rattle.csv_records.specs.declared.number.Fault.{Fault}
use Rattle.csv_records.specs.declared.number.Fault.TheVariants as fault

-- a space or a tab
abbrev pub is_blank : ℕ → Bool
is_blank c = (c == 32) || (c == 9)

-- without the blanks in front
abbrev pub without_indent : List ℕ → List ℕ
without_indent [] = []
without_indent (c ∷ cs) = if is_blank c then without_indent cs else c ∷ cs

-- without the blanks at its end
abbrev pub without_padding : List ℕ → List ℕ
without_padding xs = reverse (without_indent (reverse xs))

-- a field without the blanks at its ends
abbrev pub without_blanks : List ℕ → List ℕ
without_blanks xs = without_padding (without_indent xs)

-- the field, or nothing where it is lacking
abbrev pub or_nothing : Option (List ℕ) → List ℕ
or_nothing (Some f) = f
or_nothing None = []

-- the field in a column, counted from 0, without the blanks at its ends
abbrev pub field_in : ℕ → Fields → List ℕ
field_in column fields = without_blanks (or_nothing (field_at fields column))

-- the field in a column has this text
abbrev pub is_named : ℕ → List ℕ → Fields → Bool
is_named column name fields = bytes_eq (field_in column fields) name

-- one or more ASCII digits
abbrev pub are_digits : List ℕ → Bool
are_digits [] = false
are_digits (c ∷ cs) = all_ascii_digits (c ∷ cs)

-- a point
abbrev pub is_point : ℕ → Bool
is_point c = c == 46

-- what stands before the first point
abbrev pub whole_part : List ℕ → List ℕ
whole_part field = before_first is_point field

-- what stands behind the first point, nothing where there is none
abbrev pub fraction : List ℕ → List ℕ
fraction field = after_first is_point field

-- digits, a point and digits
abbrev pub is_decimal : List ℕ → Bool
is_decimal field = are_digits (whole_part field) && are_digits (fraction field)

-- digits, a point and one to three digits
abbrev pub is_in_thousandths : List ℕ → Bool
is_in_thousandths field = is_decimal field && nat_le (length (fraction field)) 3

-- how many thousandths such a field says
abbrev pub thousandths_of : List ℕ → ℕ
thousandths_of field = 1000 * digits_value 10 (whole_part field) + digits_value 10 (fraction field) * 10 ^ (3 - length (fraction field))

-- a number from the least to the most
abbrev pub csv_number_within : ℕ → ℕ → ℕ → Result ℕ Fault
csv_number_within least most n = if nat_le least n && nat_le n most then Ok n else Err fault.OutOfRange

-- the fault of a field that says no number of the kind that is asked for
abbrev pub spelling_fault : List ℕ → Fault
spelling_fault field = if is_decimal field then fault.NotWhole else fault.WrongKind

-- the tests of a whole number
unfoldable pub whole_number : ℕ → ℕ → List ℕ → Result ℕ Fault
whole_number least most field =
    if are_digits field then csv_number_within least most (digits_value 10 field)
    else Err (spelling_fault field)

-- the tests of a number of thousandths, its range in wholes
unfoldable pub thousandths : ℕ → ℕ → List ℕ → Result ℕ Fault
thousandths least most field =
    if are_digits field then csv_number_within (1000 * least) (1000 * most) (1000 * digits_value 10 field)
    else (if is_in_thousandths field then csv_number_within (1000 * least) (1000 * most) (thousandths_of field)
    else Err (spelling_fault field))
