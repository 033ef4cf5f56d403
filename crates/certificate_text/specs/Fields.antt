-- The fields of a line, read one after the other: each is what the bytes say and what stands behind it, or the line is bad.
use Rattle.std.specs.Prelude.{ℕ, zero, suc, ◌+◌, ◌==◌, ◌&&◌, Bool, List, [], ◌∷◌, ◌++◌, take, drop, position, Option, Some, None, Result, Ok, Err, if◌then◌else◌, ℤ, pos, ◌-ℤ◌, nat_le}
use Rattle.std.specs.Str.{bytes_eq}
use Rattle.lab_model.specs.declared.fault.Kind.TheVariants as kind
use Rattle.lab_model.specs.declared.fault.Key.TheVariants as key
use Rattle.lab_model.specs.declared.fault.Refusal.{Refusal}
use Rattle.lab_model.specs.Reading.{refusal}
use Rattle.lab_model.specs.Steps.{◌>>=◌}
use Rattle.lab_io.specs.Sink.{Text}
use Rattle.lab_io.specs.Number.{numeral}
use Rattle.labels.specs.Form.{place_digits}

-- what was read and the bytes behind it, or the refusal
abbrev pub Read : Type 0 → Type 0
Read X = Result (X × Text) Refusal

-- the line of this number, the first being 1, is the first without its form
abbrev pub line_refusal : ℕ → Refusal
line_refusal row = refusal kind.CertLine key.Line row 0

-- the value, where the test passes
abbrev pub value_if : {X : Type 0} → ℕ → Bool → X → Result X Refusal
value_if row test x = if test then Ok x else Err (line_refusal row)

-- the value, where there is one
abbrev pub some_at : {X : Type 0} → ℕ → Option X → Result X Refusal
some_at row (Some x) = Ok x
some_at row None = Err (line_refusal row)

-- the bytes before a place, and those behind it
abbrev pub split_field : ℕ → Text → Option ℕ → Read Text
split_field row bytes (Some i) = Ok (take i bytes, drop (i + 1) bytes)
split_field row bytes None = Err (line_refusal row)

-- a field: what stands before the first byte that ends it
abbrev pub read_field : ℕ → ℕ → Text → Read Text
read_field row stop bytes = split_field row bytes (position (λ b. b == stop) bytes)

-- this word
unfoldable pub read_word : ℕ → Text → ℕ → Text → Result Text Refusal
read_word row word stop bytes = do
  field ← read_field row stop bytes
  value_if row (bytes_eq field.0 word) field.1

-- a number of at most so many digits
unfoldable pub read_number : ℕ → ℕ → ℕ → Text → Read ℕ
read_number row digits stop bytes = do
  field ← read_field row stop bytes
  n ← some_at row (numeral digits field.0)
  Ok (n, field.1)

-- this number
unfoldable pub read_known : ℕ → ℕ → ℕ → Text → Result Text Refusal
read_known row known stop bytes = do
  n ← read_number row place_digits stop bytes
  value_if row (n.0 == known) n.1

-- a number from the first to the second
unfoldable pub read_within : ℕ → ℕ → ℕ → ℕ → Text → Read ℕ
read_within row low high stop bytes = do
  n ← read_number row place_digits stop bytes
  value_if row (nat_le low n.0 && nat_le n.0 high) n

-- the number below 0 that a text spells behind its `-`
abbrev pub negative_of : ℕ → ℕ → Text → Result ℤ Refusal
negative_of row digits text = do
  n ← some_at row (numeral digits text)
  value_if row (nat_le 1 n) (pos 0 -ℤ pos n)

-- the number that a text spells, with a sign
abbrev pub unsigned_of : ℕ → ℕ → Text → Result ℤ Refusal
unsigned_of row digits text = do
  n ← some_at row (numeral digits text)
  Ok (pos n)

-- the number that a text spells, which may have a `-` before a number that isn't 0
unfoldable pub signed_of : ℕ → ℕ → Text → Result ℤ Refusal
signed_of row digits [] = Err (line_refusal row)
signed_of row digits (c ∷ cs) = if c == 45 then negative_of row digits cs else unsigned_of row digits (c ∷ cs)

-- such a number
unfoldable pub read_signed : ℕ → ℕ → ℕ → Text → Read ℤ
read_signed row digits stop bytes = do
  field ← read_field row stop bytes
  z ← signed_of row digits field.0
  Ok (z, field.1)

-- the byte that ends a field, where so many more follow in its line: a space or a newline
abbrev pub stop_before : ℕ → ℕ
stop_before zero = 10
stop_before (suc more) = 32

-- numbers that were read before, and then those that are read
abbrev pub numbers_behind : List ℕ → Read (List ℕ) → Read (List ℕ)
numbers_behind before read = read >>= λ ns. Ok (before ++ ns.0, ns.1)

-- so many numbers, to the end of the line
unfoldable pub read_numbers : ℕ → ℕ → ℕ → Text → Read (List ℕ)
read_numbers row digits zero bytes = Ok ([], bytes)
read_numbers row digits (suc more) bytes = do
  n ← read_number row digits (stop_before more) bytes
  ns ← read_numbers row digits more n.1
  Ok (n.0 ∷ ns.0, ns.1)
