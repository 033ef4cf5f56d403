-- What a good answer at a place says of the value or the field.
use Rattle.std.proofs.Common.{◌≡◌, ◌==◌, ℕ, cond, nat_lt, List, length, Result, Ok, Err, subst, arith}
use Rattle.std.proofs.lemmas.Bool.Decides.{nat_tests}
use Rattle.csv_records.specs.declared.number.Fault as csv
use Rattle.json_fields.specs.declared.Fault as json
use Rattle.serde_json.specs.Data.{Data}
use Rattle.lab_model.specs.declared.fault.Kind.TheVariants as kind
use Rattle.lab_model.specs.declared.fault.Key.{Key}
use Rattle.lab_model.specs.Film.{IsWithin}
use Rattle.lab_model.specs.Reading.{refusal}
use Rattle.lab_model.proofs.Steps.{test_err}
use Rattle.reader_faults.specs.Faults.{field_at, members_within, value_at}

-- a good answer at a place is the value's
pub value_at-ok : {A : Type 0} (k : Key) (row column : ℕ) (r : Result A json.Fault) (x : A) → value_at k row column r ≡ Ok x → r ≡ Ok x
value_at-ok k row column (Ok y) x h = cc
value_at-ok k row column (Err f) x h = absurd cc

-- and so is one of a field
pub field_at-ok : {A : Type 0} (k : Key) (row column : ℕ) (r : Result A csv.Fault) (x : A) → field_at k row column r ≡ Ok x → r ≡ Ok x
field_at-ok k row column (Ok y) x h = cc
field_at-ok k row column (Err f) x h = absurd cc

-- a list that passes is the one given, and has one member to the most
pub members_within-ok : (k : Key) (most : ℕ) (ds found : List Data) → members_within k most ds ≡ Ok found → (ds ≡ found) × IsWithin 1 most (length found)
members_within-ok k most ds found h =
    let some = test_err (length ds == 0) (cond (nat_lt most (length ds)) (Err (refusal kind.OutOfRange k 0 0)) (Ok ds)) found (refusal kind.Empty k 0 0) h in
    let few = test_err (nat_lt most (length ds)) (Ok ds) found (refusal kind.OutOfRange k 0 0) some.1 in
    let same : ds ≡ found = cc in
    (same, subst (λ (xs : List Data). IsWithin 1 most (length xs)) same (grind (arith, nat_tests, some.0), grind (arith, nat_tests, few.0)))
