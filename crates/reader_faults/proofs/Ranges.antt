-- Numbers that were read are in their range.
use Rattle.std.proofs.Common.{◌≡◌, ◌*◌, ◌&&◌, ◌⊎◌, ℕ, Bool, true, false, cond, nat_le, List, Option, Some, None, Result, Ok, Err, inl, inr, arith}
use Rattle.std.specs.Str.Parse.{digits_value}
use Rattle.std.proofs.lemmas.Bool.{and_parts}
use Rattle.std.proofs.lemmas.Bool.Decides.{nat_tests}
use Rattle.serde_json.specs.Data.{Data, Num}
use Rattle.serde_json.specs.Find.{as_number, as_u64}
use Rattle.csv_records.specs.declared.number.Fault.{Fault}
use Rattle.csv_records.specs.declared.number.Fault.TheVariants as fault
use Rattle.csv_records.specs.Field.{are_digits, csv_number_within, is_in_thousandths, spelling_fault, thousandths, thousandths_of, whole_number}
use Rattle.json_fields.specs.declared.Fault as json
use Rattle.json_fields.specs.declared.Fault.TheVariants as value
use Rattle.json_fields.specs.Fields.{member_number, member_of, json_number_at, number_found, json_number_of, whole_json_number}
use Rattle.lab_model.specs.Film.{IsWithin}
use Rattle.lab_model.proofs.Steps.{test_ok}

test-within : {E : Type 0} (least most m n : ℕ) (e : E) → cond (nat_le least m && nat_le m most) (Ok m) (Err e) ≡ Ok n → IsWithin least most n
test-within least most m n e h =
    let t = test_ok (nat_le least m && nat_le m most) (Ok m) n e h in
    let b = and_parts (nat_le least m) (nat_le m most) t.0 in
    let same : m ≡ n = cc in
    (grind (arith, nat_tests, b.0, same), grind (arith, nat_tests, b.1, same))

-- ---- JSON values

negative_fails : (b : Bool) (n : ℕ) → cond b (Err value.OutOfRange) (Err value.NotWhole) ≡ Ok n → ⊥
negative_fails true n h = cc
negative_fails false n h = cc

whole-within : (least most : ℕ) (x : Num) (o : Option ℕ) (n : ℕ) → whole_json_number least most x o ≡ Ok n → IsWithin least most n
whole-within least most x (Some m) n h = test-within least most m n value.OutOfRange h
whole-within least most x None n h = absurd (negative_fails _ n h)

found-within : (least most : ℕ) (o : Option Num) (n : ℕ) → number_found least most o ≡ Ok n → IsWithin least most n
found-within least most (Some x) n h = whole-within least most x (as_u64 x) n h
found-within least most None n h = absurd cc

-- a number that passed its tests is in its range
pub number-within : (least most : ℕ) (d : Data) (n : ℕ) → json_number_of least most d ≡ Ok n → IsWithin least most n
number-within least most d n h = found-within least most (as_number d) n h

member-within : (least most : ℕ) (r : Result Data json.Fault) (n : ℕ) → member_number least most r ≡ Ok n → IsWithin least most n
member-within least most (Ok d) n h = number-within least most d n h
member-within least most (Err f) n h = absurd cc

-- so is one under a key
pub json_number_at-within : (key : List ℕ) (least most : ℕ) (d : Data) (n : ℕ) → json_number_at key least most d ≡ Ok n → IsWithin least most n
json_number_at-within key least most d n h = member-within least most (member_of key d) n h

-- ---- CSV fields

-- a whole number that passed its tests is in its range
pub whole_number-within : (least most : ℕ) (field : List ℕ) (n : ℕ) → whole_number least most field ≡ Ok n → IsWithin least most n
unfolding whole_number
whole_number-within least most field n h =
    test-within least most (digits_value 10 field) n fault.OutOfRange (test_ok (are_digits field) (csv_number_within least most (digits_value 10 field)) n (spelling_fault field) h).1

either : (b c : Bool) (r s : Result ℕ Fault) (e : Fault) (n : ℕ) → cond b r (cond c s (Err e)) ≡ Ok n → (r ≡ Ok n) ⊎ (s ≡ Ok n)
either true c r s e n h = inl h
either false true r s e n h = inr h
either false false r s e n h = absurd cc

-- so are thousandths
pub thousandths-within : (least most : ℕ) (field : List ℕ) (n : ℕ) → thousandths least most field ≡ Ok n → IsWithin (1000 * least) (1000 * most) n
unfolding thousandths
thousandths-within least most field n h =
    elim (either (are_digits field) (is_in_thousandths field) (csv_number_within (1000 * least) (1000 * most) (1000 * digits_value 10 field)) (csv_number_within (1000 * least) (1000 * most) (thousandths_of field)) (spelling_fault field) n h) [
      | inl e ↦ test-within (1000 * least) (1000 * most) (1000 * digits_value 10 field) n fault.OutOfRange e
      | inr e ↦ test-within (1000 * least) (1000 * most) (thousandths_of field) n fault.OutOfRange e
    ]
