-- The numbers that digits write.
use Rattle.std.proofs.Common.{◌≡◌, ◌∙◌, ◌+◌, ◌-◌, ◌*◌, ◌^◌, ◌<◌, ◌≤◌, ◌&&◌, ℕ, zero, suc, List, [], ◌∷◌, Bool, true, false, Ok, Err, cond, get_or, length, min, nat_le, nat_lt, take, refl, sym, ap, inl, inr, arith}
use Rattle.std.specs.Char.{digit_value, is_ascii_digit}
use Rattle.std.specs.Str.{all_ascii_digits}
use Rattle.std.specs.Str.Parse.{digits_value}
use Rattle.std.proofs.lemmas.Bool.{and_parts, cases_lt}
use Rattle.std.proofs.lemmas.Bool.Decides.{nat_tests}
use Rattle.std.proofs.lemmas.Int.Digits.{digits_value_more}
use Rattle.csv_records.specs.declared.number.Fault.TheVariants as fault
use Rattle.csv_records.specs.Field.{are_digits, csv_number_within, is_in_thousandths, spelling_fault, thousandths, thousandths_of, whole_number}

is_digit : (c : ℕ) → is_ascii_digit c ≡ true → (48 ≤ c) × (c ≤ 57)
is_digit c h = (grind (arith, nat_tests, h), grind (arith, nat_tests, h))

-- each of the digits is one
pub digit_at : (ds : List ℕ) (i : ℕ) → all_ascii_digits ds ≡ true → i < length ds → (48 ≤ get_or ds i 0) × (get_or ds i 0 ≤ 57)
digit_at [] i h lt = absurd (omega arith)
digit_at (c ∷ cs) zero h lt = is_digit c (and_parts (is_ascii_digit c) (all_ascii_digits cs) h).0
digit_at (c ∷ cs) (suc i) h lt = digit_at cs i (and_parts (is_ascii_digit c) (all_ascii_digits cs) h).1 (omega arith)

own_value : (c : ℕ) → 48 ≤ c → c ≤ 57 → digit_value c ≡ c - 48
own_value c low high =
    let a : nat_lt c 48 ≡ false = grind (arith, nat_tests) in
    let b : nat_lt c 58 ≡ true = grind (arith, nat_tests) in
    rw (a, b) refl

-- one more digit
pub more_digits : (ds : List ℕ) (i value tens next : ℕ) → all_ascii_digits ds ≡ true → i < length ds → value ≡ min (digits_value 10 (take i ds)) (2 ^ 64 - 1)
    → tens ≡ min (value * 10) (2 ^ 64 - 1) → next ≡ min (tens + (get_or ds i 0 - 48)) (2 ^ 64 - 1)
    → next ≡ min (digits_value 10 (take (i + 1) ds)) (2 ^ 64 - 1)
more_digits ds i value tens next all lt v t n =
    let d = digit_at ds i all lt in
    let e : digit_value (get_or ds i 0) ≡ get_or ds i 0 - 48 = own_value (get_or ds i 0) d.0 d.1 in
    rw (digits_value_more 10 ds i lt, e, n, t, v) (omega arith)

-- a range that ends below the greatest `u64` takes no number for another
pub capped : (least most n : ℕ) → most < 2 ^ 64 - 1 → csv_number_within least most (min n (2 ^ 64 - 1)) ≡ csv_number_within least most n
capped least most n h = elim (cases_lt n (2 ^ 64 - 1)) [
  | inl lt ↦ let e : min n (2 ^ 64 - 1) ≡ n = omega arith in ap (csv_number_within least most) e
  | inr ge ↦
      let e : min n (2 ^ 64 - 1) ≡ 2 ^ 64 - 1 = omega arith in
      ap (csv_number_within least most) e ∙ above (2 ^ 64 - 1) h ∙ sym (above n (omega arith))
]
  where
    none : (a b : Bool) (m : ℕ) → b ≡ false → cond (a && b) (Ok m) (Err fault.OutOfRange) ≡ Err fault.OutOfRange
    none true b m e = rw e refl
    none false b m e = refl

    above : (m : ℕ) → most < m → csv_number_within least most m ≡ Err fault.OutOfRange
    above m lt = none (nat_le least m) (nat_le m most) m (grind (arith, nat_tests))

-- for digits, their value, cut off at 2 ^ 64 - 1, passes or fails the range as the whole number does
pub whole-read : (least most : ℕ) (field : List ℕ) (n : ℕ) → most < 2 ^ 32 → are_digits field ≡ true → n ≡ min (digits_value 10 field) (2 ^ 64 - 1) → csv_number_within least most n ≡ whole_number least most field
unfolding whole_number
whole-read least most field n h d e = ap (csv_number_within least most) e ∙ capped least most (digits_value 10 field) (omega arith) ∙ rw d refl

-- a field that isn't all digits is refused as a whole number for how it is spelled
pub whole-other : (least most : ℕ) (field : List ℕ) → are_digits field ≡ false → Err (spelling_fault field) ≡ whole_number least most field
unfolding whole_number
whole-other least most field d = rw d refl

-- for digits, a thousand times their value, cut off at 2 ^ 64 - 1, passes or fails the range as the field does
pub thousandths-whole : (least most : ℕ) (field : List ℕ) (n value : ℕ) → most < 2 ^ 32 → are_digits field ≡ true → value ≡ min (digits_value 10 field) (2 ^ 64 - 1) → n ≡ min (value * 1000) (2 ^ 64 - 1)
    → csv_number_within (1000 * least) (1000 * most) n ≡ thousandths least most field
unfolding thousandths
thousandths-whole least most field n value h d v e =
    let m : n ≡ min (1000 * digits_value 10 field) (2 ^ 64 - 1) = omega arith in
    ap (csv_number_within (1000 * least) (1000 * most)) m ∙ capped (1000 * least) (1000 * most) (1000 * digits_value 10 field) (omega arith) ∙ rw d refl

-- for digits with up to three more behind a point, the thousandths, cut off at 2 ^ 64 - 1, pass or fail as the field does
pub thousandths-read : (least most : ℕ) (field : List ℕ) (n : ℕ) → most < 2 ^ 32 → are_digits field ≡ false → is_in_thousandths field ≡ true → n ≡ min (thousandths_of field) (2 ^ 64 - 1)
    → csv_number_within (1000 * least) (1000 * most) n ≡ thousandths least most field
unfolding thousandths
thousandths-read least most field n h d t e =
    ap (csv_number_within (1000 * least) (1000 * most)) e ∙ capped (1000 * least) (1000 * most) (thousandths_of field) (omega arith) ∙ rw (d, t) refl

-- any other field is refused as thousandths for how it is spelled
pub thousandths-other : (least most : ℕ) (field : List ℕ) → are_digits field ≡ false → is_in_thousandths field ≡ false → Err (spelling_fault field) ≡ thousandths least most field
unfolding thousandths
thousandths-other least most field d t = rw (d, t) refl
