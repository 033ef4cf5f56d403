-- What the spelling of a number says, and that it is the only one.
use Rattle.std.proofs.Common.{◌≡◌, ◌∙◌, ◌+◌, ◌-◌, ◌*◌, ◌/◌, ◌%◌, ◌^◌, ◌<◌, ◌≤◌, ◌&&◌, ◌==◌, ◌++◌, ◌≢◌, ℕ, zero, suc, [], ◌∷◌, Bool, true, false, not, Some, None, ℤ, pos, negsuc, FitsSigned, cond, get_or, length, length-append, nat_le, nat_lt, take, refl, sym, ap, subst, inl, inr, add-one, arith}
use Rattle.std.specs.Char.{digit_value, is_ascii_digit}
use Rattle.std.specs.Fmt.{decimal, signed_decimal}
use Rattle.std.specs.Int.{w128}
use Rattle.std.specs.Str.{all_ascii_digits}
use Rattle.std.specs.Str.Parse.{digits_value}
use Rattle.std.proofs.lemmas.Bool.{and_parts, cases_lt, eqb-true}
use Rattle.std.proofs.lemmas.Bool.Decides.{nat_tests}
use Rattle.std.proofs.lemmas.Int.Digits.{digits_value_more}
use Rattle.std.proofs.lemmas.List.{take_all, take_more}
use Rattle.std.proofs.lemmas.Fmt.{decimal_by_steps_wide, decimal_digit, decimal_is_IsNumeral_wide, decimal_step_wide, length-decimal-le_wide}
use Rattle.std.proofs.Math.Nat.{pow-le-pow_right, pow-suc}
use Rattle.lab_io.specs.Sink.{Text}
use Rattle.lab_io.specs.Number.{is_number, numeral}

-- ---- digits

-- a digit's byte
pub is_digit : (c : ℕ) → is_ascii_digit c ≡ true → (48 ≤ c) × (c ≤ 57)
is_digit c h = (grind (arith, nat_tests, h), grind (arith, nat_tests, h))

-- each of the digits is one
pub digit_at : (ds : Text) (i : ℕ) → all_ascii_digits ds ≡ true → i < length ds → (48 ≤ get_or ds i 0) × (get_or ds i 0 ≤ 57)
digit_at [] i h lt = absurd (omega arith)
digit_at (c ∷ cs) zero h lt = is_digit c (and_parts (is_ascii_digit c) (all_ascii_digits cs) h).0
digit_at (c ∷ cs) (suc i) h lt = digit_at cs i (and_parts (is_ascii_digit c) (all_ascii_digits cs) h).1 (omega arith)

own_value : (c : ℕ) → 48 ≤ c → c ≤ 57 → digit_value c ≡ c - 48
own_value c low high =
    let a : nat_lt c 48 ≡ false = grind (arith, nat_tests) in
    let b : nat_lt c 58 ≡ true = grind (arith, nat_tests) in
    rw (a, b) refl

-- one more digit
pub value_more : (ds : Text) (i : ℕ) → all_ascii_digits ds ≡ true → i < length ds → digits_value 10 (take (i + 1) ds) ≡ digits_value 10 (take i ds) * 10 + (get_or ds i 0 - 48)
value_more ds i h lt =
    let d = digit_at ds i h lt in
    digits_value_more 10 ds i lt ∙ ap (λ v. digits_value 10 (take i ds) * 10 + v) (own_value (get_or ds i 0) d.0 d.1)

-- ten to the next power
pub ten_times : (i : ℕ) → 10 ^ (i + 1) ≡ 10 ^ i * 10
ten_times i = rw add-one (pow-suc 10 i)

-- ---- the spelling

-- what makes digits a spelling: there are some, and the first isn't `0` where there are more
pub record IsSpelling (ds : Text) : Type 0 where
  pub digits : all_ascii_digits ds ≡ true
  pub some : 0 < length ds
  pub first : get_or ds 0 0 ≡ 48 → length ds ≡ 1

-- digits that are taken as a number keep its rules
pub IsSpelling-from_test : (ds : Text) → is_number ds ≡ true → IsSpelling ds
IsSpelling-from_test [] h = absurd cc
IsSpelling-from_test (c ∷ []) h = record { digits = h; some = omega arith; first = λ e. refl }
IsSpelling-from_test (c ∷ d ∷ cs) h =
    let p = and_parts (not (c == 48)) (all_ascii_digits (c ∷ d ∷ cs)) h in
    record { digits = p.1; some = omega arith; first = λ e. absurd (zero_first (c == 48) p.0 (rw e refl)) }
  where
    zero_first : (b : Bool) → not b ≡ true → b ≡ true → ⊥
    zero_first true h e = cc
    zero_first false h e = cc

-- digits that keep the rules are taken as a number
pub test-from_spelling : (ds : Text) → IsSpelling ds → is_number ds ≡ true
test-from_spelling [] s = absurd (omega (arith, s.some))
test-from_spelling (c ∷ []) s = s.digits
test-from_spelling (c ∷ d ∷ cs) s = both (c == 48) refl
  where
    both : (b : Bool) → (c == 48) ≡ b → (not b && all_ascii_digits (c ∷ d ∷ cs)) ≡ true
    both true e =
        let one : length (c ∷ d ∷ cs) ≡ 1 = s.first (eqb-true c 48 e) in
        absurd (omega (arith, one))
    both false e = s.digits

digit_glyph_is : (n : ℕ) → n < 10 → is_ascii_digit (48 + n) ≡ true
digit_glyph_is n lt = grind (arith, nat_tests)

digits_push : (ds : Text) (c : ℕ) → all_ascii_digits ds ≡ true → is_ascii_digit c ≡ true → all_ascii_digits (ds ++ c ∷ []) ≡ true
digits_push [] c h e = rw e refl
digits_push (d ∷ ds) c h e =
    let p = and_parts (is_ascii_digit d) (all_ascii_digits ds) h in
    rw (p.0, digits_push ds c p.1 e) refl

-- what is written of a number: its spelling, which begins with no `0` where the number isn't 0
record IsWritten (n : ℕ) (ds : Text) : Type 0 where
  digits : all_ascii_digits ds ≡ true
  some : 0 < length ds
  first : 1 ≤ n → 48 < get_or ds 0 0
  short : n < 10 → length ds ≡ 1

first_push : (ds : Text) (c : ℕ) → 0 < length ds → get_or (ds ++ c ∷ []) 0 0 ≡ get_or ds 0 0
first_push [] c h = absurd (omega arith)
first_push (d ∷ ds) c h = refl

written : (n : ℕ) → n < 10 ^ 64 → IsWritten n (decimal n)
written = decimal_by_steps_wide IsWritten
    (λ n lt. record { digits = rw (digit_glyph_is n lt) refl; some = omega arith; first = λ one. omega arith; short = λ low. refl })
    (λ n ds ten w.
    let d : n % 10 < 10 = omega arith in
    let some : 0 < length ds = w.some in
    record {
      digits = digits_push ds (48 + n % 10) w.digits (digit_glyph_is (n % 10) d);
      some = rw (length-append ds ((48 + n % 10) ∷ [])) (omega arith);
      first = λ one. rw (first_push ds (48 + n % 10) some) (w.first (omega arith));
      short = λ low. absurd (omega arith);
    })

-- of a number at least one byte is written
pub signed_some : (z : ℤ) → FitsSigned w128 z → signed_decimal z ≢ []
signed_some (pos n) f e =
    let fits = f.sfits in
    let some = rw e at (written n (omega arith)).some in
    absurd (omega (arith, some))
signed_some (negsuc n) f e = absurd (omega (arith, ap length e))

-- a number is written in its spelling
pub decimal-spelling : (n : ℕ) → n < 10 ^ 64 → IsSpelling (decimal n)
decimal-spelling n lt =
    let w = written n lt in
    record {
      digits = w.digits;
      some = w.some;
      first = λ e. w.short (elim (cases_lt n 10) [
        | inl low ↦ low
        | inr high ↦ absurd (let f = w.first (omega arith) in omega (arith, f, e))
      ]);
    }

-- the digits so far are what is written of their value
record IsWrittenSoFar (ds : Text) (i : ℕ) : Type 0 where
  text : decimal (digits_value 10 (take i ds)) ≡ take i ds
  below : digits_value 10 (take i ds) < 10 ^ i
  above : get_or ds 0 0 ≢ 48 → 1 ≤ digits_value 10 (take i ds)

first_digit : (ds : Text) → IsSpelling ds → IsWrittenSoFar ds 1
first_digit [] s = absurd (omega (arith, s.some))
first_digit (c ∷ cs) s =
    let d = digit_at (c ∷ cs) 0 s.digits s.some in
    let v : digits_value 10 (c ∷ []) ≡ c - 48 = omega (arith, value_more (c ∷ cs) 0 s.digits s.some) in
    let e : decimal (c - 48) ≡ (48 + (c - 48)) ∷ [] = decimal_digit (c - 48) (omega arith) in
    let back : 48 + (c - 48) ≡ c = omega arith in
    record {
      text = ap decimal v ∙ e ∙ ap (λ (x : ℕ). x ∷ []) back;
      below = omega (arith, v);
      above = λ ne. elim (cases_lt 48 c) [ inl lt ↦ omega (arith, v) | inr le ↦ absurd (ne (omega arith)) ];
    }

next_digit : (ds : Text) (i : ℕ) → IsSpelling ds → 1 ≤ i → i < length ds → length ds ≤ 64 → IsWrittenSoFar ds i → IsWrittenSoFar ds (i + 1)
next_digit ds i s one lt short w =
    let ne : get_or ds 0 0 ≢ 48 = λ e. let k = s.first e in omega (arith, k) in
    let d = digit_at ds i s.digits lt in
    let above = w.above ne in
    let v = value_more ds i s.digits lt in
    let t = ten_times i in
    let below : digits_value 10 (take (i + 1) ds) < 10 ^ (i + 1) = omega (arith, v, t, d, w.below) in
    let wide : 10 ^ (i + 1) ≤ 10 ^ 64 = pow-le-pow_right (omega arith) {i = i + 1} {j = 64} (omega arith) in
    let step = decimal_step_wide (digits_value 10 (take (i + 1) ds)) (omega (arith, v, above)) (omega (arith, below, wide)) in
    let front : digits_value 10 (take (i + 1) ds) / 10 ≡ digits_value 10 (take i ds) = omega (arith, v, d) in
    let last : 48 + digits_value 10 (take (i + 1) ds) % 10 ≡ get_or ds i 0 = omega (arith, v, d) in
    record {
      text = step ∙ rw (front, last, w.text) (sym (take_more ds i 0 lt));
      below = below;
      above = λ other. omega (arith, v, above);
    }

so_far : (ds : Text) (i : ℕ) → IsSpelling ds → i < length ds → length ds ≤ 64 → IsWrittenSoFar ds (i + 1)
so_far ds zero s lt short = first_digit ds s
so_far ds (suc i) s lt short =
    let e : suc i + 1 ≡ (i + 1) + 1 = omega arith in
    rw e (next_digit ds (i + 1) s (omega arith) (omega arith) short (so_far ds i s (omega arith) short))

-- a spelling is what is written of its value, which has no more digits
pub spelling-decimal : (ds : Text) → IsSpelling ds → length ds ≤ 64 → (decimal (digits_value 10 ds) ≡ ds) × (digits_value 10 ds < 10 ^ length ds)
spelling-decimal ds s short =
    let n : length ds - 1 + 1 ≡ length ds = omega (arith, s.some) in
    let w : IsWrittenSoFar ds (length ds) = subst (IsWrittenSoFar ds) n (so_far ds (length ds - 1) s (omega (arith, s.some)) short) in
    let all : take (length ds) ds ≡ ds = take_all (length ds) ds (omega arith) in
    (rw all at w.text, rw all at w.below)

-- ---- numerals

-- what a number is written as is read again
pub numeral-decimal : (digits n : ℕ) → 1 ≤ digits → digits ≤ 64 → n < 10 ^ digits → numeral digits (decimal n) ≡ Some n
unfolding numeral
numeral-decimal digits n one short lt =
    let wide : 10 ^ digits ≤ 10 ^ 64 = pow-le-pow_right (omega arith) {i = digits} {j = 64} short in
    let fits : n < 10 ^ 64 = omega (arith, lt, wide) in
    let test = test-from_spelling (decimal n) (decimal-spelling n fits) in
    let len : nat_le (length (decimal n)) digits ≡ true = grind (arith, nat_tests, length-decimal-le_wide digits n one lt fits) in
    rw (test, len) (ap Some (decimal_is_IsNumeral_wide n fits).1)

some_of : (b : Bool) (n m : ℕ) → cond b (Some n) None ≡ Some m → (b ≡ true) × (n ≡ m)
some_of true n m e = (refl, cc)
some_of false n m e = absurd cc

-- what is read as a number is what it is written as
pub numeral-takes : (digits : ℕ) (text : Text) (n : ℕ) → digits ≤ 64 → numeral digits text ≡ Some n → (text ≡ decimal n) × (n < 10 ^ digits)
unfolding numeral
numeral-takes digits text n short h =
    let g = some_of (is_number text && nat_le (length text) digits) (digits_value 10 text) n h in
    let p = and_parts (is_number text) (nat_le (length text) digits) g.0 in
    let len : length text ≤ digits = grind (arith, nat_tests, p.1) in
    let s = spelling-decimal text (IsSpelling-from_test text p.0) (omega arith) in
    let wide : 10 ^ length text ≤ 10 ^ digits = pow-le-pow_right (omega arith) {i = length text} {j = digits} len in
    (sym s.0 ∙ ap decimal g.1, omega (arith, s.1, wide, g.1))
