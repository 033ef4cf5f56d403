-- Fields: what is read is spelled so, and what is spelled so is read, whatever follows.
use Rattle.std.proofs.Common.{◌≡◌, ◌∙◌, ◌+◌, ◌-◌, ◌^◌, ◌<◌, ◌≤◌, ◌&&◌, ◌==◌, ◌++◌, ℕ, zero, suc, List, [], ◌∷◌, Bool, true, false, not, Option, Some, None, Ok, cond, drop, get_or, length, length-append, map, nat_le, nat_lt, take, position, refl, sym, ap, subst, ℤ, pos, negsuc, ◌-ℤ◌, add-one, drop-cons, append_assoc, arith, lit≤}
use Rattle.std.specs.List.{All, position_or_len}
use Rattle.std.specs.Fmt.{decimal, signed_decimal}
use Rattle.std.specs.Str.{all_ascii_digits, bytes_eq}
use Rattle.std.proofs.lemmas.Bool.{and_parts, eqb-true}
use Rattle.std.proofs.lemmas.Bool.Decides.{nat_tests}
use Rattle.std.proofs.lemmas.Int.{ints}
use Rattle.std.proofs.lemmas.List.{drop_at, get_or_append_left, take_at, take-append-drop}
use Rattle.std.proofs.lemmas.List.Elements.{All-cons, All-head, All-nil, All-tail}
use Rattle.std.proofs.lemmas.List.Quantifiers.{position-Some}
use Rattle.std.proofs.lemmas.List.Sums.{position_or_len_is}
use Rattle.std.proofs.lemmas.Slice.Eq.{bytes_eq-Decides}
use Rattle.std.proofs.Math.Nat.{pow-le-pow_right}
use Rattle.std.proofs.Math.Seq.{get_or-append_seam}
use Rattle.lab_model.proofs.Steps.{then_ok}
use Rattle.lab_model.specs.Steps.{◌>>=◌}
use Rattle.lab_io.specs.Sink.{Text}
use Rattle.lab_io.specs.Number.{numeral}
use Rattle.lab_io.specs.Piece.{later_fields}
use Rattle.lab_io.proofs.Numbers.{decimal-spelling, digit_at, numeral-decimal, numeral-takes}
use Rattle.lab_model.specs.Film.{IsWithin}
use Rattle.certificate_text.specs.Fields.{negative_of, read_field, read_known, read_number, read_numbers, read_signed, read_within, read_word, signed_of, some_at, split_field, stop_before, unsigned_of, value_if}
use Rattle.labels.specs.Form.{HasDigits, HasSignedDigits, place_digits}
use Rattle.certificate_text.proofs.Loops.{given, ok_is}

-- ---- steps

-- a test that passed
pub value_if_ok : {X : Type 0} (row : ℕ) (b : Bool) (x y : X) → value_if row b x ≡ Ok y → (b ≡ true) × (x ≡ y)
value_if_ok row true x y h = (refl, cc)
value_if_ok row false x y h = absurd cc

-- what an option gave
pub some_ok : {X : Type 0} (row : ℕ) (o : Option X) (y : X) → some_at row o ≡ Ok y → o ≡ Some y
some_ok row (Some x) y h = ap Some (ok_is x y h)
some_ok row None y h = absurd cc

-- ---- a field

-- no byte of the text ends a field
abbrev pub is_free : ℕ → Text → Bool
is_free stop [] = true
is_free stop (b ∷ bs) = not (b == stop) && is_free stop bs

not_true : (b : Bool) → not b ≡ true → b ≡ false
not_true true h = absurd cc
not_true false h = refl

free_at : (stop : ℕ) (text : Text) (k : ℕ) → is_free stop text ≡ true → k < length text → (get_or text k 0 == stop) ≡ false
free_at stop [] k h lt = absurd (omega arith)
free_at stop (b ∷ bs) zero h lt = not_true (b == stop) (and_parts (not (b == stop)) (is_free stop bs) h).0
free_at stop (b ∷ bs) (suc k) h lt = free_at stop bs k (and_parts (not (b == stop)) (is_free stop bs) h).1 (omega arith)

same_byte : (n : ℕ) → (n == n) ≡ true
same_byte n = grind (arith, nat_tests)

-- what stands before and behind the byte that ends a field
pub field_takes : (row stop : ℕ) (bytes : Text) (x : Text × Text) → read_field row stop bytes ≡ Ok x → bytes ≡ x.0 ++ stop ∷ x.1
field_takes row stop bytes x h = go (position (λ b. b == stop) bytes) refl h
  where
    go : (o : Option ℕ) → position (λ b. b == stop) bytes ≡ o → split_field row bytes o ≡ Ok x → bytes ≡ x.0 ++ stop ∷ x.1
    go None e p = absurd cc
    go (Some i) e p =
        let at = position-Some (λ b. b == stop) bytes i 0 e in
        let byte : get_or bytes i 0 ≡ stop = eqb-true (get_or bytes i 0) stop at.1 in
        let cut : drop i bytes ≡ stop ∷ drop (i + 1) bytes = rw (add-one, ← byte) (drop-cons bytes i 0 at.0) in
        subst (λ (y : Text × Text). bytes ≡ y.0 ++ stop ∷ y.1) (ok_is (take i bytes, drop (i + 1) bytes) x p) (sym (take-append-drop i bytes) ∙ ap (λ (t : Text). take i bytes ++ t) cut)

-- a field is read from its text
pub field_again : (row stop : ℕ) (text rest : Text) → is_free stop text ≡ true → read_field row stop (text ++ stop ∷ rest) ≡ Ok (text, rest)
field_again row stop text rest free =
    let long : length text < length (text ++ stop ∷ rest) = rw (length-append text (stop ∷ rest)) (omega arith) in
    let p : position_or_len (λ b. b == stop) (text ++ stop ∷ rest) ≡ length text =
    position_or_len_is (λ b. b == stop) (text ++ stop ∷ rest) (length text) 0 (omega (arith, long))
    (λ k lt. rw (get_or_append_left text (stop ∷ rest) 0 k lt) (free_at stop text k free lt))
    (λ lt. rw (get_or-append_seam text stop rest 0) (same_byte stop)) in
    let test : nat_lt (length text) (length (text ++ stop ∷ rest)) ≡ true = grind (arith, nat_tests, long) in
    let behind : drop (length text + 1) (text ++ stop ∷ rest) ≡ rest =
    ap (drop (length text + 1)) (sym (append_assoc text (stop ∷ []) rest)) ∙ drop_at (text ++ stop ∷ []) rest (length text + 1) (length-append text (stop ∷ [])) in
    rw (p, test, take_at text (stop ∷ rest) (length text) refl, behind) refl

-- ---- a word

-- a text equals itself
pub same_bytes : (x : Text) → bytes_eq x x ≡ true
same_bytes x = (bytes_eq-Decides x x).1 refl

-- texts whose bytes are equal are equal
pub bytes_eq-same : (x y : Text) → bytes_eq x y ≡ true → x ≡ y
bytes_eq-same x y h = (bytes_eq-Decides x y).0 h

-- a word that was read stands there
pub word_takes : (row : ℕ) (word : Text) (stop : ℕ) (bytes rest : Text) → read_word row word stop bytes ≡ Ok rest → bytes ≡ word ++ stop ∷ rest
unfolding read_word
word_takes row word stop bytes rest h =
    let f = then_ok (read_field row stop bytes) (λ field. value_if row (bytes_eq field.0 word) field.1) rest h in
    let p = value_if_ok row (bytes_eq f.0.0 word) f.0.1 rest f.2 in
    let t = field_takes row stop bytes f.0 f.1 in
    let e : f.0.0 ≡ word = bytes_eq-same f.0.0 word p.0 in
    t ∙ rw (e, p.1) refl

-- a word is read from its text
pub word_again : (row : ℕ) (word : Text) (stop : ℕ) (rest : Text) → is_free stop word ≡ true → read_word row word stop (word ++ stop ∷ rest) ≡ Ok rest
unfolding read_word
word_again row word stop rest free = rw (field_again row stop word rest free, same_bytes word) refl

-- ---- a number

-- a byte that is below the digits, as a space and a newline are
abbrev pub IsStop : ℕ → Type 0
IsStop stop = stop < 45

not_stop : (b stop : ℕ) → stop < b → not (b == stop) ≡ true
not_stop b stop lt = grind (arith, nat_tests)

digits_free : (stop : ℕ) (ds : Text) → stop < 48 → all_ascii_digits ds ≡ true → is_free stop ds ≡ true
digits_free stop [] low h = refl
digits_free stop (c ∷ cs) low h =
    let d = digit_at (c ∷ cs) 0 h (omega arith) in
    let later = digits_free stop cs low (and_parts _ (all_ascii_digits cs) h).1 in
    rw (not_stop c stop (omega (arith, d, low)), later) refl

wide : (digits n : ℕ) → digits ≤ 64 → n < 10 ^ digits → n < 10 ^ 64
wide digits n short lt =
    let m : 10 ^ digits ≤ 10 ^ 64 = pow-le-pow_right (omega arith) {i = digits} {j = 64} short in
    omega (arith, m, lt)

-- a number is read as a field
decimal_free : (stop n : ℕ) → IsStop stop → n < 10 ^ 64 → is_free stop (decimal n) ≡ true
decimal_free stop n low lt = digits_free stop (decimal n) (omega arith) (decimal-spelling n lt).digits

-- a number that was read is short and spelled so
pub number_takes : (row digits stop : ℕ) (bytes : Text) (x : ℕ × Text) → digits ≤ 64 → read_number row digits stop bytes ≡ Ok x → (bytes ≡ decimal x.0 ++ stop ∷ x.1) × HasDigits digits x.0
unfolding read_number
number_takes row digits stop bytes x short h =
    let f = then_ok (read_field row stop bytes) (λ field. some_at row (numeral digits field.0) >>= λ n. Ok (n, field.1)) x h in
    let n = then_ok (some_at row (numeral digits f.0.0)) (λ n. Ok (n, f.0.1)) x f.2 in
    let t = field_takes row stop bytes f.0 f.1 in
    let s = numeral-takes digits f.0.0 n.0 short (some_ok row (numeral digits f.0.0) n.0 n.1) in
    subst (λ (y : ℕ × Text). (bytes ≡ decimal y.0 ++ stop ∷ y.1) × HasDigits digits y.0) (ok_is (n.0, f.0.1) x n.2) (t ∙ ap (λ (w : Text). w ++ stop ∷ f.0.1) s.0, s.1)

-- a short number is read from its spelling
pub number_again : (row digits stop n : ℕ) (rest : Text) → 1 ≤ digits → digits ≤ 64 → IsStop stop → HasDigits digits n → read_number row digits stop (decimal n ++ stop ∷ rest) ≡ Ok (n, rest)
unfolding read_number
number_again row digits stop n rest one short low lt =
    rw (field_again row stop (decimal n) rest (decimal_free stop n low (wide digits n short lt)), numeral-decimal digits n one short lt) refl

-- a known number that was read is short and spelled so
pub known_takes : (row known stop : ℕ) (bytes rest : Text) → read_known row known stop bytes ≡ Ok rest → (bytes ≡ decimal known ++ stop ∷ rest) × HasDigits place_digits known
unfolding read_known
known_takes row known stop bytes rest h =
    let n = then_ok (read_number row place_digits stop bytes) (λ n. value_if row (n.0 == known) n.1) rest h in
    let p = value_if_ok row (n.0.0 == known) n.0.1 rest n.2 in
    let t = number_takes row place_digits stop bytes n.0 (lit≤ tt) n.1 in
    let e : n.0.0 ≡ known = eqb-true n.0.0 known p.0 in
    (t.0 ∙ rw (e, p.1) refl, subst (HasDigits place_digits) e t.1)

-- a known number is read from its spelling
pub known_again : (row known stop : ℕ) (rest : Text) → IsStop stop → HasDigits place_digits known → read_known row known stop (decimal known ++ stop ∷ rest) ≡ Ok rest
unfolding read_known
known_again row known stop rest low lt = rw (number_again row place_digits stop known rest (lit≤ tt) (lit≤ tt) low lt, same_byte known) refl

-- a number that was read is within its limits and spelled so
pub within_takes : (row low high stop : ℕ) (bytes : Text) (x : ℕ × Text) → read_within row low high stop bytes ≡ Ok x → (bytes ≡ decimal x.0 ++ stop ∷ x.1) × IsWithin low high x.0
unfolding read_within
within_takes row low high stop bytes x h =
    let n = then_ok (read_number row place_digits stop bytes) (λ n. value_if row (nat_le low n.0 && nat_le n.0 high) n) x h in
    let p = value_if_ok row (nat_le low n.0.0 && nat_le n.0.0 high) n.0 x n.2 in
    let both = and_parts (nat_le low n.0.0) (nat_le n.0.0 high) p.0 in
    let t = number_takes row place_digits stop bytes n.0 (lit≤ tt) n.1 in
    subst (λ (y : ℕ × Text). (bytes ≡ decimal y.0 ++ stop ∷ y.1) × IsWithin low high y.0) p.1 (t.0, (grind (arith, nat_tests, both.0), grind (arith, nat_tests, both.1)))

-- a number within its limits is read from its spelling
pub within_again : (row low high stop n : ℕ) (rest : Text) → IsStop stop → HasDigits place_digits high → IsWithin low high n → read_within row low high stop (decimal n ++ stop ∷ rest) ≡ Ok (n, rest)
unfolding read_within
within_again row low high stop n rest end short within =
    let least : nat_le low n ≡ true = grind (arith, nat_tests, within.0) in
    let most : nat_le n high ≡ true = grind (arith, nat_tests, within.1) in
    rw (number_again row place_digits stop n rest (lit≤ tt) (lit≤ tt) end (omega (arith, short, within.1)), least, most) refl

-- ---- a number that may have a `-`

negative_takes : (row digits : ℕ) (text : Text) (z : ℤ) → digits ≤ 64 → negative_of row digits text ≡ Ok z → (45 ∷ text ≡ signed_decimal z) × HasSignedDigits digits z
negative_takes row digits text z short h =
    let n = then_ok (some_at row (numeral digits text)) (λ n. value_if row (nat_le 1 n) (pos 0 -ℤ pos n)) z h in
    let p = value_if_ok row (nat_le 1 n.0) (pos 0 -ℤ pos n.0) z n.2 in
    let s = numeral-takes digits text n.0 short (some_ok row (numeral digits text) n.0 n.1) in
    go n.0 s.0 s.1 p.0 p.1
  where
    go : (n : ℕ) → text ≡ decimal n → n < 10 ^ digits → nat_le 1 n ≡ true → pos 0 -ℤ pos n ≡ z → (45 ∷ text ≡ signed_decimal z) × HasSignedDigits digits z
    go zero t lt one e = absurd cc
    go (suc m) t lt one e =
        let neg : pos 0 -ℤ pos (suc m) ≡ negsuc m = omega (arith, ints) in
        subst (λ (y : ℤ). (45 ∷ text ≡ signed_decimal y) × HasSignedDigits digits y) (sym neg ∙ e) (ap (λ (w : Text). 45 ∷ w) t, (omega (arith, ints, lt), omega (arith, ints, lt)))

unsigned_takes : (row digits : ℕ) (text : Text) (z : ℤ) → digits ≤ 64 → unsigned_of row digits text ≡ Ok z → (text ≡ signed_decimal z) × HasSignedDigits digits z
unsigned_takes row digits text z short h =
    let n = then_ok (some_at row (numeral digits text)) (λ n. Ok (pos n)) z h in
    let s = numeral-takes digits text n.0 short (some_ok row (numeral digits text) n.0 n.1) in
    subst (λ (y : ℤ). (text ≡ signed_decimal y) × HasSignedDigits digits y) (ok_is (pos n.0) z n.2) (s.0, (omega (arith, ints, s.1), omega (arith, ints, s.1)))

signed_of_takes : (row digits : ℕ) (text : Text) (z : ℤ) → digits ≤ 64 → signed_of row digits text ≡ Ok z → (text ≡ signed_decimal z) × HasSignedDigits digits z
unfolding signed_of
signed_of_takes row digits [] z short h = absurd cc
signed_of_takes row digits (c ∷ cs) z short h = go (c == 45) refl h
  where
    go : (b : Bool) → (c == 45) ≡ b → cond b (negative_of row digits cs) (unsigned_of row digits (c ∷ cs)) ≡ Ok z → (c ∷ cs ≡ signed_decimal z) × HasSignedDigits digits z
    go true e h =
        let t = negative_takes row digits cs z short h in
        (ap (λ (x : ℕ). x ∷ cs) (eqb-true c 45 e) ∙ t.0, t.1)
    go false e h = unsigned_takes row digits (c ∷ cs) z short h

digits_not_minus : (ds : Text) → all_ascii_digits ds ≡ true → 0 < length ds → (row digits : ℕ) → signed_of row digits ds ≡ unsigned_of row digits ds
unfolding signed_of
digits_not_minus [] h some row digits = absurd (omega arith)
digits_not_minus (c ∷ cs) h some row digits =
    let d = digit_at (c ∷ cs) 0 h some in
    rw (not_true (c == 45) (not_stop c 45 (omega (arith, d)))) refl

signed_of_again : (row digits : ℕ) (z : ℤ) → 1 ≤ digits → digits ≤ 64 → HasSignedDigits digits z → signed_of row digits (signed_decimal z) ≡ Ok z
unfolding signed_of
signed_of_again row digits (pos n) one short fits =
    let lt : n < 10 ^ digits = omega (arith, ints, fits.1) in
    let s = decimal-spelling n (wide digits n short lt) in
    digits_not_minus (decimal n) s.digits s.some row digits ∙ rw (numeral-decimal digits n one short lt) refl
signed_of_again row digits (negsuc m) one short fits =
    let lt : suc m < 10 ^ digits = omega (arith, ints, fits.0) in
    let one_less : suc m - 1 ≡ m = omega arith in
    let some : nat_le 1 (suc m) ≡ true = grind (arith, nat_tests) in
    rw (numeral-decimal digits (suc m) one short lt, some) (ap (λ (k : ℕ). given (negsuc k)) one_less)

signed_free : (stop digits : ℕ) (z : ℤ) → digits ≤ 64 → IsStop stop → HasSignedDigits digits z → is_free stop (signed_decimal z) ≡ true
signed_free stop digits (pos n) short low fits = decimal_free stop n low (wide digits n short (omega (arith, ints, fits.1)))
signed_free stop digits (negsuc m) short low fits =
    rw (not_stop 45 stop low, decimal_free stop (suc m) low (wide digits (suc m) short (omega (arith, ints, fits.0)))) refl

-- a number with a sign that was read is short and spelled so
pub signed_takes : (row digits stop : ℕ) (bytes : Text) (x : ℤ × Text) → digits ≤ 64 → read_signed row digits stop bytes ≡ Ok x → (bytes ≡ signed_decimal x.0 ++ stop ∷ x.1) × HasSignedDigits digits x.0
unfolding read_signed
signed_takes row digits stop bytes x short h =
    let f = then_ok (read_field row stop bytes) (λ field. signed_of row digits field.0 >>= λ z. Ok (z, field.1)) x h in
    let z = then_ok (signed_of row digits f.0.0) (λ z. Ok (z, f.0.1)) x f.2 in
    let t = field_takes row stop bytes f.0 f.1 in
    let s = signed_of_takes row digits f.0.0 z.0 short z.1 in
    subst (λ (y : ℤ × Text). (bytes ≡ signed_decimal y.0 ++ stop ∷ y.1) × HasSignedDigits digits y.0) (ok_is (z.0, f.0.1) x z.2) (t ∙ ap (λ (w : Text). w ++ stop ∷ f.0.1) s.0, s.1)

-- a short number with a sign is read from its spelling
pub signed_again : (row digits stop : ℕ) (z : ℤ) (rest : Text) → 1 ≤ digits → digits ≤ 64 → IsStop stop → HasSignedDigits digits z → read_signed row digits stop (signed_decimal z ++ stop ∷ rest) ≡ Ok (z, rest)
unfolding read_signed
signed_again row digits stop z rest one short low fits =
    rw (field_again row stop (signed_decimal z) rest (signed_free stop digits z short low fits), signed_of_again row digits z one short fits) refl

-- ---- numbers to the end of a line

-- what ends a field is no digit
pub stop_low : (more : ℕ) → IsStop (stop_before more)
stop_low zero = lit≤ tt
stop_low (suc more) = lit≤ tt

-- the text of the numbers that end a line, behind the byte that ends the field before them
abbrev pub numbers_text : List ℕ → Text
numbers_text [] = []
numbers_text (n ∷ ns) = decimal n ++ stop_before (length ns) ∷ numbers_text ns

-- that byte and they are the later fields of the line
pub later_numbers : (ns : List ℕ) → later_fields (map decimal ns) ≡ stop_before (length ns) ∷ numbers_text ns
later_numbers [] = refl
later_numbers (n ∷ ns) = ap (λ (t : Text). 32 ∷ (decimal n ++ t)) (later_numbers ns)

-- what was read as so many numbers
pub record TakesNumbers (digits count : ℕ) (bytes : Text) (x : List ℕ × Text) : Type 0 where
  pub text : bytes ≡ numbers_text x.0 ++ x.1
  pub count_is : length x.0 ≡ count
  pub digits_are : All (HasDigits digits) x.0

-- numbers that were read are short and spelled so
pub numbers_take : (row digits count : ℕ) (bytes : Text) (x : List ℕ × Text) → digits ≤ 64 → read_numbers row digits count bytes ≡ Ok x → TakesNumbers digits count bytes x
unfolding read_numbers
numbers_take row digits zero bytes x short h =
    subst (TakesNumbers digits 0 bytes) (ok_is ([], bytes) x h) (record { text = refl; count_is = refl; digits_are = All-nil (HasDigits digits) })
numbers_take row digits (suc more) bytes x short h =
    let n = then_ok (read_number row digits (stop_before more) bytes) (λ n. read_numbers row digits more n.1 >>= λ ns. Ok (n.0 ∷ ns.0, ns.1)) x h in
    let ns = then_ok (read_numbers row digits more n.0.1) (λ ns. Ok (n.0.0 ∷ ns.0, ns.1)) x n.2 in
    let first = number_takes row digits (stop_before more) bytes n.0 short n.1 in
    let rest = numbers_take row digits more n.0.1 ns.0 short ns.1 in
    subst (TakesNumbers digits (suc more) bytes) (ok_is (n.0.0 ∷ ns.0.0, ns.0.1) x ns.2) (record {
      text = first.0 ∙ ap (λ (t : Text). decimal n.0.0 ++ stop_before more ∷ t) rest.text ∙ ap (λ (k : ℕ). decimal n.0.0 ++ stop_before k ∷ (numbers_text ns.0.0 ++ ns.0.1)) (sym rest.count_is)
          ∙ sym (append_assoc (decimal n.0.0) (stop_before (length ns.0.0) ∷ numbers_text ns.0.0) ns.0.1);
      count_is = ap suc rest.count_is;
      digits_are = All-cons (HasDigits digits) n.0.0 ns.0.0 first.1 rest.digits_are;
    })

-- short numbers are read from their spelling
pub numbers_again : (row digits : ℕ) (ns : List ℕ) (rest : Text) → 1 ≤ digits → digits ≤ 64 → All (HasDigits digits) ns → read_numbers row digits (length ns) (numbers_text ns ++ rest) ≡ Ok (ns, rest)
unfolding read_numbers
numbers_again row digits [] rest one short all = refl
numbers_again row digits (n ∷ ns) rest one short all =
    let first = number_again row digits (stop_before (length ns)) n (numbers_text ns ++ rest) one short (stop_low (length ns)) (All-head (HasDigits digits) n ns all) in
    let others = numbers_again row digits ns rest one short (All-tail (HasDigits digits) n ns all) in
    rw (append_assoc (decimal n) (stop_before (length ns) ∷ numbers_text ns) rest, first, others) refl
