-- What a parse says of a spelled number, and how a list of numbers is read piece by piece.
use Rattle.std.proofs.Common.{◌≡◌, ◌&&◌, ◌==◌, ◌<◌, ◌≤◌, ◌^◌, ◌+◌, ◌++◌, ℕ, List, [], ◌∷◌, Bool, true, false, not, Option, Some, None, Result, Err, length, refl, sym, arith, cond, inl, inr, zero, suc, map, get_or, option_map, Bor, lit≤}
use Rattle.std.proofs.lemmas.Bool.{cases_lt}
use Rattle.std.proofs.lemmas.Bool.Decides.{nat_tests}
use Rattle.std.specs.List.Sorted.{IsNonDecreasing}
use Rattle.std.specs.Str.{all_ascii_digits}
use Rattle.std.specs.Str.Parse.{ParsesUnsigned, digits_value}
use Rattle.std.proofs.lemmas.Str.Parse.{IsNumeralModel, numerals_by_value, parse_digits, tells_all_ascii_digits}
use Rattle.std.specs.Result.{OkIff}
use Rattle.std.specs.Prelude.{nat_le, MatchBool}
use Rattle.lab_words.specs.Spelling.{Text, is_number, number_of, never_falls}

-- ---- a number

own : IsNumeralModel (λ ds. all_ascii_digits ds ≡ true) (digits_value 10)
own = numerals_by_value _ tells_all_ascii_digits

digits : (bs : Text) → is_number bs ≡ true → (all_ascii_digits bs ≡ true) × (0 < length bs)
digits [] h = cc
digits (c ∷ []) h = (h, omega arith)
digits (c ∷ d ∷ cs) h = (go (not (c == 48)) h, omega arith)
  where
    go : (b : Bool) → (b && all_ascii_digits (c ∷ d ∷ cs)) ≡ true → all_ascii_digits (c ∷ d ∷ cs) ≡ true
    go true h = h
    go false h = cc

-- a number is parsed exactly where it fits
pub parsed : {E : Type 0} (k : ℕ) (bs : Text) (r : Result ℕ E) → is_number bs ≡ true → ParsesUnsigned k 10 bs r → OkIff r ((0 < length bs) × (digits_value 10 bs < 2 ^ k)) (digits_value 10 bs)
parsed k bs r h p = parse_digits own k bs r p (digits bs h).0

none_of : (a b : Bool) (n : ℕ) → b ≡ false → None ≡ cond (a && b) (Some n) None
none_of true b n e = rw e refl
none_of false b n e = refl

above : (v most : ℕ) → most < v → nat_le v most ≡ false
above v most h = grind (arith, nat_tests)

-- the number is too large for its type, and so for its range
pub too_large : {E : Type 0} (k least most : ℕ) (bs : Text) (e : E) → is_number bs ≡ true → most < 2 ^ k → ParsesUnsigned k 10 bs (Err e) → None ≡ number_of least most bs
unfolding number_of
too_large k least most bs e h fits p =
    let no = parsed k bs (Err e) h p in
    let long = (digits bs h).1 in
    let big : 2 ^ k ≤ digits_value 10 bs = elim (cases_lt (digits_value 10 bs) (2 ^ k)) [ inl lt ↦ absurd (no (long, lt)) | inr ge ↦ ge ] in
    rw h (none_of (nat_le least (digits_value 10 bs)) (nat_le (digits_value 10 bs) most) (digits_value 10 bs) (above (digits_value 10 bs) most (omega (arith, big, fits))))

-- ---- a list of numbers

-- the numbers that are read already, before those that are to come
abbrev pub with_front : List ℕ → Option (List ℕ) → Option (List ℕ)
with_front front rest = option_map (λ ns. front ++ ns) rest

-- the texts of the pieces
abbrev pub texts_of : List (Bor Text) → List Text
texts_of = map (λ piece. piece.now)

-- ---- numbers that never fall

and_false : (b : Bool) → (b && false) ≡ false
and_false true = refl
and_false false = refl

below_is : (x y : ℕ) → x ≤ y → nat_le x y ≡ true
below_is x y h = grind (arith, nat_tests)

-- numbers of which none is below the one before it pass the test
pub rising : (xs : List ℕ) → IsNonDecreasing xs → never_falls xs ≡ true
rising [] h = refl
rising (x ∷ []) h = refl
rising (x ∷ y ∷ ys) h =
    let here : nat_le x y ≡ true = below_is x y (h 0 1 0 (lit≤ tt) (omega arith)) in
    let later : never_falls (y ∷ ys) ≡ true = rising (y ∷ ys) (λ i j d l lt. h (suc i) (suc j) d (omega arith) (omega arith)) in
    rw (here, later) refl

-- numbers of which one is below the one before it fail the test
pub falling : (xs : List ℕ) (k : ℕ) → k + 1 < length xs → ((d : ℕ) → get_or xs (k + 1) d < get_or xs k d) → never_falls xs ≡ false
falling [] k lt h = absurd (omega arith)
falling (x ∷ []) k lt h = absurd (omega arith)
falling (x ∷ y ∷ ys) zero lt h =
    let here : nat_le x y ≡ false = above x y (h 0) in
    rw here refl
falling (x ∷ y ∷ ys) (suc k) lt h =
    let e : suc k + 1 ≡ suc (k + 1) = omega arith in
    let later : never_falls (y ∷ ys) ≡ false = falling (y ∷ ys) k (omega arith) (λ d. rw e at (h d)) in
    rw later (and_false (nat_le x y))

-- a test that tells which of the two it is
pub falls_or_not : (xs : List ℕ) (r : Bool) → MatchBool r (IsNonDecreasing xs) ((k : ℕ) × (k + 1 < length xs) × ((d : ℕ) → get_or xs (k + 1) d < get_or xs k d)) → r ≡ never_falls xs
falls_or_not xs true h = sym (rising xs h)
falls_or_not xs false h = sym (falling xs h.0 h.1 h.2)
