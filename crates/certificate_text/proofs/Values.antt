-- The value of digits, one by one.
use Rattle.std.proofs.Common.{◌≡◌, ◌+◌, ◌-◌, ◌*◌, ◌^◌, ◌<◌, ◌≤◌, ℕ, true, get_or, length, take, sym, arith}
use Rattle.std.specs.Str.{all_ascii_digits}
use Rattle.std.specs.Str.Parse.{digits_value}
use Rattle.std.proofs.Math.Nat.{pow-le-pow_right}
use Rattle.lab_io.specs.Sink.{Text}
use Rattle.lab_io.specs.Number.{is_number}
use Rattle.lab_io.proofs.Numbers.{IsSpelling-from_test, digit_at, spelling-decimal, ten_times, value_more}

-- a power of ten below the 24th
pub power_below : (i : ℕ) → i < 24 → 10 ^ i * 10 ≤ 10 ^ 24
power_below i lt =
    let m : 10 ^ (i + 1) ≤ 10 ^ 24 = pow-le-pow_right (omega arith) {i = i + 1} {j = 24} (omega arith) in
    let e = ten_times i in
    omega (arith, m, e)

-- one more digit
pub one_more : (ds : Text) (i value next : ℕ) → all_ascii_digits ds ≡ true → i < length ds → value ≡ digits_value 10 (take i ds) → value < 10 ^ i → next ≡ value * 10 + (get_or ds i 0 - 48)
    → (next ≡ digits_value 10 (take (i + 1) ds)) × (next < 10 ^ (i + 1))
one_more ds i value next all lt e below n =
    let d = digit_at ds i all lt in
    let v = value_more ds i all lt in
    let t = ten_times i in
    (omega (arith, n, e, v), omega (arith, n, below, d, t))

-- the value of a number has no more digits than its spelling
pub below_digits : (digits : ℕ) (text : Text) (n : ℕ) → digits ≤ 64 → true ≡ is_number text → length text ≤ digits → n ≡ digits_value 10 text → n < 10 ^ digits
below_digits digits text n short h len e =
    let s = spelling-decimal text (IsSpelling-from_test text (sym h)) (omega arith) in
    let wide : 10 ^ length text ≤ 10 ^ digits = pow-le-pow_right (omega arith) {i = length text} {j = digits} len in
    omega (arith, s.1, wide, e)
