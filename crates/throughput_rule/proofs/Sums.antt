-- The sum of the rates that a window keeps.
use Rattle.std.proofs.Common.{◌≡◌, ◌∙◌, ℕ, ◌+◌, ◌-◌, ◌*◌, ◌/◌, ◌≤◌, ◌<◌, List, [], ◌∷◌, ◌++◌, Option, None, length, drop, nat_lt, ap, length-append, arith}
use Rattle.std.specs.List.{All, sum, slice_get}
use Rattle.std.specs.Option.{unwrap_or}
use Rattle.std.specs.Bool.{if◌then◌else◌}
use Rattle.std.proofs.Math.Nat.{div-le_of_le-mul}
use Rattle.std.proofs.lemmas.Bool.{cond_both}
use Rattle.std.proofs.lemmas.Bool.Decides.{nat_tests}
use Rattle.std.proofs.lemmas.List.Sums.{sum_by-append, sum_by-cons, sum_by-le}
use Rattle.lab_model.specs.Rates.{last_of}

-- the sum of rates within their limit
pub sum_within : (xs : List ℕ) → All (λ c. c ≤ 10000000000) xs → sum xs ≤ 10000000000 * length xs
sum_within xs all = let most = sum_by-le (λ x. x) 10000000000 xs all in omega (arith, most)

-- and so their mean
pub mean_within : (xs : List ℕ) → All (λ c. c ≤ 10000000000) xs → sum xs / length xs ≤ 10000000000
mean_within xs all = div-le_of_le-mul (length xs) (let most = sum_by-le (λ x. x) 10000000000 xs all in omega (arith, most))

-- the rate that goes where a window takes the next one, 0 where none goes
abbrev pub gone : ℕ → List ℕ → ℕ → ℕ
gone w xs c = unwrap_or (if nat_lt (length xs) w then None else slice_get (xs ++ c ∷ []) 0) 0

sum_push : (xs : List ℕ) (c : ℕ) → sum (xs ++ c ∷ []) ≡ sum xs + c
sum_push xs c = let e = sum_by-append (λ x. x) xs (c ∷ []) in omega (arith, e)

-- none goes where the window has room
whole : (w c : ℕ) (xs : List ℕ) → length xs < w → sum (last_of w (xs ++ c ∷ [])) ≡ sum xs + c
whole w c xs room =
    let n = length-append xs (c ∷ []) in
    let none : length (xs ++ c ∷ []) - w ≡ 0 = omega (arith, n, room) in
    ap (λ (k : ℕ). sum (drop k (xs ++ c ∷ []))) none ∙ sum_push xs c

-- the first one goes where it is full
full : (w c x : ℕ) (xs : List ℕ) → length (x ∷ xs) ≡ w → sum (last_of w (x ∷ xs ++ c ∷ [])) + x ≡ sum (x ∷ xs) + c
full w c x xs e =
    let n = length-append (x ∷ xs) (c ∷ []) in
    let one : length (x ∷ xs ++ c ∷ []) - w ≡ 1 = omega (arith, n, e) in
    let rest : sum (last_of w (x ∷ xs ++ c ∷ [])) ≡ sum xs + c = ap (λ (k : ℕ). sum (drop k (x ∷ xs ++ c ∷ []))) one ∙ sum_push xs c in
    let first = sum_by-cons (λ x. x) x xs in
    omega (arith, rest, first)

-- what a window keeps and what goes are all of the rates
pub sum_kept : (w c : ℕ) (xs : List ℕ) → 1 ≤ w → length xs ≤ w → sum (last_of w (xs ++ c ∷ [])) + gone w xs c ≡ sum xs + c
sum_kept w c [] some fits =
    cond_both (nat_lt 0 w) None (slice_get (c ∷ []) 0) (λ (o : Option ℕ). sum (last_of w (c ∷ [])) + unwrap_or o 0 ≡ 0 + c)
    (λ e. let all = whole w c [] some in omega (arith, all))
    (λ e. absurd (grind (arith, nat_tests, e, some)))
sum_kept w c (x ∷ xs) some fits =
    cond_both (nat_lt (length (x ∷ xs)) w) None (slice_get (x ∷ xs ++ c ∷ []) 0) (λ (o : Option ℕ). sum (last_of w (x ∷ xs ++ c ∷ [])) + unwrap_or o 0 ≡ sum (x ∷ xs) + c)
    (λ e. let room : length (x ∷ xs) < w = grind (arith, nat_tests, e) in let all = whole w c (x ∷ xs) room in omega (arith, all))
    (λ e. let end : length (x ∷ xs) ≡ w = grind (arith, nat_tests, e, fits) in full w c x xs end)
