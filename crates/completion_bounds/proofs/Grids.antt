-- Grids: when one is within its limits, and which row a delay has.
use Rattle.std.proofs.Common.{◌≡◌, ◌∙◌, ℕ, zero, suc, ◌+◌, ◌-◌, ◌*◌, ◌<◌, ◌≤◌, ⊎_elim, Bool, true, false, length, sym, ap, subst, arith, le-leb, mul-le-mul_left}
use Rattle.std.specs.Prelude.{nat_le}
use Rattle.std.specs.List.Sorted.{IsStrictlyIncreasing}
use Rattle.std.proofs.lemmas.Bool.{cases_Bool, cases_eq, cases_lt, cond-false, cond-true}
use Rattle.std.proofs.lemmas.List.{get_or_past}
use Rattle.completion_bounds.specs.Grid.{GridParts, IsTableGrid, last_passing, longest_delay, row_delay, delay_row, row_steps}

-- a later row isn't shorter
pub rows_rise : (d : GridParts) → IsStrictlyIncreasing d.rows → (k more : ℕ) → k + more < length d.rows → row_steps d k ≤ row_steps d (k + more)
rows_rise d rising k zero low = let same : k + 0 ≡ k = omega arith in subst (λ j. row_steps d k ≤ row_steps d j) (sym same) (omega arith)
rows_rise d rising k (suc more) low =
    let before = rows_rise d rising k more (omega (arith, low)) in
    let next = rising (k + more) (omega (arith, low)) in
    let same : (k + more) + 1 ≡ k + suc more = omega arith in
    subst (λ j. row_steps d k ≤ row_steps d j) same (omega (arith, before, next))

-- the same between two rows
pub rows_in_order : (d : GridParts) → IsStrictlyIncreasing d.rows → (k j : ℕ) → k ≤ j → j < length d.rows → row_steps d k ≤ row_steps d j
rows_in_order d rising k j low inside =
    let same : k + (j - k) ≡ j = omega (arith, low) in
    subst (λ x. row_steps d k ≤ row_steps d x) same (rows_rise d rising k (j - k) (omega (arith, same, inside)))

-- where the last row isn't too long, none is
pub delays_low : (d : GridParts) → IsStrictlyIncreasing d.rows → 1 ≤ length d.rows → d.step * row_steps d (length d.rows - 1) ≤ longest_delay → (k : ℕ) → row_delay d k ≤ longest_delay
delays_low d rising some last k =
    ⊎_elim (λ (inside : k < length d.rows).
    let order = rows_in_order d rising k (length d.rows - 1) (omega (arith, inside)) (omega (arith, some)) in
    let less = mul-le-mul_left d.step order in
    omega (arith, less, last))
    (λ past. let none = get_or_past d.rows k 0 past in subst (λ m. d.step * m ≤ longest_delay) (sym none) (omega arith)) (cases_lt k (length d.rows))

-- the last number that passes
last_is : (passes : ℕ → Bool) (n k : ℕ) → k < n → passes k ≡ true → ((j : ℕ) → k < j → j < n → passes j ≡ false) → last_passing passes n ≡ k
unfolding last_passing
last_is passes zero k low h none = absurd (omega (arith, low))
last_is passes (suc n) k low h none =
    ⊎_elim (λ (last : n ≡ k). cond-true (passes n) n (last_passing passes n) (ap passes last ∙ h) ∙ last)
    (λ other. cond-false (passes n) n (last_passing passes n) (none n (omega (arith, low, other)) (omega arith))
    ∙ last_is passes n k (omega (arith, low, other)) h (λ j more less. none j more (omega (arith, less)))) (cases_eq n k)

not_le : (a b : ℕ) → b < a → nat_le a b ≡ false
not_le a b h = grind (arith, nat_le)

-- the row of a delay: it isn't longer, and the next one is
pub row_is : (d : GridParts) → IsStrictlyIncreasing d.rows → (delay k : ℕ) → k < length d.rows → row_delay d k ≤ delay → (k + 1 < length d.rows → delay < row_delay d (k + 1)) → k ≡ delay_row d delay
row_is d rising delay k inside low next =
    sym (last_is (λ j. nat_le (row_delay d j) delay) (length d.rows) k inside (le-leb _ _ low)
    (λ j more less.
    let above = next (omega (arith, more, less)) in
    let order = mul-le-mul_left d.step (rows_in_order d rising (k + 1) j (omega (arith, more)) less) in
    not_le (row_delay d j) delay (omega (arith, above, order))))

-- it is one of the rows
last_inside : (passes : ℕ → Bool) (n : ℕ) → 1 ≤ n → last_passing passes n < n
unfolding last_passing
last_inside passes zero some = absurd (omega (arith, some))
last_inside passes (suc zero) some =
    ⊎_elim (λ (yes : passes 0 ≡ true). let e = cond-true (passes 0) 0 (last_passing passes 0) yes in omega (arith, e))
    (λ (no : passes 0 ≡ false). let e = cond-false (passes 0) 0 (last_passing passes 0) no in omega (arith, e)) (cases_Bool (passes 0))
last_inside passes (suc (suc n)) some =
    ⊎_elim (λ (yes : passes (suc n) ≡ true). let e = cond-true (passes (suc n)) (suc n) (last_passing passes (suc n)) yes in omega (arith, e))
    (λ (no : passes (suc n) ≡ false).
    let e = cond-false (passes (suc n)) (suc n) (last_passing passes (suc n)) no in
    let before = last_inside passes (suc n) (omega arith) in
    omega (arith, e, before)) (cases_Bool (passes (suc n)))

-- the same of a delay
pub row_inside : (d : GridParts) → 1 ≤ length d.rows → (delay : ℕ) → delay_row d delay < length d.rows
row_inside d some delay = last_inside (λ k. nat_le (row_delay d k) delay) (length d.rows) some

-- the row of a row's own delay
pub row_of_own : (d : GridParts) → IsTableGrid d → (k : ℕ) → k < length d.rows → delay_row d (row_delay d k) ≡ k
row_of_own d is k inside =
    sym (row_is d is.rising (row_delay d k) k inside (omega arith) (λ more.
    let next = is.rising k more in
    let above : row_steps d k + 1 ≤ row_steps d (k + 1) = omega (arith, next) in
    let less = mul-le-mul_left d.step above in
    let some = is.step.0 in
    omega (arith, less, some)))
