-- Cells of delays: each delay up to the farthest lies in one, and later delays in later ones.
use Rattle.std.proofs.Common.{◌≡◌, ◌∙◌, ℕ, zero, suc, ◌+◌, ◌-◌, ◌*◌, ◌/◌, ◌^◌, ◌<◌, ◌≤◌, ⊎_elim, Bool, cond, ltb, true, refl, sym, ap, subst, arith, add-one}
use Rattle.std.specs.Prelude.{nat_lt, if◌then◌else◌}
use Rattle.std.proofs.lemmas.Bool.{cases_lt, cond_both, lt-ltb, ltb-false, ltb-true}
use Rattle.network_clock.specs.Search.{least_below}
use Rattle.network_clock.proofs.Search.{least_before, least_found}
use Rattle.price_bounds.specs.Cells.{cells_of, farthest_delay, greatest_delay, least_delay, most_cells}

-- the first cell begins at the first delay
pub least_first : (first : ℕ) → least_delay first 0 ≡ first
unfolding least_delay
least_first first = refl

-- and each later one behind the one before
pub least_next : (first c : ℕ) → least_delay first (suc c) ≡ least_delay first c + 1 + (least_delay first c - first) / 64
unfolding least_delay
least_next first c = refl

module _ (first : ℕ) where
  -- no cell begins before the first delay
  pub least_from : (c : ℕ) → first ≤ least_delay first c
  least_from zero = let e = least_first first in omega (arith, e)
  least_from (suc c) = let e = least_next first c in let h = least_from c in omega (arith, e, h)

  -- later cells begin later, by a 64th of what an earlier one lies behind the first delay for each
  pub least_grows : (c n : ℕ) → least_delay first c + n * (1 + (least_delay first c - first) / 64) ≤ least_delay first (n + c)
  least_grows c zero = let same : 0 + c ≡ c = omega arith in let e = ap (least_delay first) same in omega (arith, e)
  least_grows c (suc n) =
      let before = least_grows c n in
      let low = least_from c in
      let here = ap (least_delay first) (suc_out n c) ∙ least_next first (n + c) in
      let further : least_delay first c ≤ least_delay first (n + c) = omega (arith, before, few n ((least_delay first c - first) / 64)) in
      omega (arith, before, here, further, low)
    where
      suc_out : (n c : ℕ) → suc n + c ≡ suc (n + c)
      suc_out n c = omega arith

      few : (n k : ℕ) → 0 ≤ n * (1 + k)
      few n k = omega arith

  -- later cells begin no earlier
  pub least_rises : (c d : ℕ) → c ≤ d → least_delay first c ≤ least_delay first d
  least_rises c d up =
      let back : (d - c) + c ≡ d = omega arith in
      let e = ap (least_delay first) back in
      let h = least_grows c (d - c) in
      omega (arith, e, h)

  -- in 64 cells what they lie behind the first delay more than doubles
  doubles : (k : ℕ) → 2 * (least_delay first k - first) + 1 ≤ least_delay first (64 + k) - first
  doubles k = let h = least_grows k 64 in let low = least_from k in omega (arith, h, low)

  far : (k : ℕ) → 2 ^ k ≤ (least_delay first (64 * k) - first) + 1
  far zero = omega arith
  far (suc k) =
      let before = far k in
      let place : 64 + 64 * k ≡ 64 * suc k = omega arith in
      let e = ap (least_delay first) place in
      let h = doubles (64 * k) in
      omega (arith, before, e, h)

  -- so the last cell ends behind the farthest delay
  last_far : farthest_delay < least_delay first 2560
  last_far = let h = far 40 in omega (arith, h)

  -- there are no more cells than the most, and the last ends behind the farthest delay
  pub cells_end : (cells_of first ≤ 2560) × (farthest_delay < least_delay first (cells_of first))
  unfolding cells_of
  cells_end = let found = least_found most_cells (λ c. nat_lt farthest_delay (least_delay first c)) 2560 (omega arith) (lt-ltb _ _ last_far) in (found.0, ltb-true _ _ found.1)

  -- each cell begins up to the farthest delay
  pub cells_begin : (c : ℕ) → c < cells_of first → least_delay first c ≤ farthest_delay
  unfolding cells_of
  cells_begin c low =
      ⊎_elim (λ (far : farthest_delay < least_delay first c). absurd (least_before most_cells (λ k. nat_lt farthest_delay (least_delay first k)) c low (lt-ltb _ _ far)))
      (λ (near : least_delay first c ≤ farthest_delay). near) (cases_lt farthest_delay (least_delay first c))

  -- there is a cell behind a first delay up to the farthest
  pub cells_some : first ≤ farthest_delay → 1 ≤ cells_of first
  cells_some near =
      ⊎_elim (λ (none : cells_of first < 1). let none_at : cells_of first ≡ 0 = omega (arith, none) in let end = cells_end.1 in let same = ap (least_delay first) none_at in let zero = least_first first in absurd (omega (arith, end, same, zero, near)))
      (λ (some : 1 ≤ cells_of first). some) (cases_lt (cells_of first) 1)

-- the last of so many cells that begins at a delay or before it
abbrev pub cell_below : ℕ → ℕ → ℕ → ℕ
cell_below first delay zero = 0
cell_below first delay (suc n) = if nat_lt delay (least_delay first n) then cell_below first delay n else n

-- the cell of a delay
pub record IsCellOf (first delay c : ℕ) : Type 0 where
  pub from : least_delay first c ≤ delay
  pub until : delay < least_delay first (suc c)

module _ (first delay : ℕ) (later : first ≤ delay) where
  -- the delay lies in that cell
  pub cell_found : (n : ℕ) → delay < least_delay first n → (cell_below first delay n < n) × IsCellOf first delay (cell_below first delay n)
  cell_found zero early = let e = least_first first in absurd (omega (arith, e, early, later))
  cell_found (suc n) early =
      cond_both (ltb delay (least_delay first n)) (cell_below first delay n) n (λ c. (c < suc n) × IsCellOf first delay c)
      (λ below. let rest = cell_found n (ltb-true _ _ below) in (let low = rest.0 in omega (arith, low), rest.1))
      (λ here. (omega arith, record { from = ltb-false _ _ here; until = early }))

-- a later delay lies in no earlier cell
pub cells_rise : (first delay later c d : ℕ) → delay ≤ later → IsCellOf first delay c → IsCellOf first later d → c ≤ d
cells_rise first delay later c d up low high =
    ⊎_elim (λ (back : d < c). let rises = least_rises first (suc d) c (omega (arith, back)) in let a = low.from in let b = high.until in absurd (omega (arith, rises, a, b, up)))
    (λ (h : c ≤ d). h) (cases_lt d c)

-- the first delay lies in cell 0 alone
pub cell_first : (first c : ℕ) → IsCellOf first first c → c ≡ 0
cell_first first c h =
    ⊎_elim (λ (more : 0 < c). let grows = least_rises first 1 c (omega (arith, more)) in let next = least_next first 0 in let zero = least_first first in let from = h.from in absurd (omega (arith, grows, next, zero, from)))
    (λ (none : c ≤ 0). omega (arith, none)) (cases_lt 0 c)
