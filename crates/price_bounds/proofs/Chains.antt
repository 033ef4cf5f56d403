-- Downloads that follow one another: over the segments of a window the network carries all their bits.
use Rattle.std.proofs.Common.{◌≡◌, ◌∙◌, ℕ, zero, suc, ◌+◌, ◌-◌, ◌*◌, ◌<◌, ◌≤◌, subst, sym, ap, arith}

-- downloads of the segments 1 to `segments` - 1, by what the network carries before each is asked for and before it has come
pub record AreChained (segments : ℕ) (asked came bits : ℕ → ℕ) : Type 0 where
  pub carries : (j : ℕ) → 1 ≤ j → j < segments → asked j + 1000 * bits j ≤ came j
  pub follows : (j : ℕ) → 1 ≤ j → j + 1 < segments → came j ≤ asked (j + 1)

-- what the segments of a window, from one on, take together
pub record AreWindowBits (segments first last : ℕ) (bits rest : ℕ → ℕ) : Type 0 where
  pub before : (j : ℕ) → j < segments → j < first → rest j ≡ rest (j + 1)
  pub inside : (j : ℕ) → j < segments → first ≤ j → j ≤ last → rest j ≡ bits j + rest (j + 1)
  pub behind : (j : ℕ) → j < segments → last < j → rest j ≡ rest (j + 1)
  pub none : rest segments ≡ 0

module _ (segments first last : ℕ) (asked came bits rest : ℕ → ℕ) (begins : 1 ≤ first) (order : first ≤ last) (low : last < segments)
    (chain : AreChained segments asked came bits) (sums : AreWindowBits segments first last bits rest) where
  past : (n j : ℕ) → j + n ≡ segments → last < j → rest j ≡ 0
  past zero j e far = ap rest (zero_more j e) ∙ sums.none
    where
      zero_more : (j : ℕ) → j + 0 ≡ segments → j ≡ segments
      zero_more j e = omega (arith, e)
  past (suc n) j e far = sums.behind j (omega (arith, e)) far ∙ past n (j + 1) (omega (arith, e)) (omega (arith, far))

  within : (n j : ℕ) → j + n ≡ last → first ≤ j → asked j + 1000 * rest j ≤ came last
  within zero j e from =
      let here : j ≡ last = omega (arith, e) in
      let took = chain.carries last (omega (arith, begins, order)) low in
      let own = sums.inside last low order (omega arith) in
      let left : rest (last + 1) ≡ 0 = last_none in
      subst (λ k. asked k + 1000 * rest k ≤ came last) (sym here) (omega (arith, took, own, left))
    where
      last_none : rest (last + 1) ≡ 0
      last_none = past (segments - (last + 1)) (last + 1) (omega (arith, low)) (omega arith)
  within (suc n) j e from =
      let took = chain.carries j (omega (arith, begins, from)) (omega (arith, e, low)) in
      let next = chain.follows j (omega (arith, begins, from)) (omega (arith, e, low)) in
      let own = sums.inside j (omega (arith, e, low)) from (omega (arith, e)) in
      let more = within n (j + 1) (omega (arith, e)) (omega (arith, from)) in
      omega (arith, took, next, own, more)

  up_to : (n j : ℕ) → j + n ≡ first → 1 ≤ j → asked first + 1000 * rest j ≤ came last
  up_to zero j e from =
      let here : j ≡ first = omega (arith, e) in
      subst (λ k. asked first + 1000 * rest k ≤ came last) (sym here) (within (last - first) first (omega (arith, order)) (omega arith))
  up_to (suc n) j e from =
      let own = sums.before j (omega (arith, e, order, low)) (omega (arith, e)) in
      let more = up_to n (j + 1) (omega (arith, e)) (omega arith) in
      omega (arith, own, more)

  -- from the first request on, the network carries the bits of all segments of the window before the last has come
  pub window_carries : asked first + 1000 * rest 1 ≤ came last
  window_carries = up_to (first - 1) 1 (omega (arith, begins)) (omega arith)
