-- Sums along a list of cells of what a price per segment makes of a segment, the cell before and its own.
use Rattle.std.proofs.Common.{◌≡◌, ◌∙◌, ℕ, zero, suc, ◌+◌, ◌-◌, ◌*◌, ◌≤◌, ◌<◌, ⊎_elim, List, [], ◌∷◌, length, eqb, true, false, refl, sym, ap, ap₂, subst, arith, mul-le-mul}
use Rattle.std.specs.Prelude.{◌==◌, if◌then◌else◌, slice_index}
use Rattle.std.specs.List.{All, sum_by}
use Rattle.std.proofs.lemmas.Bool.{cases_eq, cond-false, cond-true, eq-eqb, ne_eqb}
use Rattle.std.proofs.lemmas.List.Elements.{All-head, All-tail}
use Rattle.std.proofs.lemmas.List.Sums.{sum_by-cons}
use Rattle.std.proofs.Math.Nat.{mul-le-mul_left}
use Rattle.price_bounds.specs.declared.window.Window.{Window}
use Rattle.price_bounds.specs.Steps.{Follow, Moves}

-- what prices per segment make of a list of cells from a segment on, after a cell
abbrev pub taken : (ℕ → ℕ) → (ℕ → ℕ → ℕ → ℕ) → ℕ → ℕ → List ℕ → ℕ
taken price worth i before [] = 0
taken price worth i before (c ∷ cs) = price i * worth i before c + taken price worth (i + 1) c cs

-- a price at one segment alone
abbrev pub at_only : ℕ → ℕ → ℕ → ℕ
at_only k price i = if k == i then price else 0

-- the prices of windows by a segment that each has
abbrev pub by_key : (Window → ℕ) → List Window → ℕ → ℕ
by_key key ws i = sum_by (λ w. if key w == i then w.price else 0) ws

module _ (worth : ℕ → ℕ → ℕ → ℕ) where
  -- without prices nothing is taken
  pub taken_none : (price : ℕ → ℕ) → ((i : ℕ) → price i ≡ 0) → (i before : ℕ) (cs : List ℕ) → taken price worth i before cs ≡ 0
  taken_none price none i before [] = refl
  taken_none price none i before (c ∷ cs) =
      ap (λ p. p * worth i before c + taken price worth (i + 1) c cs) (none i) ∙ (let rest = taken_none price none (i + 1) c cs in omega (arith, rest))

  -- sums of prices take sums
  pub taken_more : (all one rest : ℕ → ℕ) → ((i : ℕ) → all i ≡ one i + rest i) → (i before : ℕ) (cs : List ℕ)
      → taken all worth i before cs ≡ taken one worth i before cs + taken rest worth i before cs
  taken_more all one rest parts i before [] = omega arith
  taken_more all one rest parts i before (c ∷ cs) =
      let more = taken_more all one rest parts (i + 1) c cs in
      ap₂ (λ p t. p * worth i before c + t) (parts i) more ∙ omega arith

  module _ (k price : ℕ) where
    only_here : (i : ℕ) → k ≡ i → at_only k price i ≡ price
    only_here i e = cond-true (eqb k i) price 0 (eq-eqb k i e)

    only_apart : (i : ℕ) → (k ≡ i → ⊥) → at_only k price i ≡ 0
    only_apart i apart = cond-false (eqb k i) price 0 (ne_eqb k i apart)

    -- behind its segment a price takes nothing
    taken_past : (i before : ℕ) (cs : List ℕ) → k < i → taken (at_only k price) worth i before cs ≡ 0
    taken_past i before [] late = refl
    taken_past i before (c ∷ cs) late =
        let own = only_apart i (λ e. absurd (omega (arith, e, late))) in
        ap (λ p. p * worth i before c + taken (at_only k price) worth (i + 1) c cs) own ∙ (let rest = taken_past (i + 1) c cs (omega (arith, late)) in omega (arith, rest))

    -- at its segment it takes what that is worth
    pub taken_here : (n i before : ℕ) (cs : List ℕ) → k ≡ i + n → n < length cs
        → taken (at_only k price) worth i before cs ≡ price * worth k (slice_index (before ∷ cs) n) (slice_index cs n)
    taken_here n i before [] e low = absurd (omega (arith, low))
    taken_here zero i before (c ∷ cs) e low =
        let here : k ≡ i = omega (arith, e) in
        let past = taken_past (i + 1) c cs (omega (arith, e)) in
        ap₂ (λ p t. p * worth i before c + t) (only_here i here) past ∙ zero_more (price * worth i before c) ∙ ap (λ j. price * worth j before c) (sym here)
      where
        zero_more : (n : ℕ) → n + 0 ≡ n
        zero_more n = omega arith
    taken_here (suc n) i before (c ∷ cs) e low =
        let rest = taken_here n (i + 1) c cs (omega (arith, e)) (omega (arith, low)) in
        ap₂ (λ p t. p * worth i before c + t) (only_apart i (λ same. absurd (omega (arith, e, same)))) rest ∙ drop_none (worth i before c) (price * worth k (slice_index (c ∷ cs) n) (slice_index cs n))
      where
        drop_none : (w n : ℕ) → 0 * w + n ≡ n
        drop_none w n = omega arith

  -- the prices of windows take what each takes
  pub taken_windows : (key : Window → ℕ) (each : Window → ℕ) (P : Window → Type 0) (i before : ℕ) (cs : List ℕ)
      → ((w : Window) → P w → taken (at_only (key w) w.price) worth i before cs ≡ each w) → (ws : List Window) → All P ws
      → taken (by_key key ws) worth i before cs ≡ sum_by each ws
  taken_windows key each P i before cs one [] h = taken_none (by_key key []) (λ _. refl) i before cs
  taken_windows key each P i before cs one (w ∷ ws) h =
      taken_more (by_key key (w ∷ ws)) (at_only (key w) w.price) (by_key key ws) (λ j. sum_by-cons (λ (v : Window). if key v == j then v.price else 0) w ws) i before cs
      ∙ ap₂ (λ a b. a + b) (one w (All-head P w ws h)) (taken_windows key each P i before cs one ws (All-tail P w ws h)) ∙ sym (sum_by-cons each w ws)

  -- ---- how much that is at most

  module _ (m : Moves) (segments most : ℕ) (limit : (i before c : ℕ) → i < segments → before < m.count → c < m.count → worth i before c ≤ most) where
    one_most : (k price i before : ℕ) (cs : List ℕ) → i + length cs ≤ segments → before < m.count → Follow m before cs → taken (at_only k price) worth i before cs ≤ price * most
    one_most k price i before [] long old h = omega arith
    one_most k price i before (c ∷ cs) long old h =
        let new = h.0.below in
        let rest = one_most k price (i + 1) c cs (omega (arith, long)) new h.1 in
        ⊎_elim
        (λ (here : k ≡ i).
        let past = taken_past k price (i + 1) c cs (omega (arith, here)) in
        let own = ap (λ p. p * worth i before c) (only_here k price i here) in
        let few = mul-le-mul_left price (limit i before c (omega (arith, long)) old new) in
        omega (arith, past, own, few))
        (λ (apart : k ≡ i → ⊥). let own = ap (λ p. p * worth i before c) (only_apart k price i apart) in omega (arith, own, rest)) (cases_eq k i)

    -- with prices of at most so much each
    pub taken_most : (key : Window → ℕ) (price : ℕ) (i before : ℕ) (cs : List ℕ) → i + length cs ≤ segments → before < m.count → Follow m before cs
        → (ws : List Window) → All (λ w. w.price ≤ price) ws → taken (by_key key ws) worth i before cs ≤ (length ws * price) * most
    taken_most key price i before cs long old h [] all = let none = taken_none (by_key key []) (λ _. refl) i before cs in omega (arith, none)
    taken_most key price i before cs long old h (w ∷ ws) all =
        let parts = taken_more (by_key key (w ∷ ws)) (at_only (key w) w.price) (by_key key ws) (λ j. sum_by-cons (λ (v : Window). if key v == j then v.price else 0) w ws) i before cs in
        let one = one_most (key w) w.price i before cs long old h in
        let few = mul-le-mul {n₁ = w.price} {m₁ = most} {n₂ = price} {m₂ = most} (All-head (λ (v : Window). v.price ≤ price) w ws all) (omega arith) in
        let rest = taken_most key price i before cs long old h ws (All-tail (λ (v : Window). v.price ≤ price) w ws all) in
        omega (arith, parts, one, few, rest)
