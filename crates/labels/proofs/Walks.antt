-- What stands in mapped, joined and filtered lists, and among the rungs below a number.
use Rattle.std.proofs.Common.{◌≡◌, ◌∙◌, ℕ, ◌<◌, ◌⊎◌, inl, inr, ⊎_elim, List, [], ◌∷◌, ◌++◌, map, Bool, true, false, Some, refl, sym, ap, subst, arith, zero-add}
use Rattle.std.specs.List.{Contains, filter, find, flat_map}
use Rattle.std.proofs.lemmas.Bool.{cases_Bool, cond_both, cond-false, cond-true, false≢true}
use Rattle.std.proofs.lemmas.List.FromFn.{length-range_with_len, get_or-range_with_len}
use Rattle.std.proofs.lemmas.List.Elements.{Contains-append_cases, Contains-append_left, Contains-append_right, Contains-push, Contains-push_cases}
use Rattle.lab_model.specs.declared.label.Label.{Label}
use Rattle.lab_model.specs.Ladder.{rungs_below}
use Rattle.labels.specs.Frontier.{by_rung}

module _ {X : Type 0} where
  -- an empty list has nothing
  pub none_at : (x : X) → Contains [] x → ⊥
  none_at x h = let low = h.1 in absurd (omega (arith, low))

  -- what stands in a list is its first or stands in the rest
  pub first_or_rest : (y : X) (ys : List X) (x : X) → Contains (y ∷ ys) x → (y ≡ x) ⊎ Contains ys x
  first_or_rest y ys x h =
      ⊎_elim (λ first. ⊎_elim (λ none. absurd (none_at x none)) (λ (e : y ≡ x). inl e) (Contains-push_cases [] y x first))
      (λ (rest : Contains ys x). inr rest) (Contains-append_cases (y ∷ []) ys x h)

  -- the first stands in its list
  pub at_head : (y : X) (ys : List X) → Contains (y ∷ ys) y
  at_head y ys = Contains-append_left (y ∷ []) ys y (Contains-push [] y)

  -- and so does what stands in the rest
  pub at_tail : (y : X) (ys : List X) (x : X) → Contains ys x → Contains (y ∷ ys) x
  at_tail y ys x h = Contains-append_right (y ∷ []) ys x h

  -- what is left of a list stood in it and passes
  pub from_filter : (p : X → Bool) (xs : List X) (x : X) → Contains (filter p xs) x → Contains xs x × (p x ≡ true)
  from_filter p [] x h = absurd (none_at x h)
  from_filter p (y ∷ ys) x there =
      cond_both (p y) (y ∷ filter p ys) (filter p ys) (λ zs. Contains zs x → Contains (y ∷ ys) x × (p x ≡ true))
      (λ passes h. ⊎_elim (λ (e : y ≡ x). (subst (Contains (y ∷ ys)) e (at_head y ys), ap p (sym e) ∙ passes)) (λ rest. let r = from_filter p ys x rest in (at_tail y ys x r.0, r.1)) (first_or_rest y (filter p ys) x h))
      (λ fails h. let r = from_filter p ys x h in (at_tail y ys x r.0, r.1)) there

  -- what passes is left
  pub in_filter : (p : X → Bool) (xs : List X) (x : X) → Contains xs x → p x ≡ true → Contains (filter p xs) x
  in_filter p [] x h passes = absurd (none_at x h)
  in_filter p (y ∷ ys) x h passes =
      ⊎_elim (λ (e : y ≡ x). subst (λ zs. Contains zs x) (sym (cond-true (p y) (y ∷ filter p ys) (filter p ys) (ap p e ∙ passes))) (subst (Contains (y ∷ filter p ys)) e (at_head y (filter p ys))))
      (λ rest. cond_both (p y) (y ∷ filter p ys) (filter p ys) (λ zs. Contains zs x) (λ yes. at_tail y (filter p ys) x (in_filter p ys x rest passes)) (λ no. in_filter p ys x rest passes)) (first_or_rest y ys x h)

module _ {X Y : Type 0} where
  -- what a function makes of an element stands in the mapped list
  pub in_map : (f : X → Y) (xs : List X) (x : X) → Contains xs x → Contains (map f xs) (f x)
  in_map f [] x h = absurd (none_at x h)
  in_map f (y ∷ ys) x h =
      ⊎_elim (λ (e : y ≡ x). subst (λ z. Contains (f y ∷ map f ys) (f z)) e (at_head (f y) (map f ys))) (λ rest. at_tail (f y) (map f ys) (f x) (in_map f ys x rest)) (first_or_rest y ys x h)

  -- what stands in a mapped list is made of an element
  pub from_map : (f : X → Y) (xs : List X) (z : Y) → Contains (map f xs) z → (x : X) × Contains xs x × (f x ≡ z)
  from_map f [] z h = absurd (none_at z h)
  from_map f (y ∷ ys) z h =
      ⊎_elim (λ (e : f y ≡ z). (y, at_head y ys, e)) (λ rest. let r = from_map f ys z rest in (r.0, at_tail y ys r.0 r.1, r.2)) (first_or_rest (f y) (map f ys) z h)

  -- what stands in the list of an element stands in the joined list
  pub in_flat_map : (f : X → List Y) (xs : List X) (x : X) (z : Y) → Contains xs x → Contains (f x) z → Contains (flat_map f xs) z
  in_flat_map f [] x z h k = absurd (none_at x h)
  in_flat_map f (y ∷ ys) x z h k =
      ⊎_elim (λ (e : y ≡ x). Contains-append_left (f y) (flat_map f ys) z (subst (λ w. Contains (f w) z) (sym e) k)) (λ rest. Contains-append_right (f y) (flat_map f ys) z (in_flat_map f ys x z rest k)) (first_or_rest y ys x h)

  -- what stands in a joined list stands in the list of an element
  pub from_flat_map : (f : X → List Y) (xs : List X) (z : Y) → Contains (flat_map f xs) z → (x : X) × Contains xs x × Contains (f x) z
  from_flat_map f [] z h = absurd (none_at z h)
  from_flat_map f (y ∷ ys) z h =
      ⊎_elim (λ here. (y, at_head y ys, here)) (λ rest. let r = from_flat_map f ys z rest in (r.0, at_tail y ys r.0 r.1, r.2)) (Contains-append_cases (f y) (flat_map f ys) z h)

-- ---- the rungs below a number

-- each rung below a number stands among those below it
pub in_rungs : (n q : ℕ) → q < n → Contains (rungs_below n) q
in_rungs n q low =
    let few = length-range_with_len 0 n in
    (q, omega (arith, few, low), get_or-range_with_len 0 n q q low ∙ zero-add q)

-- and no other
pub from_rungs : (n q : ℕ) → Contains (rungs_below n) q → q < n
from_rungs n q h =
    let few = length-range_with_len 0 n in
    let low = h.1 in
    let here : h.0 < n = omega (arith, few, low) in
    let e = get_or-range_with_len 0 n h.0 q here in
    let is = h.2 in
    omega (arith, e, is, here)

-- ---- the labels of a segment, by rung, then place

module _ (n : ℕ) (chain : ℕ → List Label) where
  -- a label of a rung's chain stands there with its rung
  pub in_by_rung : (q : ℕ) (l : Label) → q < n → Contains (chain q) l → Contains (by_rung n chain) (q, l)
  in_by_rung q l low h = in_flat_map (λ r. map (λ m. (r, m)) (chain r)) (rungs_below n) q (q, l) (in_rungs n q low) (in_map (λ m. (q, m)) (chain q) l h)

  -- and nothing else does
  pub from_by_rung : (c : ℕ × Label) → Contains (by_rung n chain) c → (c.0 < n) × Contains (chain c.0) c.1
  from_by_rung c h =
      let one = from_flat_map (λ r. map (λ m. (r, m)) (chain r)) (rungs_below n) c h in
      let two = from_map (λ m. (one.0, m)) (chain one.0) c one.2 in
      subst (λ (x : ℕ × Label). (x.0 < n) × Contains (chain x.0) x.1) two.2 (from_rungs n one.0 one.1, two.1)

-- ---- the first element that passes

module _ {X : Type 0} where
  -- where one passes, the first that does is found
  pub find_found : (p : X → Bool) (xs : List X) (x : X) → Contains xs x → p x ≡ true → (y : X) × (find p xs ≡ Some y) × Contains xs y × (p y ≡ true)
  find_found p [] x h passes = absurd (none_at x h)
  find_found p (y ∷ ys) x h passes =
      ⊎_elim (λ (yes : p y ≡ true). (y, cond-true (p y) (Some y) (find p ys) yes, at_head y ys, yes))
      (λ (no : p y ≡ false).
      ⊎_elim (λ (e : y ≡ x). absurd (false≢true (sym no ∙ ap p e ∙ passes)))
      (λ rest. let r = find_found p ys x rest passes in (r.0, cond-false (p y) (Some y) (find p ys) no ∙ r.1, at_tail y ys r.0 r.2, r.3)) (first_or_rest y ys x h))
      (cases_Bool (p y))

-- functions that agree on the elements give the same lists
module _ {X Y : Type 0} where
  -- functions that agree on the members of a list make the same list of it
  pub map_same : (f h : X → Y) (xs : List X) → ((x : X) → Contains xs x → f x ≡ h x) → map f xs ≡ map h xs
  map_same f h [] same = refl
  map_same f h (x ∷ xs) same =
      ap (λ y. y ∷ map f xs) (same x (at_head x xs)) ∙ ap (λ ys. h x ∷ ys) (map_same f h xs (λ z there. same z (at_tail x xs z there)))

  -- functions that agree on the members of a list, each giving a list, make the same joined list
  pub flat_map_same : (f h : X → List Y) (xs : List X) → ((x : X) → Contains xs x → f x ≡ h x) → flat_map f xs ≡ flat_map h xs
  flat_map_same f h [] same = refl
  flat_map_same f h (x ∷ xs) same =
      ap (λ ys. ys ++ flat_map f xs) (same x (at_head x xs)) ∙ ap (λ ys. h x ++ ys) (flat_map_same f h xs (λ z there. same z (at_tail x xs z there)))

-- chains that agree on the rungs below a number have the same labels there
pub by_rung_same : (n : ℕ) (a b : ℕ → List Label) → ((q : ℕ) → q < n → a q ≡ b q) → by_rung n a ≡ by_rung n b
by_rung_same n a b same =
    flat_map_same (λ q. map (λ l. (q, l)) (a q)) (λ q. map (λ l. (q, l)) (b q)) (rungs_below n) (λ q there. ap (λ ls. map (λ l. (q, l)) ls) (same q (from_rungs n q there)))
