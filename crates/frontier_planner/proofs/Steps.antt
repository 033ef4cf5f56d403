-- What is under the steps of a staircase, and how one step more makes others idle.
use Rattle.std.proofs.Common.{◌≡◌, ◌∙◌, ℕ, ◌+◌, ◌-◌, ◌<◌, ◌≤◌, ◌⊎◌, inl, inr, ⊎_elim, List, ◌∷◌, ◌++◌, length, get_or, take, drop, true, false, sym, ap, subst, arith, length-append, refl}
use Rattle.std.specs.Prelude.{ℤ, ◌≤ℤ◌, ◌<ℤ◌, ◌↔◌, int_le}
use Rattle.std.specs.List.{AllWithin, Contains}
use Rattle.std.specs.List.Sorted.{IsNonDecreasingBy}
use Rattle.std.proofs.lemmas.Bool.{cases_Bool, cases_lt}
use Rattle.std.proofs.lemmas.Int.{ints}
use Rattle.std.proofs.lemmas.List.{get_or-append_right, get_or-drop, get_or-take, get_or_append_left, get_or_default, length-drop, length-take-le}
use Rattle.std.proofs.lemmas.List.Elements.{All-contains_itself, All-weaker, Contains-append_cases, Contains-append_left, Contains-append_right, Contains-get_or}
use Rattle.std.proofs.lemmas.List.Kept.{AllPairs-cons}
use Rattle.lab_model.proofs.Orders.{≤ℤ_trans}
use Rattle.lab_model.specs.declared.label.Label.{Label}
use Rattle.frontier_planner.specs.Staircase.{IsRising, IsStep}
use Rattle.frontier_planner.specs.Sweep.{HasUnder}
use Rattle.labels.proofs.Walks.{at_head, at_tail, first_or_rest}

-- ---- the steps are parted by delay and by value

-- a step is no lower than one before it
rising_between : (steps : List Label) → IsRising steps → (i j : ℕ) (d : Label) → i ≤ j → j < length steps → ((get_or steps i d).p ≤ (get_or steps j d).p) × ((get_or steps i d).v ≤ℤ (get_or steps j d).v)
rising_between steps rising i j d low inside =
    ⊎_elim (λ (less : i < j). let step = rising i j d less inside in let p = step.0 in let v = step.1 in (omega (arith, p), omega (arith, ints, v)))
    (λ (same : j ≤ i). let e : i ≡ j = omega (arith, low, same) in subst (λ k. ((get_or steps i d).p ≤ (get_or steps k d).p) × ((get_or steps i d).v ≤ℤ (get_or steps k d).v)) e (omega arith, omega (arith, ints))) (cases_lt i j)

-- along a staircase no delay falls
pub delays_rise : (steps : List Label) → IsRising steps → IsNonDecreasingBy (λ s. s.p) steps
delays_rise steps rising i j d low inside = (rising_between steps rising i j d low inside).0

-- where the test of two integers passes, the first is no greater
pub int_le_true : (a b : ℤ) → int_le a b ≡ true → a ≤ℤ b
int_le_true a b h = grind (arith, ints)

-- where the first is no greater, the test passes
pub le_int_le : (a b : ℤ) → a ≤ℤ b → int_le a b ≡ true
le_int_le a b h = grind (arith, ints)

-- where the test fails, the second is less
pub int_le_false : (a b : ℤ) → int_le a b ≡ false → b <ℤ a
int_le_false a b h = grind (arith, ints)

z_cases : (a b : ℤ) → (a <ℤ b) ⊎ (b ≤ℤ a)
z_cases a b = ⊎_elim (λ (yes : int_le b a ≡ true). inr (int_le_true b a yes)) (λ (no : int_le b a ≡ false). inl (int_le_false b a no)) (cases_Bool (int_le b a))

-- ---- what is under them

-- the last step without a longer delay has the greatest value
pub covers_last : (steps : List Label) (count p : ℕ) (v : ℤ) (d : Label) → IsRising steps → count ≤ length steps → AllWithin (λ s. p < s.p) steps count (length steps) → HasUnder steps p v → (0 < count) × (v ≤ℤ (get_or steps (count - 1) d).v)
covers_last steps count p v d rising bound above h =
    let k = h.1.0 in
    let inside = h.1.1 in
    let short = h.2 in
    ⊎_elim (λ (low : k < count).
    let at : get_or steps k d ≡ h.0 = get_or_default steps k d h.0 inside ∙ h.1.2 in
    let more = (rising_between steps rising k (count - 1) d (omega (arith, low)) (omega (arith, low, bound))).1 in
    (omega (arith, low), ≤ℤ_trans v (get_or steps k d).v (get_or steps (count - 1) d).v (subst (λ (s : Label). v ≤ℤ s.v) (sym at) h.3) more))
    (λ (late : count ≤ k). let far = subst (λ (s : Label). p < s.p) h.1.2 (above k h.0 late inside) in absurd (omega (arith, far, short))) (cases_lt k count)

-- where the first steps have no greater delay, and the last of them no less a value, some step is under these
pub under_last : (steps : List Label) (count p : ℕ) (v : ℤ) (d : Label) → count ≤ length steps → AllWithin (λ s. s.p ≤ p) steps 0 count → 0 < count → v ≤ℤ (get_or steps (count - 1) d).v → HasUnder steps p v
under_last steps count p v d bound below some worth =
    (get_or steps (count - 1) d, Contains-get_or steps (count - 1) d (omega (arith, some, bound)), below (count - 1) d (omega arith) (omega (arith, some)), worth)

-- ---- one step more

-- nothing with a shorter delay is worth more, where no step covers the label
pub worth_before : (steps : List Label) (l : Label) (from : ℕ) → (HasUnder steps l.p l.v → ⊥) → from ≤ length steps → AllWithin (λ s. s.p < l.p) steps 0 from → AllWithin (λ s. s.v ≤ℤ l.v) steps 0 from
worth_before steps l from free bound below k d start high =
    let short = below k d start high in
    ⊎_elim (λ (less : (get_or steps k d).v <ℤ l.v). omega (arith, ints, less))
    (λ (no_less : l.v ≤ℤ (get_or steps k d).v). absurd (free (get_or steps k d, Contains-get_or steps k d (omega (arith, high, bound)), omega (arith, short), no_less))) (z_cases (get_or steps k d).v l.v)

-- from a step on that is worth more than a value each is
pub worth_more : (steps : List Label) (v : ℤ) (count : ℕ) (e : Label) → IsRising steps → count < length steps → v <ℤ (get_or steps count e).v → AllWithin (λ s. v <ℤ s.v) steps count (length steps)
worth_more steps v count e rising inside more k d low high =
    let step = (rising_between steps rising count k d low high).1 in
    let here = subst (λ (s : Label). v <ℤ s.v) (get_or_default steps count e d inside) more in
    omega (arith, ints, here, step)

module _ (steps : List Label) (l : Label) (from to : ℕ) (rising : IsRising steps) (free : HasUnder steps l.p l.v → ⊥) (order : from ≤ to) (bound : to ≤ length steps)
    (before : AllWithin (λ s. s.p < l.p) steps 0 from) (behind : AllWithin (λ s. l.p ≤ s.p) steps from (length steps))
    (worth : AllWithin (λ s. s.v ≤ℤ l.v) steps 0 to) (more : AllWithin (λ s. l.v <ℤ s.v) steps to (length steps)) where
  -- a step that stays in front stood in front
  in_front : (x : Label) → Contains (take from steps) x → (k : ℕ) × (k < from) × (get_or steps k x ≡ x)
  in_front x h =
      let long = length-take-le from steps (omega (arith, order, bound)) in
      let inside = h.1 in
      let low : h.0 < from = omega (arith, inside, long) in
      (h.0, low, sym (get_or-take from steps h.0 x low) ∙ h.2)

  -- and one behind stood behind
  in_back : (x : Label) → Contains (drop to steps) x → (k : ℕ) × (to ≤ k) × (k < length steps) × (get_or steps k x ≡ x)
  in_back x h =
      let long = length-drop to steps in
      let inside = h.1 in
      (to + h.0, omega arith, omega (arith, inside, long, bound), sym (get_or-drop to steps h.0 x) ∙ h.2)

  -- the label is a step above those in front
  front_step : (x : Label) → Contains (take from steps) x → IsStep x l
  front_step x h =
      let at = in_front x h in
      let low = at.1 in
      let inside : at.0 < length steps = omega (arith, low, order, bound) in
      let short : x.p < l.p = subst (λ (s : Label). s.p < l.p) at.2 (before at.0 x (omega arith) low) in
      (short, ⊎_elim (λ (less : x.v <ℤ l.v). less) (λ (no_less : l.v ≤ℤ x.v). absurd (free (x, (at.0, inside, at.2), omega (arith, short), no_less))) (z_cases x.v l.v))

  -- and those behind are steps above the label
  back_step : (x : Label) → Contains (drop to steps) x → IsStep l x
  back_step x h =
      let at = in_back x h in
      let low = at.1 in
      let inside = at.2 in
      let long : l.p ≤ x.p = subst (λ (s : Label). l.p ≤ s.p) at.3 (behind at.0 x (omega (arith, low, order)) inside) in
      let great : l.v <ℤ x.v = subst (λ (s : Label). l.v <ℤ s.v) at.3 (more at.0 x low inside) in
      (⊎_elim (λ (less : l.p < x.p). less) (λ (no_less : x.p ≤ l.p). absurd (free (x, (at.0, inside, at.3), no_less, omega (arith, ints, great)))) (cases_lt l.p x.p), great)

  -- the steps with the label among them
  abbrev next : List Label
  next = take from steps ++ l ∷ drop to steps

  take_rises : IsRising (take from steps)
  take_rises i j d low inside =
      let long = length-take-le from steps (omega (arith, order, bound)) in
      subst (λ (s : Label). IsStep (get_or (take from steps) i d) s) (sym (get_or-take from steps j d (omega (arith, inside, long))))
      (subst (λ (s : Label). IsStep s (get_or steps j d)) (sym (get_or-take from steps i d (omega (arith, low, inside, long)))) (rising i j d low (omega (arith, inside, long, order, bound))))

  drop_rises : IsRising (drop to steps)
  drop_rises i j d low inside =
      let long = length-drop to steps in
      subst (λ (s : Label). IsStep (get_or (drop to steps) i d) s) (sym (get_or-drop to steps j d))
      (subst (λ (s : Label). IsStep s (get_or steps (to + j) d)) (sym (get_or-drop to steps i d)) (rising (to + i) (to + j) d (omega (arith, low)) (omega (arith, inside, long))))

  rest_rises : IsRising (l ∷ drop to steps)
  rest_rises = AllPairs-cons IsStep l (drop to steps) (All-weaker (Contains (drop to steps)) (IsStep l) back_step (drop to steps) (All-contains_itself (drop to steps))) drop_rises

  step_on : (a b c : Label) → IsStep a b → IsStep b c → IsStep a c
  step_on a b c h k = let p = h.0 in let q = k.0 in let v = h.1 in let w = k.1 in (omega (arith, p, q), omega (arith, ints, v, w))

  across : (x y : Label) → Contains (take from steps) x → Contains (l ∷ drop to steps) y → IsStep x y
  across x y h k = ⊎_elim (λ (e : l ≡ y). subst (IsStep x) e (front_step x h)) (λ back. step_on x l y (front_step x h) (back_step y back)) (first_or_rest l (drop to steps) y k)

  -- they rise
  pub next_rises : IsRising next
  next_rises i j d low inside =
      let front = take from steps in
      let rest = l ∷ drop to steps in
      let sum = length-append front rest in
      ⊎_elim
      (λ (both : j < length front). subst (λ (s : Label). IsStep (get_or next i d) s) (sym (get_or_append_left front rest d j both))
      (subst (λ (s : Label). IsStep s (get_or front j d)) (sym (get_or_append_left front rest d i (omega (arith, low, both)))) (take_rises i j d low both)))
      (λ (late : length front ≤ j).
      let right = get_or-append_right front rest (length front) j d refl late in
      let at : j - length front < length rest = omega (arith, inside, sum, late) in
      subst (λ (s : Label). IsStep (get_or next i d) s) (sym right)
      (⊎_elim (λ (early : i < length front). subst (λ (s : Label). IsStep s (get_or rest (j - length front) d)) (sym (get_or_append_left front rest d i early))
      (across (get_or front i d) (get_or rest (j - length front) d) (Contains-get_or front i d early) (Contains-get_or rest (j - length front) d at)))
      (λ (too : length front ≤ i). subst (λ (s : Label). IsStep s (get_or rest (j - length front) d)) (sym (get_or-append_right front rest (length front) i d refl too))
      (rest_rises (i - length front) (j - length front) d (omega (arith, low, too)) at)) (cases_lt i (length front)))) (cases_lt j (length front))

  old_next : (p : ℕ) (v : ℤ) → HasUnder steps p v → HasUnder next p v
  old_next p v h =
      let x = h.0 in
      let k = h.1.0 in
      let inside = h.1.1 in
      let read = h.1.2 in
      let long = length-take-le from steps (omega (arith, order, bound)) in
      let tail = length-drop to steps in
      ⊎_elim
      (λ (early : k < from). (x, Contains-append_left (take from steps) (l ∷ drop to steps) x (k, omega (arith, early, long), get_or-take from steps k x early ∙ read), h.2, h.3))
      (λ (late : from ≤ k). ⊎_elim
      (λ (idle : k < to).
      let p' : l.p ≤ x.p = subst (λ (s : Label). l.p ≤ s.p) read (behind k x late inside) in
      let v' : x.v ≤ℤ l.v = subst (λ (s : Label). s.v ≤ℤ l.v) read (worth k x (omega arith) idle) in
      let q = h.2 in
      (l, Contains-append_right (take from steps) (l ∷ drop to steps) l (at_head l (drop to steps)), omega (arith, p', q), ≤ℤ_trans v x.v l.v h.3 v'))
      (λ (back : to ≤ k).
      let there : Contains (drop to steps) x = (k - to, omega (arith, tail, inside, back), get_or-drop to steps (k - to) x ∙ ap (λ n. get_or steps n x) (omega (arith, back)) ∙ read) in
      (x, Contains-append_right (take from steps) (l ∷ drop to steps) x (at_tail l (drop to steps) x there), h.2, h.3)) (cases_lt k to)) (cases_lt k from)

  -- what is under them was so before, or is under the label
  pub next_under : (p : ℕ) (v : ℤ) → HasUnder next p v ↔ (HasUnder steps p v ⊎ ((l.p ≤ p) × (v ≤ℤ l.v)))
  next_under p v = (
    λ h. ⊎_elim (λ front. let at = in_front h.0 front in let low = at.1 in inl (h.0, (at.0, omega (arith, low, order, bound), at.2), h.2, h.3))
        (λ rest. ⊎_elim (λ (e : l ≡ h.0). inr (subst (λ (y : Label). (y.p ≤ p) × (v ≤ℤ y.v)) (sym e) (h.2, h.3)))
        (λ back. let at = in_back h.0 back in inl (h.0, (at.0, at.2, at.3), h.2, h.3)) (first_or_rest l (drop to steps) h.0 rest)) (Contains-append_cases (take from steps) (l ∷ drop to steps) h.0 h.1),
    λ h. ⊎_elim (λ old. old_next p v old) (λ new. (l, Contains-append_right (take from steps) (l ∷ drop to steps) l (at_head l (drop to steps)), new.0, new.1)) h,
  )
