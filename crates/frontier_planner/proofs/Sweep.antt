-- One sweep over labels in the order of time, delay and falling value keeps those that no other dominates.
use Rattle.std.proofs.Common.{◌≡◌, ◌∙◌, ℕ, ◌<◌, ◌≤◌, ◌⊎◌, inl, inr, ⊎_elim, List, [], ◌∷◌, ◌++◌, length, get_or, take, Bool, false, sym, subst, arith, Less}
use Rattle.std.specs.Prelude.{ℤ, ◌≤ℤ◌, ◌↔◌}
use Rattle.std.specs.List.{Contains}
use Rattle.std.specs.Cmp.{IsStrictWeakOrder, IsTotalOrder}
use Rattle.std.specs.Ordering.{is_lt}
use Rattle.std.specs.List.Sorted.{IsPermutation, IsSortedBy, IsStrictlySortedBy}
use Rattle.std.proofs.lemmas.Bool.{cases_lt}
use Rattle.std.proofs.lemmas.Bool.Decides.{nat_tests}
use Rattle.std.proofs.lemmas.Int.{ints}
use Rattle.std.proofs.lemmas.Cmp.{back_total, int_cmp_total, nat_cmp_total, on_total, then_total}
use Rattle.std.proofs.lemmas.List.{get_or-take, get_or_default, length-take-le}
use Rattle.std.proofs.lemmas.List.Elements.{All-append, All-nil, All-cons, Contains-append_left, Contains-push, Contains-push_cases, recursion_from_All, All-from_recursion}
use Rattle.std.proofs.lemmas.List.Sorted.{Contains-permutation, IsPermutation-sym, ranks_by, sorted_far}
use Rattle.lab_model.specs.declared.label.Label.{Label}
use Rattle.labels.specs.Covers.{HasAbove}
use Rattle.labels.specs.Frontier.{label_cmp, undominated}
use Rattle.labels.specs.Labels.{Dominates}
use Rattle.frontier_planner.specs.Staircase.{IsRising}
use Rattle.frontier_planner.specs.Sweep.{HasUnder, sweep_cmp}
use Rattle.labels.proofs.Kept.{dominates_both, dominates_itself, dominates_trans, undominated_is, undominated_same}
use Rattle.labels.proofs.Walks.{at_head, at_tail, none_at}

-- the order of the sweep is total
pub sweep_total : IsTotalOrder sweep_cmp
sweep_total = then_total (on_total (λ (l : Label). l.t) nat_cmp_total) (then_total (on_total (λ (l : Label). l.p) nat_cmp_total) (on_total (λ (l : Label). l.v) (back_total int_cmp_total)))

-- the second isn't swept before the first
abbrev pub NotBefore : Label → Label → Type 0
NotBefore m l = is_lt (sweep_cmp l m) ≡ false

-- ---- what an earlier place says

-- is no later
pub times : (a b : Label) → NotBefore a b → a.t ≤ b.t
times a b h = grind (arith, nat_tests, ints)

delays : (a b : Label) → NotBefore a b → a.t ≡ b.t → a.p ≤ b.p
delays a b h same = grind (arith, nat_tests, ints)

values : (a b : Label) → NotBefore a b → a.t ≡ b.t → a.p ≡ b.p → b.v ≤ℤ a.v
values a b h time delay = grind (arith, nat_tests, ints)

by_time : (a b : Label) → a.t < b.t → label_cmp a b ≡ Less
by_time a b h = grind (arith, nat_tests)

by_delay : (a b : Label) → a.t ≡ b.t → a.p < b.p → label_cmp a b ≡ Less
by_delay a b h low = grind (arith, nat_tests)

-- what is swept before, and doesn't dominate, is less
less_before : (a b : Label) → NotBefore a b → (Dominates a b → ⊥) → label_cmp a b ≡ Less
less_before a b h other =
    let time = times a b h in
    ⊎_elim (λ (early : a.t < b.t). by_time a b early)
    (λ (late : b.t ≤ a.t).
    let same_time : a.t ≡ b.t = omega (arith, time, late) in
    let delay = delays a b h same_time in
    ⊎_elim (λ (short : a.p < b.p). by_delay a b same_time short)
    (λ (long : b.p ≤ a.p).
    let same_delay : a.p ≡ b.p = omega (arith, delay, long) in
    absurd (other (time, delay, values a b h same_time same_delay))) (cases_lt a.p b.p)) (cases_lt a.t b.t)

-- what is swept after dominates only what dominates it too
after_dominates : (a b : Label) → NotBefore a b → Dominates b a → Dominates a b
after_dominates a b h d =
    let time = times a b h in
    let early = d.0 in
    let same_time : a.t ≡ b.t = omega (arith, time, early) in
    let delay = delays a b h same_time in
    let short = d.1 in
    let same_delay : a.p ≡ b.p = omega (arith, delay, short) in
    (time, delay, values a b h same_time same_delay)

-- ---- one more label at the end of a list in order

sorted_push : (xs : List Label) (l : Label) → IsStrictlySortedBy label_cmp xs → ((m : Label) → Contains xs m → label_cmp m l ≡ Less) → IsStrictlySortedBy label_cmp (xs ++ l ∷ [])
unfolding IsStrictlySortedBy
sorted_push [] l h less = (tt, tt)
sorted_push (x ∷ xs) l h less = (
  recursion_from_All (λ y. label_cmp x y ≡ Less) (xs ++ l ∷ []) (All-append (λ y. label_cmp x y ≡ Less) xs (l ∷ []) (All-from_recursion (λ y. label_cmp x y ≡ Less) xs h.0)
      (All-cons (λ y. label_cmp x y ≡ Less) l [] (less x (at_head x xs)) (All-nil (λ y. label_cmp x y ≡ Less)))),
  sorted_push xs l h.1 (λ m there. less m (at_tail x xs m there)),
)

-- ---- the sweep

-- what is kept of the labels so far, and the staircase over it
pub record Swept (xs kept steps : List Label) : Type 0 where
  sorted : IsStrictlySortedBy label_cmp kept
  within : (m : Label) → Contains kept m → Contains xs m
  above : (l : Label) → Contains xs l → HasAbove kept l
  apart : (m n : Label) → Contains kept m → Contains kept n → Dominates m n → m ≡ n
  under : (p : ℕ) (v : ℤ) → HasUnder steps p v → HasUnder kept p v
  over : (p : ℕ) (v : ℤ) → HasUnder kept p v → HasUnder steps p v
  pub rising : IsRising steps

-- nothing is kept of no labels
pub swept_none : Swept [] [] []
unfolding IsStrictlySortedBy
swept_none = record {
  sorted = tt;
  within = λ m h. h;
  above = λ l h. absurd (none_at l h);
  apart = λ m n h k d. absurd (none_at m h);
  under = λ p v h. absurd (none_at h.0 h.1);
  over = λ p v h. absurd (none_at h.0 h.1);
  rising = λ i j d low inside. absurd (omega (arith, inside));
}

-- a label under the staircase is dominated by a kept one, and not kept
pub swept_dropped : (xs kept steps : List Label) (l : Label) → Swept xs kept steps → ((m : Label) → Contains xs m → NotBefore m l) → HasUnder steps l.p l.v → Swept (xs ++ l ∷ []) kept steps
swept_dropped xs kept steps l s order covered = record {
  sorted = s.sorted;
  within = λ m h. Contains-append_left xs (l ∷ []) m (s.within m h);
  above = λ n h. ⊎_elim (λ before. s.above n before) (λ (e : l ≡ n). let up = s.under l.p l.v covered in
      subst (HasAbove kept) e (up.0, up.1, (times up.0 l (order up.0 (s.within up.0 up.1)), up.2, up.3))) (Contains-push_cases xs l n h);
  apart = s.apart;
  under = s.under;
  over = s.over;
  rising = s.rising;
}

-- any other is kept
pub swept_kept : (xs kept steps more : List Label) (l : Label) → Swept xs kept steps → ((m : Label) → Contains xs m → NotBefore m l) → (HasUnder steps l.p l.v → ⊥)
    → IsRising more
    → ((p : ℕ) (v : ℤ) → HasUnder more p v ↔ (HasUnder steps p v ⊎ ((l.p ≤ p) × (v ≤ℤ l.v)))) → Swept (xs ++ l ∷ []) (kept ++ l ∷ []) more
swept_kept xs kept steps more l s order free rises adds =
    let alone : (m : Label) → Contains kept m → Dominates m l → ⊥ = λ m there d. free (s.over l.p l.v (m, there, d.1, d.2)) in
    let before : (m : Label) → Contains kept m → NotBefore m l = λ m there. order m (s.within m there) in
    record {
      sorted = sorted_push kept l s.sorted (λ m there. less_before m l (before m there) (alone m there));
      within = λ m h. ⊎_elim (λ old. Contains-append_left xs (l ∷ []) m (s.within m old)) (λ (e : l ≡ m). subst (Contains (xs ++ l ∷ [])) e (Contains-push xs l)) (Contains-push_cases kept l m h);
      above = λ n h. ⊎_elim (λ old. let up = s.above n old in (up.0, Contains-append_left kept (l ∷ []) up.0 up.1, up.2))
          (λ (e : l ≡ n). (l, Contains-push kept l, subst (Dominates l) e (dominates_itself l))) (Contains-push_cases xs l n h);
      apart = λ m n h k d. ⊎_elim
          (λ old. ⊎_elim (λ old_too. s.apart m n old old_too d) (λ (e : l ≡ n). absurd (alone m old (subst (Dominates m) (sym e) d))) (Contains-push_cases kept l n k))
          (λ (e : l ≡ m). ⊎_elim (λ old. absurd (alone n old (after_dominates n l (before n old) (subst (λ y. Dominates y n) (sym e) d)))) (λ (f : l ≡ n). sym e ∙ f) (Contains-push_cases kept l n k)) (Contains-push_cases kept l m h);
      under = λ p v h. ⊎_elim (λ old. let up = s.under p v old in (up.0, Contains-append_left kept (l ∷ []) up.0 up.1, up.2, up.3)) (λ new. (l, Contains-push kept l, new.0, new.1)) ((adds p v).0 h);
      over = λ p v h. (adds p v).1 (⊎_elim (λ old. inl (s.over p v (h.0, old, h.2, h.3))) (λ (e : l ≡ h.0). inr (subst (λ (y : Label). (y.p ≤ p) × (v ≤ℤ y.v)) (sym e) (h.2, h.3))) (Contains-push_cases kept l h.0 h.1));
      rising = rises;
    }

-- the staircase covers each label so far
pub swept_covers : (xs kept steps : List Label) (l : Label) → Swept xs kept steps → Contains xs l → HasUnder steps l.p l.v
swept_covers xs kept steps l s there = let up = s.above l there in s.over l.p l.v (up.0, up.1, up.2.1, up.2.2)

-- what is kept at the end is what no different label dominates
pub swept_all : (xs kept steps : List Label) → Swept xs kept steps → kept ≡ undominated xs
swept_all xs kept steps s =
    undominated_is xs kept s.sorted
    (λ l there. (
      s.within l there,
      λ n in_xs d.
          let up = s.above n in_xs in
          let same = s.apart up.0 l up.1 there (dominates_trans up.0 n l up.2 d) in
          dominates_both n l d (subst (λ y. Dominates y n) same up.2),
    ))
    (λ l in_xs top.
    let up = s.above l in_xs in
    subst (Contains kept) (top up.0 (s.within up.0 up.1) up.2) up.1)

-- ---- the labels in order

-- the order of time, delay and falling value is one to sort by
pub sweep_ranks : IsStrictWeakOrder (λ (a b : Label). is_lt (sweep_cmp a b))
sweep_ranks = ranks_by sweep_total (λ (l : Label). l)

-- in a list in order none of the members so far comes behind the next
pub none_behind : {X : Type 0} → (less : X → X → Bool) → IsStrictWeakOrder less → (xs : List X) (i : ℕ) (d : X) → IsSortedBy less xs → i < length xs → (m : X) → Contains (take i xs) m → less (get_or xs i d) m ≡ false
none_behind less ranks xs i d h low m there =
    let within = there.1 in
    let short = length-take-le i xs (omega arith) in
    let at = get_or-take i xs there.0 m (omega (arith, within, short)) in
    let far = sorted_far less ranks xs h there.0 i m (omega (arith, within, short)) low in
    subst (λ y. less (get_or xs i d) y ≡ false) (sym at ∙ there.2)
    (subst (λ y. less y (get_or xs there.0 m) ≡ false) (get_or_default xs i m d low) far)

-- so it is with labels in the order of the sweep
pub none_after : (xs : List Label) (i : ℕ) (d : Label) → IsSortedBy (λ a b. is_lt (sweep_cmp a b)) xs → i < length xs → (m : Label) → Contains (take i xs) m → NotBefore m (get_or xs i d)
none_after xs i d h low m there = none_behind (λ a b. is_lt (sweep_cmp a b)) sweep_ranks xs i d h low m there

-- the order of a list is nothing to what is left of it
pub undominated_moved : (xs ys : List Label) → IsPermutation xs ys → undominated ys ≡ undominated xs
undominated_moved xs ys moved =
    undominated_same ys xs (λ l there. Contains-permutation xs ys l moved there)
    (λ l there. (l, Contains-permutation ys xs l (IsPermutation-sym xs ys moved) there, dominates_itself l))
