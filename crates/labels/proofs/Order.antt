-- Labels in order, without repeats.
use Rattle.std.proofs.Common.{◌≡◌, ◌∙◌, ℕ, List, [], ◌∷◌, Bool, true, false, ◌||◌, refl, sym, ap, subst, Ordering, Less, Equal, Greater}
use Rattle.std.specs.Prelude.{ℤ, fold}
use Rattle.std.specs.List.{All, AllByRecursion, list_any}
use Rattle.std.specs.List.Sorted.{IsStrictlySortedBy}
use Rattle.std.specs.Cmp.{IsTotalOrder}
use Rattle.std.specs.Ordering.{eq_by_cmp, int_cmp, match_ordering, nat_cmp, ordering_reverse, ordering_then}
use Rattle.std.specs.BTreeSet.{insert_key}
use Rattle.std.proofs.lemmas.Cmp.{int_cmp_total, nat_cmp_total, on_total, then_total}
use Rattle.std.proofs.lemmas.Map.Keys.{sorted_head, sorted_tail}
use Rattle.std.proofs.lemmas.Map.Lookups.{CmpEqualImpliesEq, exact_pairs, exact_signed, exact_unsigned, btree_set_from_contains}
use Rattle.std.proofs.lemmas.Map.Views.{All-insert_key}
use Rattle.std.proofs.lemmas.List.Elements.{All-from_recursion, All-weaker, recursion_from_All}
use Rattle.lab_model.specs.declared.label.Label.{Label}
use Rattle.labels.specs.Frontier.{in_order, label_cmp}

-- the order of labels is total
pub label_total : IsTotalOrder label_cmp
label_total = then_total (on_total (λ (l : Label). l.t) nat_cmp_total) (then_total (on_total (λ (l : Label). l.p) nat_cmp_total) (on_total (λ (l : Label). l.v) int_cmp_total))

-- labels that compare alike are one
pub label_exact : CmpEqualImpliesEq label_cmp
label_exact a b h =
    ap (λ (x : ℕ × (ℕ × ℤ)). record { t = x.0; p = x.1.0; v = x.1.1 })
    (exact_pairs nat_cmp (λ (x y : ℕ × ℤ). ordering_then (nat_cmp x.0 y.0) (int_cmp x.1 y.1)) exact_unsigned (exact_pairs nat_cmp int_cmp exact_unsigned exact_signed) (a.t, (a.p, a.v)) (b.t, (b.p, b.v)) h)

-- ---- one more label

below_all : (k x : Label) (xs : List Label) → label_cmp k x ≡ Less → AllByRecursion (λ y. label_cmp x y ≡ Less) xs → All (λ y. label_cmp k y ≡ Less) xs
below_all k x xs low h = All-weaker (λ y. label_cmp x y ≡ Less) (λ y. label_cmp k y ≡ Less) (λ y e. label_total.trans k x y low e) xs (All-from_recursion (λ y. label_cmp x y ≡ Less) xs h)

insert_sorted_by : (k x : Label) (xs : List Label) (o : Ordering) → label_cmp k x ≡ o → IsStrictlySortedBy label_cmp (x ∷ xs) → IsStrictlySortedBy label_cmp (insert_key label_cmp xs k)
    → IsStrictlySortedBy label_cmp (match_ordering o (k ∷ x ∷ xs) (x ∷ xs) (x ∷ insert_key label_cmp xs k))
unfolding IsStrictlySortedBy
insert_sorted_by k x xs Less e h rest = ((e, recursion_from_All (λ y. label_cmp k y ≡ Less) xs (below_all k x xs e (sorted_head label_cmp x xs h))), h)
insert_sorted_by k x xs Equal e h rest = h
insert_sorted_by k x xs Greater e h rest = (
  recursion_from_All (λ y. label_cmp x y ≡ Less) (insert_key label_cmp xs k)
      (All-insert_key label_cmp k (λ y. label_cmp x y ≡ Less) xs (All-from_recursion (λ y. label_cmp x y ≡ Less) xs (sorted_head label_cmp x xs h)) (label_total.antisymm x k ∙ ap ordering_reverse e)),
  rest,
)

insert_sorted : (k : Label) (xs : List Label) → IsStrictlySortedBy label_cmp xs → IsStrictlySortedBy label_cmp (insert_key label_cmp xs k)
unfolding IsStrictlySortedBy
insert_sorted k [] h = (tt, tt)
insert_sorted k (x ∷ xs) h = insert_sorted_by k x xs (label_cmp k x) refl h (insert_sorted k xs (sorted_tail label_cmp x xs h))

or_swap : (a b c : Bool) → (a || (b || c)) ≡ (b || (a || c))
or_swap true true c = refl
or_swap true false c = refl
or_swap false b c = refl

or_twice : (a c : Bool) → (a || c) ≡ (a || (a || c))
or_twice true c = refl
or_twice false c = refl

insert_any_by : (p : Label → Bool) (k x : Label) (xs : List Label) (o : Ordering) → label_cmp k x ≡ o → list_any p (insert_key label_cmp xs k) ≡ (p k || list_any p xs)
    → list_any p (match_ordering o (k ∷ x ∷ xs) (x ∷ xs) (x ∷ insert_key label_cmp xs k)) ≡ (p k || list_any p (x ∷ xs))
insert_any_by p k x xs Less e rest = refl
insert_any_by p k x xs Equal e rest = subst (λ y. (p x || list_any p xs) ≡ (p y || (p x || list_any p xs))) (sym (label_exact k x e)) (or_twice (p x) (list_any p xs))
insert_any_by p k x xs Greater e rest = ap (λ b. p x || b) rest ∙ or_swap (p x) (p k) (list_any p xs)

insert_any : (p : Label → Bool) (k : Label) (xs : List Label) → list_any p (insert_key label_cmp xs k) ≡ (p k || list_any p xs)
insert_any p k [] = refl
insert_any p k (x ∷ xs) = insert_any_by p k x xs (label_cmp k x) refl (insert_any p k xs)

-- ---- all of them

onto_sorted : (ls xs : List Label) → IsStrictlySortedBy label_cmp xs → IsStrictlySortedBy label_cmp (fold (λ ys l. insert_key label_cmp ys l) xs ls)
onto_sorted [] xs h = h
onto_sorted (l ∷ ls) xs h = onto_sorted ls (insert_key label_cmp xs l) (insert_sorted l xs h)

none_sorted : IsStrictlySortedBy label_cmp []
unfolding IsStrictlySortedBy
none_sorted = tt

-- what stands in order is strictly sorted
pub in_order_sorted : (ls : List Label) → IsStrictlySortedBy label_cmp (in_order ls)
in_order_sorted ls = onto_sorted ls [] none_sorted

or_apart : (a b c : Bool) → (b || (a || c)) ≡ ((a || b) || c)
or_apart true true c = refl
or_apart true false c = refl
or_apart false b c = refl

onto_any : (p : Label → Bool) (ls xs : List Label) → list_any p (fold (λ ys l. insert_key label_cmp ys l) xs ls) ≡ (list_any p ls || list_any p xs)
onto_any p [] xs = refl
onto_any p (l ∷ ls) xs = onto_any p ls (insert_key label_cmp xs l) ∙ ap (λ b. list_any p ls || b) (insert_any p l xs) ∙ or_apart (p l) (list_any p ls) (list_any p xs)

or_none : (a : Bool) → (a || false) ≡ a
or_none true = refl
or_none false = refl

-- a test finds in them what it finds in the labels
pub in_order_any : (p : Label → Bool) (ls : List Label) → list_any p (in_order ls) ≡ list_any p ls
in_order_any p ls = onto_any p ls [] ∙ or_none (list_any p ls)

-- what is in order and has the same labels is the same
pub sorted_same : (xs ys : List Label) → IsStrictlySortedBy label_cmp xs → IsStrictlySortedBy label_cmp ys → ((l : Label) → list_any (eq_by_cmp label_cmp l) xs ≡ list_any (eq_by_cmp label_cmp l) ys) → xs ≡ ys
sorted_same xs ys h k same = btree_set_from_contains label_total (record { keys = xs }) (record { keys = ys }) h k same label_exact
