-- Labels that no different one dominates.
use Rattle.std.proofs.Common.{◌≡◌, ◌∙◌, ℕ, ⊎_elim, List, [], ◌∷◌, Bool, true, false, not, ◌&&◌, refl, sym, ap, subst, arith}
use Rattle.std.specs.Prelude.{ℤ, ◌≤ℤ◌, int_le, nat_le}
use Rattle.std.specs.List.{Contains, list_any}
use Rattle.std.specs.List.Sorted.{IsStrictlySortedBy}
use Rattle.std.proofs.lemmas.Bool.{and_from, and_parts, cases_Bool, false≢true, leb-true, le-leb, not-true, not_from_false, false_from_ne_true}
use Rattle.std.proofs.lemmas.Int.{ints}
use Rattle.std.proofs.lemmas.Cmp.{eq_by_cmp_equiv}
use Rattle.std.proofs.lemmas.Map.Views.{Contains-from_any, list_any-from_Contains, tells_apart}
use Rattle.std.proofs.lemmas.List.Folds.{Any-from_list_any, list_any-from_Any}
use Rattle.std.proofs.lemmas.List.Kept.{IsStrictlySortedBy-filter}
use Rattle.lab_model.proofs.Orders.{≤ℤ_trans}
use Rattle.lab_model.specs.declared.label.Label.{Label}
use Rattle.labels.specs.Labels.{Dominates, dominates}
use Rattle.labels.specs.Frontier.{IsKept, beats, in_order, is_kept, is_same, label_cmp, undominated}
use Rattle.labels.specs.Covers.{HasAbove}
use Rattle.labels.proofs.Order.{in_order_any, in_order_sorted, label_exact, label_total, sorted_same}
use Rattle.labels.proofs.Walks.{at_head, at_tail, first_or_rest, from_filter, in_filter, none_at}

-- ---- dominance, as a test and as a fact

int_le_true : (a b : ℤ) → int_le a b ≡ true → a ≤ℤ b
int_le_true a b h = grind (arith, ints)

le_int_le : (a b : ℤ) → a ≤ℤ b → int_le a b ≡ true
le_int_le a b h = grind (arith, ints)

-- where the test passes
pub dominates_true : (a b : Label) → dominates a b ≡ true → Dominates a b
dominates_true a b e =
    let two = and_parts (nat_le a.t b.t && nat_le a.p b.p) (int_le b.v a.v) e in
    let one = and_parts (nat_le a.t b.t) (nat_le a.p b.p) two.0 in
    (leb-true a.t b.t one.0, leb-true a.p b.p one.1, int_le_true b.v a.v two.1)

-- and only there
pub dominates_from : (a b : Label) → Dominates a b → dominates a b ≡ true
dominates_from a b h =
    and_from (nat_le a.t b.t && nat_le a.p b.p) (int_le b.v a.v)
    (and_from (nat_le a.t b.t) (nat_le a.p b.p) (le-leb a.t b.t h.0) (le-leb a.p b.p h.1)) (le_int_le b.v a.v h.2)

z_both : (a b : ℤ) → a ≤ℤ b → b ≤ℤ a → a ≡ b
z_both a b h k = omega (arith, ints)

-- what dominates a dominator dominates
pub dominates_trans : (a b c : Label) → Dominates a b → Dominates b c → Dominates a c
dominates_trans a b c h k = let x = h.0 in let y = k.0 in let u = h.1 in let w = k.1 in (omega (arith, x, y), omega (arith, u, w), ≤ℤ_trans c.v b.v a.v k.2 h.2)

label_same : (a b : Label) → a.t ≡ b.t → a.p ≡ b.p → a.v ≡ b.v → a ≡ b
label_same a b x y z =
    ap (λ (n : ℕ). record { t = n; p = a.p; v = a.v }) x ∙ ap (λ (n : ℕ). record { t = b.t; p = n; v = a.v }) y ∙ ap (λ (n : ℤ). record { t = b.t; p = b.p; v = n }) z

-- a label dominates itself
pub dominates_itself : (a : Label) → Dominates a a
dominates_itself a = (omega arith, omega arith, itself a.v)
  where
    itself : (z : ℤ) → z ≤ℤ z
    itself z = omega (arith, ints)

-- labels that dominate each other are one
pub dominates_both : (a b : Label) → Dominates a b → Dominates b a → a ≡ b
dominates_both a b h k = let x = h.0 in let y = k.0 in let u = h.1 in let w = k.1 in label_same a b (omega (arith, x, y)) (omega (arith, u, w)) (z_both a.v b.v k.2 h.2)

-- ---- each label of a list has one that dominates it and that no different one dominates

abbrev Topped : List Label → Label → Type 0
Topped ls l = (m : Label) × Contains ls m × Dominates m l × IsKept ls m

-- what nothing of xs but itself dominates, and x doesn't, or is it
kept_more : (x : Label) (xs : List Label) (m : Label) → IsKept xs m → (Dominates x m → x ≡ m) → IsKept (x ∷ xs) m
kept_more x xs m h first = λ n there d. ⊎_elim (λ (e : x ≡ n). sym e ∙ first (subst (λ y. Dominates y m) (sym e) d)) (λ rest. h n rest d) (first_or_rest x xs n there)

-- with x before a list: a label that was on top, or x in its place
over : (x : Label) (xs : List Label) (l m : Label) → Contains xs m → Dominates m l → IsKept xs m → Topped (x ∷ xs) l
over x xs l m there d kept =
    ⊎_elim
    (λ (e : dominates x m ≡ true).
    let above = dominates_true x m e in (
      x,
      at_head x xs,
      dominates_trans x m l above d,
      kept_more x xs x (λ n in_xs over_x. let same = kept n in_xs (dominates_trans n x m over_x above) in
          same ∙ sym (dominates_both x m above (subst (λ y. Dominates y x) same over_x))) (λ itself. refl),
    ))
    (λ (e : dominates x m ≡ false). (m, at_tail x xs m there, d, kept_more x xs m kept (λ above. absurd (false≢true (sym e ∙ dominates_from x m above)))))
    (cases_Bool (dominates x m))

-- the one that dominates a label of the list
pub dominator : (ls : List Label) (l : Label) → Contains ls l → Topped ls l
dominator [] l h = absurd (none_at l h)
dominator (x ∷ xs) l h =
    ⊎_elim
    (λ (e : x ≡ l).
    ⊎_elim
    (λ (some : list_any (λ m. dominates m x) xs ≡ true).
    let found = Any-from_list_any (λ m. dominates m x) xs some in
    let top = dominator xs found.1 (found.0, found.2, found.3) in
    over x xs l top.0 top.1 (dominates_trans top.0 found.1 l top.2 (subst (λ y. Dominates found.1 y) e (dominates_true found.1 x found.4))) top.3)
    (λ (none : list_any (λ m. dominates m x) xs ≡ false). (
      x,
      at_head x xs,
      subst (λ y. Dominates x y) e (dominates_itself x),
      kept_more x xs x (λ n there d. absurd (false≢true (sym none ∙ list_any-from_Any (λ m. dominates m x) xs (there.0, n, there.1, there.2, dominates_from n x d)))) (λ same. refl),
    ))
    (cases_Bool (list_any (λ m. dominates m x) xs)))
    (λ (rest : Contains xs l). let top = dominator xs l rest in over x xs l top.0 top.1 top.2 top.3) (first_or_rest x xs l h)

-- ---- what is kept of a list

-- labels that the test takes for the same are one
pub same_any : (l m : Label) → is_same l m ≡ true → l ≡ m
same_any = tells_apart label_exact

-- putting in order adds nothing
pub in_order_has : (ls : List Label) (l : Label) → Contains (in_order ls) l → Contains ls l
in_order_has ls l h = Contains-from_any same_any l ls (sym (in_order_any (is_same l) ls) ∙ list_any-from_Contains (eq_by_cmp_equiv label_total) l (in_order ls) h)

-- and drops nothing
pub has_in_order : (ls : List Label) (l : Label) → Contains ls l → Contains (in_order ls) l
has_in_order ls l h = Contains-from_any same_any l (in_order ls) (in_order_any (is_same l) ls ∙ list_any-from_Contains (eq_by_cmp_equiv label_total) l ls h)

-- where the test of keeping passes
pub kept_true : (ls : List Label) (l : Label) → is_kept ls l ≡ true → IsKept ls l
kept_true ls l e m there d =
    let none = not-true (list_any (λ n. beats n l) ls) e in
    ⊎_elim (λ (same : is_same m l ≡ true). same_any m l same)
    (λ (other : is_same m l ≡ false).
    absurd (false≢true (sym none ∙ list_any-from_Any (λ n. beats n l) ls (there.0, m, there.1, there.2, and_from (dominates m l) (not (is_same m l)) (dominates_from m l d) (not_from_false (is_same m l) other))))) (cases_Bool (is_same m l))

-- and only there
pub kept_from : (ls : List Label) (l : Label) → IsKept ls l → is_kept ls l ≡ true
kept_from ls l h =
    not_from_false (list_any (λ n. beats n l) ls) (false_from_ne_true (list_any (λ n. beats n l) ls) (λ some.
    let found = Any-from_list_any (λ n. beats n l) ls some in
    let parts = and_parts (dominates found.1 l) (not (is_same found.1 l)) found.4 in
    let same = h found.1 (found.0, found.2, found.3) (dominates_true found.1 l parts.0) in
    let other = not-true (is_same found.1 l) parts.1 in
    false≢true (sym other ∙ ap (λ m. is_same m l) same ∙ (eq_by_cmp_equiv label_total).refl l)))

-- what is left stands in order
pub undominated_sorted : (ls : List Label) → IsStrictlySortedBy label_cmp (undominated ls)
undominated_sorted ls = IsStrictlySortedBy-filter label_cmp (is_kept ls) (in_order ls) (in_order_sorted ls)

-- what is left is in the list and kept
pub undominated_in : (ls : List Label) (l : Label) → Contains (undominated ls) l → Contains ls l × IsKept ls l
undominated_in ls l h = let r = from_filter (is_kept ls) (in_order ls) l h in (in_order_has ls l r.0, kept_true ls l r.1)

-- what is in the list and kept is left
pub in_undominated : (ls : List Label) (l : Label) → Contains ls l → IsKept ls l → Contains (undominated ls) l
in_undominated ls l h kept = in_filter (is_kept ls) (in_order ls) l (has_in_order ls l h) (kept_from ls l kept)

bool_same : (a b : Bool) → (a ≡ true → b ≡ true) → (b ≡ true → a ≡ true) → a ≡ b
bool_same true b h k = sym (h refl)
bool_same false true h k = k refl
bool_same false false h k = refl

-- two lists in order with the same labels are one
pub same_labels : (xs ys : List Label) → IsStrictlySortedBy label_cmp xs → IsStrictlySortedBy label_cmp ys → ((l : Label) → Contains xs l → Contains ys l) → ((l : Label) → Contains ys l → Contains xs l) → xs ≡ ys
same_labels xs ys h k to from =
    sorted_same xs ys h k (λ l. bool_same (list_any (is_same l) xs) (list_any (is_same l) ys)
    (λ e. list_any-from_Contains (eq_by_cmp_equiv label_total) l ys (to l (Contains-from_any same_any l xs e)))
    (λ e. list_any-from_Contains (eq_by_cmp_equiv label_total) l xs (from l (Contains-from_any same_any l ys e))))

-- some of the labels that dominate all of them: the same is left
pub undominated_same : (xs ys : List Label) → ((l : Label) → Contains ys l → Contains xs l) → ((l : Label) → Contains xs l → HasAbove ys l) → undominated xs ≡ undominated ys
undominated_same xs ys within above =
    same_labels (undominated xs) (undominated ys) (undominated_sorted xs) (undominated_sorted ys)
    (λ l h.
    let r = undominated_in xs l h in
    let up = above l r.0 in
    let same = r.1 up.0 (within up.0 up.1) up.2 in
    in_undominated ys l (subst (Contains ys) same up.1) (λ m there d. r.1 m (within m there) d))
    (λ l h.
    let r = undominated_in ys l h in
    in_undominated xs l (within l r.0) (λ m there d.
    let up = above m there in
    let same = r.1 up.0 up.1 (dominates_trans up.0 m l up.2 d) in
    dominates_both m l d (subst (λ y. Dominates y m) same up.2)))

-- a list in order with just the kept labels is what is left
pub undominated_is : (ls xs : List Label) → IsStrictlySortedBy label_cmp xs → ((l : Label) → Contains xs l → Contains ls l × IsKept ls l) → ((l : Label) → Contains ls l → IsKept ls l → Contains xs l) → xs ≡ undominated ls
undominated_is ls xs h to from =
    same_labels xs (undominated ls) h (undominated_sorted ls) (λ l there. let r = to l there in in_undominated ls l r.0 r.1) (λ l there. let r = undominated_in ls l there in from l r.0 r.1)

le_other : (a b : ℤ) → int_le a b ≡ false → b ≤ℤ a
le_other a b h = grind (arith, ints)

-- something is left above each label
pub above_undominated : (ls : List Label) (l : Label) → Contains ls l → HasAbove (undominated ls) l
above_undominated ls l h = let top = dominator ls l h in (top.0, in_undominated ls top.0 top.1 top.3, top.2)

-- one value for a time and a delay
pub one_value : (ls : List Label) (a b : Label) → Contains (undominated ls) a → Contains (undominated ls) b → a.t ≡ b.t → a.p ≡ b.p → a ≡ b
one_value ls a b h k t p =
    let x = undominated_in ls a h in
    let y = undominated_in ls b k in
    ⊎_elim (λ (less : int_le a.v b.v ≡ true). sym (x.1 b y.0 (omega (arith, t), omega (arith, p), int_le_true a.v b.v less)))
    (λ (more : int_le a.v b.v ≡ false). y.1 a x.0 (omega (arith, t), omega (arith, p), le_other a.v b.v more)) (cases_Bool (int_le a.v b.v))
