-- How often a node is in lists of nodes.
use Rattle.std.proofs.Common.{◌≡◌, ℕ, zero, suc, ◌+◌, ◌<◌, ◌≤◌, cond, List, [], ◌∷◌, Option, None, Some, length, get_or, set, refl, sym, ap, subst, ⊎_elim, arith, length-set, get_or-set_other}
use Rattle.std.specs.Prelude.{IfSome}
use Rattle.std.specs.List.{Contains, sum_by}
use Rattle.std.proofs.lemmas.Bool.{eq-eqb, ne_eqb, cases_eq, cond-true, cond-false}
use Rattle.std.proofs.lemmas.List.Sums.{sum_by-cons, sum_by-set, get_or-le-sum_by}
use Rattle.label_arena.specs.Chains.{one_at, same_node, times}
use Rattle.label_arena.specs.Links.{tally}
use Rattle.label_arena.specs.declared.node.NodeId.{NodeId}

-- nodes of one number are one
pub same_id : (a b : NodeId) → a.0 ≡ b.0 → a ≡ b
same_id a b e = ap (λ (n : ℕ). let i : NodeId = record { 0 = n } in i) e

-- a number is counted once at its node
pub one_here : (k : ℕ) (i : NodeId) → k ≡ i.0 → one_at k i ≡ 1
one_here k i e = cond-true _ _ _ (eq-eqb k i.0 e)

-- and not at another
pub one_elsewhere : (k : ℕ) (i : NodeId) → (k ≡ i.0 → ⊥) → one_at k i ≡ 0
one_elsewhere k i ne = cond-false _ _ _ (ne_eqb k i.0 ne)

-- what is absent from a list is neither its first nor in the rest
pub absent_parts : (k : ℕ) (i : NodeId) (is : List NodeId) → times k (i ∷ is) ≡ 0 → (k ≡ i.0 → ⊥) × (times k is ≡ 0)
absent_parts k i is z = (λ e. omega (arith, one_here k i e, z), omega (arith, z))

-- a list counts its first node
pub counted_first : (k : ℕ) (i : NodeId) (is : List NodeId) → k ≡ i.0 → times k (i ∷ is) ≡ 1 + times k is
counted_first k i is e = ap (λ (n : ℕ). n + times k is) (one_here k i e)

-- and no other as the first
pub counted_rest : (k : ℕ) (i : NodeId) (is : List NodeId) → (k ≡ i.0 → ⊥) → times k (i ∷ is) ≡ times k is
counted_rest k i is ne =
    let e : one_at k i ≡ 0 = one_elsewhere k i ne in
    omega (arith, e)

-- what is at a place of a list is counted there
pub counted_at : (is : List NodeId) (k : NodeId) (n : ℕ) → n < length is → get_or is n k ≡ k → 0 < times k.0 is
counted_at [] k n lt e = absurd (omega (arith, lt))
counted_at (i ∷ is) k zero lt e =
    let one = one_here k.0 i (ap (λ (m : NodeId). m.0) (sym e)) in
    omega (arith, one)
counted_at (i ∷ is) k (suc n) lt e =
    let rest = counted_at is k n (omega (arith, lt)) e in
    omega (arith, rest)

-- what is in a list is counted there
pub counted : (is : List NodeId) (k : NodeId) → Contains is k → 0 < times k.0 is
counted is k h = counted_at is k h.0 h.1 h.2

-- a list of which each element is counted as 0
pub all_zero : {X : Type 0} (f : X → ℕ) (d : X) (xs : List X) → ((c : ℕ) → c < length xs → f (get_or xs c d) ≡ 0) → sum_by f xs ≡ 0
all_zero f d [] h = refl
all_zero f d (x ∷ xs) h =
    let first : f x ≡ 0 = h 0 (omega arith) in
    let rest : sum_by f xs ≡ 0 = all_zero f d xs (λ c lt. h (suc c) (omega (arith, lt))) in
    let both = sum_by-cons f x xs in
    omega (arith, first, rest, both)

-- ---- chains and the free list together

-- the count stays where a chain and the free list change by the same
pub tally_kept : (f : List NodeId → ℕ) (chains : List (List NodeId)) (c : ℕ) (is : List NodeId) (frees others : List NodeId) → c < length chains
    → f is + f others ≡ f (get_or chains c []) + f frees → tally f (set chains c is) others ≡ tally f chains frees
tally_kept f chains c is frees others lt e =
    let one = sum_by-set f chains c is [] lt in
    omega (arith, one, e)

-- what is counted in a chain is at most what is counted in all
pub in_tally : (f : List NodeId → ℕ) (chains : List (List NodeId)) (c : ℕ) (frees : List NodeId) → c < length chains → f (get_or chains c []) + f frees ≤ tally f chains frees
in_tally f chains c frees lt =
    let one = get_or-le-sum_by f chains c [] lt in
    omega (arith, one)

-- what is counted in two chains is at most what is counted in all
pub two_in_tally : (f : List NodeId → ℕ) (chains : List (List NodeId)) (c d : ℕ) (frees : List NodeId) → f [] ≡ 0 → c < length chains → d < length chains → (c ≡ d → ⊥)
    → f (get_or chains c []) + f (get_or chains d []) ≤ tally f chains frees
two_in_tally f chains c d frees nil lc ld ne =
    let without = sum_by-set f chains c [] [] lc in
    let within : d < length (set chains c []) = rw length-set ld in
    let other = get_or-set_other chains c d [] [] (λ e. ne (sym e)) in
    let at_most : f (get_or chains d []) ≤ sum_by f (set chains c []) =
    subst (λ (is : List NodeId). f is ≤ sum_by f (set chains c [])) other (get_or-le-sum_by f (set chains c []) d [] within) in
    omega (arith, without, nil, at_most)

-- a node of a chain is in no other
pub not_in_other : (k : ℕ) (chains : List (List NodeId)) (c d : ℕ) (frees : List NodeId) → c < length chains → d < length chains → (d ≡ c → ⊥)
    → tally (times k) chains frees ≡ 1 → 0 < times k (get_or chains c []) → times k (get_or chains d []) ≡ 0
not_in_other k chains c d frees lc ld ne one here =
    let both = two_in_tally (times k) chains c d frees refl lc ld (λ e. ne (sym e)) in
    omega (arith, both, one, here)

-- a node of a chain is not free
pub not_free : (k : ℕ) (chains : List (List NodeId)) (c : ℕ) (frees : List NodeId) → c < length chains
    → tally (times k) chains frees ≡ 1 → 0 < times k (get_or chains c []) → times k frees ≡ 0
not_free k chains c frees lc one here =
    let both = in_tally (times k) chains c frees lc in
    omega (arith, both, one, here)

-- a free node is in no chain
pub not_in_chain : (k : ℕ) (chains : List (List NodeId)) (c : ℕ) (frees : List NodeId) → c < length chains
    → tally (times k) chains frees ≡ 1 → 0 < times k frees → times k (get_or chains c []) ≡ 0
not_in_chain k chains c frees lc one here =
    let both = in_tally (times k) chains c frees lc in
    omega (arith, both, one, here)

-- a node of a chain is there once
pub there_once : (k : ℕ) (chains : List (List NodeId)) (c : ℕ) (frees : List NodeId) → c < length chains
    → tally (times k) chains frees ≡ 1 → 0 < times k (get_or chains c []) → times k (get_or chains c []) ≡ 1
there_once k chains c frees lc one here =
    let both = in_tally (times k) chains c frees lc in
    omega (arith, both, one, here)

-- ---- one node more, and one less

-- the nodes with one more at a place
abbrev pub ids_with : Option NodeId → NodeId → List NodeId → List NodeId
ids_with None f is = f ∷ is
ids_with (Some k) f [] = []
ids_with (Some k) f (i ∷ is) = cond (same_node k i) (i ∷ f ∷ is) (i ∷ ids_with (Some k) f is)

-- all but the first
abbrev pub behind_first_id : List NodeId → List NodeId
behind_first_id [] = []
behind_first_id (i ∷ is) = is

-- the nodes without the one at a place
abbrev pub ids_without : Option NodeId → List NodeId → List NodeId
ids_without None is = behind_first_id is
ids_without (Some k) [] = []
ids_without (Some k) (i ∷ is) = cond (same_node k i) (i ∷ behind_first_id is) (i ∷ ids_without (Some k) is)

-- a place in a list: behind a node that is there, or first
abbrev pub IsPlaceIn : List NodeId → Option NodeId → Type 0
IsPlaceIn is after = IfSome after (λ k. 0 < times k.0 is)

-- at the node of the place
pub with_at : (k f i : NodeId) (is : List NodeId) → k.0 ≡ i.0 → ids_with (Some k) f (i ∷ is) ≡ i ∷ f ∷ is
with_at k f i is e = cond-true _ _ _ (eq-eqb k.0 i.0 e)

-- before it
pub with_later : (k f i : NodeId) (is : List NodeId) → (k.0 ≡ i.0 → ⊥) → ids_with (Some k) f (i ∷ is) ≡ i ∷ ids_with (Some k) f is
with_later k f i is ne = cond-false _ _ _ (ne_eqb k.0 i.0 ne)

-- at the node of the place
pub without_at : (k i : NodeId) (is : List NodeId) → k.0 ≡ i.0 → ids_without (Some k) (i ∷ is) ≡ i ∷ behind_first_id is
without_at k i is e = cond-true _ _ _ (eq-eqb k.0 i.0 e)

-- before it
pub without_later : (k i : NodeId) (is : List NodeId) → (k.0 ≡ i.0 → ⊥) → ids_without (Some k) (i ∷ is) ≡ i ∷ ids_without (Some k) is
without_later k i is ne = cond-false _ _ _ (ne_eqb k.0 i.0 ne)

-- one more is counted once more
pub with_counts : (f : NodeId → ℕ) (g : List NodeId → ℕ) (step : (i : NodeId) (is : List NodeId) → g (i ∷ is) ≡ f i + g is) (after : Option NodeId) (n : NodeId) (is : List NodeId)
    → IsPlaceIn is after → g (ids_with after n is) ≡ f n + g is
with_counts f g step None n is h = step n is
with_counts f g step (Some k) n [] h = absurd (omega (arith, h))
with_counts f g step (Some k) n (i ∷ is) h =
    ⊎_elim
    (λ (e : k.0 ≡ i.0).
    let all = ap g (with_at k n i is e) in
    let one = step i (n ∷ is) in
    let two = step n is in
    let old = step i is in
    omega (arith, all, one, two, old))
    (λ (ne : k.0 ≡ i.0 → ⊥).
    let all = ap g (with_later k n i is ne) in
    let one = step i (ids_with (Some k) n is) in
    let less : 0 < times k.0 is = subst (λ (m : ℕ). 0 < m) (counted_rest k.0 i is ne) h in
    let rest = with_counts f g step (Some k) n is less in
    let old = step i is in
    omega (arith, all, one, rest, old))
    (cases_eq k.0 i.0)
