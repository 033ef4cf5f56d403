-- Parents stand in sealed chains, and stay there.
use Rattle.std.proofs.Common.{◌≡◌, ℕ, zero, suc, ◌<◌, ◌⊎◌, Bool, true, false, cond, List, [], ◌∷◌, Option, None, Some, length, get_or, set, map, refl, sym, ◌∙◌, ap, subst, inl, inr, ⊎_elim, arith, get_or-set_other, get_or-set_same}
use Rattle.std.specs.List.{Contains}
use Rattle.std.proofs.lemmas.Bool.{cases_eq, cond_both, false≢true}
use Rattle.std.proofs.lemmas.List.{get_or-map, length-map}
use Rattle.label_arena.specs.Chains.{HasParent, HasParents, Holdings, IsOpen, LinkedChain, Standing, StandsSealed, behind_first, chain_at, first_standing, ids_of, linked_chain, nodes_holding, nodes_with, nodes_without, same_node, standing_behind}
use Rattle.label_arena.specs.declared.node.NodeId.{NodeId}

-- an element of a list at a place is its first or one of the rest
pub place_in : {X : Type 0} (y : X) (ys : List X) (x : X) (n : ℕ) → n < length (y ∷ ys) → get_or (y ∷ ys) n x ≡ x → (y ≡ x) ⊎ Contains ys x
place_in y ys x zero lt e = inl e
place_in y ys x (suc n) lt e = inr (n, omega (arith, lt), e)

-- an element of a list is its first or one of the rest
pub first_or_rest : {X : Type 0} (y : X) (ys : List X) (x : X) → Contains (y ∷ ys) x → (y ≡ x) ⊎ Contains ys x
first_or_rest y ys x h = place_in y ys x h.0 h.1 h.2

-- the first element
pub at_first : {X : Type 0} (x : X) (xs : List X) → Contains (x ∷ xs) x
at_first x xs = (0, omega arith, refl)

-- an element of the rest
pub in_rest : {X : Type 0} (y : X) (ys : List X) (x : X) → Contains ys x → Contains (y ∷ ys) x
in_rest y ys x h = (suc h.0, omega (arith, h.1), h.2)

-- a list that has no elements
pub in_none : {X : Type 0} (x : X) → Contains [] x → ⊥
in_none x h = omega (arith, h.1)

-- another chain than the one that was set
pub other_chain : (a : Holdings) (c d : ℕ) (r : LinkedChain) (spare : ℕ) → (d ≡ c → ⊥) → chain_at (record { chains = set a.chains c r; spare = spare }) d ≡ chain_at a d
other_chain a c d r spare ne = get_or-set_other a.chains c d r (linked_chain [] false) ne

-- the chain that was set
pub set_chain : (a : Holdings) (c : ℕ) (r : LinkedChain) (spare : ℕ) → c < length a.chains → chain_at (record { chains = set a.chains c r; spare = spare }) c ≡ r
set_chain a c r spare lt = get_or-set_same a.chains c r (linked_chain [] false) lt

-- what stands in a sealed chain stays there where an open one changes
pub sealed_stays : (a : Holdings) (c : ℕ) (r : LinkedChain) (spare : ℕ) (k : NodeId) → IsOpen a c → StandsSealed a k → StandsSealed (record { chains = set a.chains c r; spare = spare }) k
sealed_stays a c r spare k o h =
    let ne : h.0 ≡ c → ⊥ = λ e. false≢true (sym o.1 ∙ (ap (λ (d : ℕ). (chain_at a d).sealed) (sym e) ∙ h.1)) in
    let same = sym (other_chain a c h.0 r spare ne) in
    (h.0, subst (λ (x : LinkedChain). x.sealed ≡ true) same h.1, subst (λ (x : LinkedChain). Contains (map (λ (s : Standing). s.node) x.nodes) k) same h.2)

-- so a parent stays one
pub parent_stays : (a : Holdings) (c : ℕ) (r : LinkedChain) (spare : ℕ) (parent : Option NodeId) → IsOpen a c → HasParent a parent → HasParent (record { chains = set a.chains c r; spare = spare }) parent
parent_stays a c r spare None o h = tt
parent_stays a c r spare (Some k) o h = sealed_stays a c r spare k o h

-- so all parents stand in sealed chains where an open one changes to nodes whose parents did
pub parents_stay : (a : Holdings) (c : ℕ) (ns : List Standing) (flag : Bool) (spare : ℕ) → IsOpen a c → HasParents a → ((s : Standing) → Contains ns s → HasParent a s.parent)
    → HasParents (record { chains = set a.chains c (linked_chain ns flag); spare = spare })
parents_stay a c ns flag spare o all new d s h =
    let r : LinkedChain = linked_chain ns flag in
    parent_stays a c r spare s.parent o
    (⊎_elim
    (λ (e : d ≡ c).
    let at : chain_at (record { chains = set a.chains c r; spare = spare }) d ≡ r =
    ap (λ (x : ℕ). chain_at (record { chains = set a.chains c r; spare = spare }) x) e ∙ set_chain a c r spare o.0 in
    new s (subst (λ (x : LinkedChain). Contains x.nodes s) at h))
    (λ (ne : d ≡ c → ⊥). all d s (subst (λ (x : LinkedChain). Contains x.nodes s) (other_chain a c d r spare ne) h))
    (cases_eq d c))

-- the nodes with one more are it and those before
pub from_with : (after : Option NodeId) (s : Standing) (ns : List Standing) (x : Standing) → Contains (nodes_with after s ns) x → (s ≡ x) ⊎ Contains ns x
from_with None s ns x h = first_or_rest s ns x h
from_with (Some k) s [] x h = absurd (in_none x h)
from_with (Some k) s (n ∷ ns) x h =
    cond_both (same_node k n.node) (n ∷ s ∷ ns) (n ∷ nodes_with (Some k) s ns) (λ (zs : List Standing). Contains zs x → (s ≡ x) ⊎ Contains (n ∷ ns) x)
    (λ t w. ⊎_elim
    (λ (e : n ≡ x). inr (subst (λ (y : Standing). Contains (n ∷ ns) y) e (at_first n ns)))
    (λ (r : Contains (s ∷ ns) x). ⊎_elim (λ (e : s ≡ x). inl e) (λ (q : Contains ns x). inr (in_rest n ns x q)) (first_or_rest s ns x r))
    (first_or_rest n (s ∷ ns) x w))
    (λ t w. ⊎_elim
    (λ (e : n ≡ x). inr (subst (λ (y : Standing). Contains (n ∷ ns) y) e (at_first n ns)))
    (λ (r : Contains (nodes_with (Some k) s ns) x). ⊎_elim (λ (e : s ≡ x). inl e) (λ (q : Contains ns x). inr (in_rest n ns x q)) (from_with (Some k) s ns x r))
    (first_or_rest n (nodes_with (Some k) s ns) x w)) h

-- all but the first are among all
pub from_behind : (ns : List Standing) (x : Standing) → Contains (behind_first ns) x → Contains ns x
from_behind [] x h = h
from_behind (n ∷ ns) x h = in_rest n ns x h

-- the nodes without one are among those before
pub from_without : (after : Option NodeId) (ns : List Standing) (x : Standing) → Contains (nodes_without after ns) x → Contains ns x
from_without None ns x h = from_behind ns x h
from_without (Some k) [] x h = h
from_without (Some k) (n ∷ ns) x h =
    cond_both (same_node k n.node) (n ∷ behind_first ns) (n ∷ nodes_without (Some k) ns) (λ (zs : List Standing). Contains zs x → Contains (n ∷ ns) x)
    (λ t w. ⊎_elim
    (λ (e : n ≡ x). subst (λ (y : Standing). Contains (n ∷ ns) y) e (at_first n ns))
    (λ (r : Contains (behind_first ns) x). in_rest n ns x (from_behind ns x r))
    (first_or_rest n (behind_first ns) x w))
    (λ t w. ⊎_elim
    (λ (e : n ≡ x). subst (λ (y : Standing). Contains (n ∷ ns) y) e (at_first n ns))
    (λ (r : Contains (nodes_without (Some k) ns) x). in_rest n ns x (from_without (Some k) ns x r))
    (first_or_rest n (nodes_without (Some k) ns) x w)) h

-- the nodes of which one holds something else are it and those before
pub from_holding : (s : Standing) (ns : List Standing) (x : Standing) → Contains (nodes_holding s ns) x → (s ≡ x) ⊎ Contains ns x
from_holding s [] x h = absurd (in_none x h)
from_holding s (n ∷ ns) x h =
    ⊎_elim
    (λ (e : cond (same_node s.node n.node) s n ≡ x).
    cond_both (same_node s.node n.node) s n (λ (z : Standing). z ≡ x → (s ≡ x) ⊎ Contains (n ∷ ns) x)
    (λ t w. inl w)
    (λ t w. inr (subst (λ (y : Standing). Contains (n ∷ ns) y) w (at_first n ns))) e)
    (λ (r : Contains (nodes_holding s ns) x). ⊎_elim (λ (e : s ≡ x). inl e) (λ (q : Contains ns x). inr (in_rest n ns x q)) (from_holding s ns x r))
    (first_or_rest (cond (same_node s.node n.node) s n) (nodes_holding s ns) x h)

-- what stands first is among the nodes
pub in_first : (ns : List Standing) (s : Standing) → first_standing ns ≡ Some s → Contains ns s
in_first [] s e = absurd cc
in_first (n ∷ ns) s e =
    let same : n ≡ s = cc in
    subst (λ (x : Standing). Contains (n ∷ ns) x) same (at_first n ns)

-- what stands at a place is among the nodes
pub in_behind : (after : Option NodeId) (ns : List Standing) (s : Standing) → standing_behind after ns ≡ Some s → Contains ns s
in_behind None ns s e = in_first ns s e
in_behind (Some k) [] s e = absurd cc
in_behind (Some k) (n ∷ ns) s e =
    cond_both (same_node k n.node) (first_standing ns) (standing_behind (Some k) ns) (λ (o : Option Standing). o ≡ Some s → Contains (n ∷ ns) s)
    (λ t w. in_rest n ns s (in_first ns s w))
    (λ t w. in_rest n ns s (in_behind (Some k) ns s w)) e

-- a standing node is among those that stand
pub in_ids : (ns : List Standing) (s : Standing) → Contains ns s → Contains (ids_of ns) s.node
in_ids ns s h =
    (h.0, subst (λ (n : ℕ). h.0 < n) (sym (length-map ns (λ (x : Standing). x.node))) h.1, get_or-map (λ (x : Standing). x.node) ns h.0 s s.node h.1 ∙ ap (λ (x : Standing). x.node) h.2)
