-- Following links: they lead along one list of nodes, which stays where other nodes change.
use Rattle.std.proofs.Common.{◌≡◌, ℕ, zero, suc, ◌+◌, ◌<◌, ◌≤◌, List, [], ◌∷◌, ◌++◌, Option, None, Some, length, set, map, refl, sym, ◌∙◌, ap, subst, ⊎_elim, arith, length-set, length-append, get_or-set_other, get_or-set_same}
use Rattle.std.specs.Prelude.{option_map}
use Rattle.std.proofs.lemmas.Bool.{cases_eq, cond-false, cond-true, eq-eqb, ne_eqb}
use Rattle.std.proofs.lemmas.List.{get_or_append_left}
use Rattle.label_arena.specs.Chains.{first_standing, standing_behind, times}
use Rattle.label_arena.specs.Links.{Links, blank, ids_within, node_at, nodes_linked, standing_at}
use Rattle.label_arena.specs.declared.node.Node.{Node}
use Rattle.label_arena.specs.declared.node.NodeId.{NodeId}
use Rattle.label_arena.proofs.Counts.{absent_parts, behind_first_id, counted_first, counted_rest, ids_with, ids_without, same_id, with_at, with_later, without_at, without_later}

-- following links gives the nodes that they lead along
pub within_is : (n : ℕ) (nodes : List Node) (at : Option NodeId) (is : List NodeId) → Links nodes at is → length is ≤ n → ids_within n nodes at ≡ is
within_is zero nodes None [] p h = refl
within_is zero nodes None (i ∷ is) p h = absurd p
within_is zero nodes (Some k) [] p h = absurd p
within_is zero nodes (Some k) (i ∷ is) p h = absurd (omega (arith, h))
within_is (suc n) nodes None [] p h = refl
within_is (suc n) nodes None (i ∷ is) p h = absurd p
within_is (suc n) nodes (Some k) [] p h = absurd p
within_is (suc n) nodes (Some k) (i ∷ is) p h =
    let rest = within_is n nodes (node_at nodes k).next is p.2 (omega (arith, h)) in
    ap (λ (js : List NodeId). k ∷ js) rest ∙ ap (λ (m : NodeId). m ∷ is) p.0

-- they are at most so many
pub length_within : (n : ℕ) (nodes : List Node) (at : Option NodeId) → length (ids_within n nodes at) ≤ n
length_within zero nodes at = omega arith
length_within (suc n) nodes None = omega arith
length_within (suc n) nodes (Some k) =
    let rest = length_within n nodes (node_at nodes k).next in
    omega (arith, rest)

-- a link to a node, and those that follow
pub links_step : (nodes : List Node) (j i : NodeId) (is : List NodeId) (to : Option NodeId) → j ≡ i → j.0 < length nodes → (node_at nodes j).next ≡ to → Links nodes to is → Links nodes (Some j) (i ∷ is)
links_step nodes j i is to e lt next p = (e, lt, subst (λ (o : Option NodeId). Links nodes o is) (sym next) p)

-- a node that was set
pub at_set : (nodes : List Node) (k : NodeId) (x : Node) → k.0 < length nodes → node_at (set nodes k.0 x) k ≡ x
at_set nodes k x lt = get_or-set_same nodes k.0 x blank lt

-- another node than the one that was set
pub at_other : (nodes : List Node) (k j : NodeId) (x : Node) → (j.0 ≡ k.0 → ⊥) → node_at (set nodes k.0 x) j ≡ node_at nodes j
at_other nodes k j x ne = get_or-set_other nodes k.0 j.0 x blank ne

-- links that lead along other nodes stay where one is set
pub links_apart : (nodes : List Node) (k : NodeId) (x : Node) (at : Option NodeId) (is : List NodeId) → times k.0 is ≡ 0 → Links nodes at is → Links (set nodes k.0 x) at is
links_apart nodes k x None [] z p = tt
links_apart nodes k x None (i ∷ is) z p = absurd p
links_apart nodes k x (Some j) [] z p = absurd p
links_apart nodes k x (Some j) (i ∷ is) z p =
    let away = absent_parts k.0 i is z in
    let other : j.0 ≡ k.0 → ⊥ = λ e. away.0 (sym e ∙ ap (λ (m : NodeId). m.0) p.0) in
    links_step (set nodes k.0 x) j i is (node_at nodes j).next p.0 (rw length-set p.1) (ap (λ (y : Node). y.next) (at_other nodes k j x other))
    (links_apart nodes k x (node_at nodes j).next is away.1 p.2)

-- where a node is set that leads on as before, all lead on as before
pub next_kept : (nodes : List Node) (k j : NodeId) (x : Node) → k.0 < length nodes → x.next ≡ (node_at nodes k).next → (node_at (set nodes k.0 x) j).next ≡ (node_at nodes j).next
next_kept nodes k j x lt same =
    ⊎_elim
    (λ (e : j.0 ≡ k.0).
    subst (λ (m : NodeId). (node_at (set nodes k.0 x) m).next ≡ (node_at nodes m).next) (same_id k j (sym e))
    (ap (λ (y : Node). y.next) (at_set nodes k x lt) ∙ same))
    (λ (ne : j.0 ≡ k.0 → ⊥). ap (λ (y : Node). y.next) (at_other nodes k j x ne))
    (cases_eq j.0 k.0)

-- links stay where a node is set that leads on as before
pub links_kept : (nodes : List Node) (k : NodeId) (x : Node) (at : Option NodeId) (is : List NodeId) → k.0 < length nodes → x.next ≡ (node_at nodes k).next → Links nodes at is → Links (set nodes k.0 x) at is
links_kept nodes k x None [] lt same p = tt
links_kept nodes k x None (i ∷ is) lt same p = absurd p
links_kept nodes k x (Some j) [] lt same p = absurd p
links_kept nodes k x (Some j) (i ∷ is) lt same p =
    links_step (set nodes k.0 x) j i is (node_at nodes j).next p.0 (rw length-set p.1) (next_kept nodes k j x lt same)
    (links_kept nodes k x (node_at nodes j).next is lt same p.2)

-- links stay where nodes are added at the end
pub links_more : (nodes more : List Node) (at : Option NodeId) (is : List NodeId) → Links nodes at is → Links (nodes ++ more) at is
links_more nodes more None [] p = tt
links_more nodes more None (i ∷ is) p = absurd p
links_more nodes more (Some j) [] p = absurd p
links_more nodes more (Some j) (i ∷ is) p =
    let n = length-append nodes more in
    links_step (nodes ++ more) j i is (node_at nodes j).next p.0 (omega (arith, n, p.1)) (ap (λ (y : Node). y.next) (get_or_append_left nodes more blank j.0 p.1))
    (links_more nodes more (node_at nodes j).next is p.2)

-- links lead to nodes of the arena
pub linked_within : (nodes : List Node) (at : Option NodeId) (is : List NodeId) (k : ℕ) → Links nodes at is → 0 < times k is → k < length nodes
linked_within nodes at [] k p h = absurd (omega (arith, h))
linked_within nodes None (i ∷ is) k p h = absurd p
linked_within nodes (Some j) (i ∷ is) k p h =
    ⊎_elim
    (λ (e : k ≡ i.0).
    let same = ap (λ (m : NodeId). m.0) p.0 in
    omega (arith, e, same, p.1))
    (λ (ne : k ≡ i.0 → ⊥).
    linked_within nodes (node_at nodes j).next is k p.2 (subst (λ (m : ℕ). 0 < m) (counted_rest k i is ne) h))
    (cases_eq k i.0)

-- the first of the nodes
pub first_linked : (nodes : List Node) (at : Option NodeId) (is : List NodeId) → Links nodes at is → first_standing (map (standing_at nodes) is) ≡ option_map (standing_at nodes) at
first_linked nodes None [] p = refl
first_linked nodes None (i ∷ is) p = absurd p
first_linked nodes (Some j) [] p = absurd p
first_linked nodes (Some j) (i ∷ is) p = ap (λ (m : NodeId). Some (standing_at nodes m)) (sym p.0)

-- the node that links begin with is among the nodes
pub first_counted : (nodes : List Node) (d : NodeId) (is : List NodeId) → Links nodes (Some d) is → 0 < times d.0 is
first_counted nodes d [] p = absurd p
first_counted nodes d (i ∷ is) p =
    let one = counted_first d.0 i is (ap (λ (m : NodeId). m.0) p.0) in
    omega (arith, one)

-- links to a node: the node, and those that it leads on to
pub links_parts : (nodes : List Node) (d : NodeId) (is : List NodeId) → Links nodes (Some d) is → (ds : List NodeId) × (is ≡ d ∷ ds) × Links nodes (node_at nodes d).next ds
links_parts nodes d [] p = absurd p
links_parts nodes d (i ∷ is) p = (is, ap (λ (m : NodeId). m ∷ is) (sym p.0), p.2)

-- what a node of the links leads to is among the nodes
pub leads_within : (nodes : List Node) (at : Option NodeId) (is : List NodeId) (k d : NodeId) → Links nodes at is → 0 < times k.0 is → (node_at nodes k).next ≡ Some d → 0 < times d.0 is
leads_within nodes at [] k d p h next = absurd (omega (arith, h))
leads_within nodes None (i ∷ is) k d p h next = absurd p
leads_within nodes (Some j) (i ∷ is) k d p h next =
    ⊎_elim
    (λ (e : k.0 ≡ i.0).
    let same : k ≡ j = same_id k i e ∙ sym p.0 in
    let to : (node_at nodes j).next ≡ Some d = subst (λ (m : NodeId). (node_at nodes m).next ≡ Some d) same next in
    let rest = first_counted nodes d is (subst (λ (o : Option NodeId). Links nodes o is) to p.2) in
    omega (arith, rest))
    (λ (ne : k.0 ≡ i.0 → ⊥).
    let rest = leads_within nodes (node_at nodes j).next is k d p.2 (subst (λ (m : ℕ). 0 < m) (counted_rest k.0 i is ne) h) next in
    omega (arith, rest))
    (cases_eq k.0 i.0)

-- what stands behind a node of the links
pub behind_linked : (nodes : List Node) (at : Option NodeId) (is : List NodeId) (k : NodeId) → Links nodes at is → 0 < times k.0 is → standing_behind (Some k) (map (standing_at nodes) is) ≡ option_map (standing_at nodes) (node_at nodes k).next
behind_linked nodes at [] k p h = absurd (omega (arith, h))
behind_linked nodes None (i ∷ is) k p h = absurd p
behind_linked nodes (Some j) (i ∷ is) k p h =
    ⊎_elim
    (λ (e : k.0 ≡ i.0).
    let same : k ≡ j = same_id k i e ∙ sym p.0 in
    cond-true _ _ _ (eq-eqb k.0 i.0 e) ∙ (first_linked nodes (node_at nodes j).next is p.2 ∙ ap (λ (m : NodeId). option_map (standing_at nodes) (node_at nodes m).next) (sym same)))
    (λ (ne : k.0 ≡ i.0 → ⊥).
    cond-false _ _ _ (ne_eqb k.0 i.0 ne) ∙ behind_linked nodes (node_at nodes j).next is k p.2 (subst (λ (m : ℕ). 0 < m) (counted_rest k.0 i is ne) h))
    (cases_eq k.0 i.0)

-- with one more node behind one
pub links_with : (nodes : List Node) (f k : NodeId) (held : Node) (at : Option NodeId) (is : List NodeId) → f.0 < length nodes → times f.0 is ≡ 0 → times k.0 is ≡ 1 → held.next ≡ (node_at nodes k).next
    → Links nodes at is → Links (nodes_linked (Some k) (Some f) (set nodes f.0 held)) at (ids_with (Some k) f is)
links_with nodes f k held None [] lf zf one hn p = absurd (omega (arith, one))
links_with nodes f k held None (i ∷ is) lf zf one hn p = absurd p
links_with nodes f k held (Some j) [] lf zf one hn p = absurd p
links_with nodes f k held (Some j) (i ∷ is) lf zf one hn p =
    let middle : List Node = set nodes f.0 held in
    let turned : Node = record (node_at middle k) { next = Some f } in
    let after : List Node = set middle k.0 turned in
    let len : length after ≡ length nodes = length-set middle k.0 turned ∙ length-set nodes f.0 held in
    let away = absent_parts f.0 i is zf in
    let lj : j.0 < length after = omega (arith, len, p.1) in
    let number = ap (λ (m : NodeId). m.0) p.0 in
    ⊎_elim
    (λ (e : k.0 ≡ i.0).
    let none : times k.0 is ≡ 0 = omega (arith, counted_first k.0 i is e, one) in
    let same : k ≡ j = same_id k i e ∙ sym p.0 in
    let far : f.0 ≡ k.0 → ⊥ = λ w. away.0 (w ∙ e) in
    let lk : k.0 < length middle = omega (arith, length-set nodes f.0 held, e, number, p.1) in
    let lf2 : f.0 < length after = omega (arith, len, lf) in
    let to : (node_at after j).next ≡ Some f =
    subst (λ (m : NodeId). (node_at after m).next ≡ Some f) same (ap (λ (y : Node). y.next) (at_set middle k turned lk)) in
    let on : (node_at after f).next ≡ (node_at nodes j).next =
    ap (λ (y : Node). y.next) (at_other middle k f turned far ∙ at_set nodes f held lf) ∙ (hn ∙ ap (λ (m : NodeId). (node_at nodes m).next) same) in
    let rest : Links after (node_at nodes j).next is =
    links_apart middle k turned (node_at nodes j).next is none (links_apart nodes f held (node_at nodes j).next is away.1 p.2) in
    subst (λ (js : List NodeId). Links after (Some j) js) (sym (with_at k f i is e))
    (links_step after j i (f ∷ is) (Some f) p.0 lj to (links_step after f f is (node_at nodes j).next refl lf2 on rest)))
    (λ (ne : k.0 ≡ i.0 → ⊥).
    let rest = links_with nodes f k held (node_at nodes j).next is lf away.1 (sym (counted_rest k.0 i is ne) ∙ one) hn p.2 in
    let not_k : j.0 ≡ k.0 → ⊥ = λ w. ne (sym w ∙ number) in
    let not_f : j.0 ≡ f.0 → ⊥ = λ w. away.0 (sym w ∙ number) in
    subst (λ (js : List NodeId). Links after (Some j) js) (sym (with_later k f i is ne))
    (links_step after j i (ids_with (Some k) f is) (node_at nodes j).next p.0 lj (ap (λ (y : Node). y.next) (at_other middle k j turned not_k ∙ at_other nodes f j held not_f)) rest))
    (cases_eq k.0 i.0)

-- without the node behind one
pub links_without : (nodes : List Node) (k d : NodeId) (free : Option NodeId) (at : Option NodeId) (is : List NodeId) → (node_at nodes k).next ≡ Some d → times k.0 is ≡ 1 → times d.0 is ≡ 1
    → Links nodes at is → Links (nodes_linked (Some d) free (nodes_linked (Some k) (node_at nodes d).next nodes)) at (ids_without (Some k) is)
links_without nodes k d free None [] next one_k one_d p = absurd (omega (arith, one_k))
links_without nodes k d free None (i ∷ is) next one_k one_d p = absurd p
links_without nodes k d free (Some j) [] next one_k one_d p = absurd p
links_without nodes k d free (Some j) (i ∷ is) next one_k one_d p =
    let passed : Node = record (node_at nodes k) { next = (node_at nodes d).next } in
    let middle : List Node = set nodes k.0 passed in
    let freed : Node = record (node_at middle d) { next = free } in
    let after : List Node = set middle d.0 freed in
    let len : length after ≡ length nodes = length-set middle d.0 freed ∙ length-set nodes k.0 passed in
    let lj : j.0 < length after = omega (arith, len, p.1) in
    let number = ap (λ (m : NodeId). m.0) p.0 in
    ⊎_elim
    (λ (e : k.0 ≡ i.0).
    let same : k ≡ j = same_id k i e ∙ sym p.0 in
    let to : (node_at nodes j).next ≡ Some d = subst (λ (m : NodeId). (node_at nodes m).next ≡ Some d) same next in
    let parts = links_parts nodes d is (subst (λ (o : Option NodeId). Links nodes o is) to p.2) in
    let none_k : times k.0 is ≡ 0 = omega (arith, counted_first k.0 i is e, one_k) in
    let away = absent_parts k.0 d parts.0 (sym (ap (times k.0) parts.1) ∙ none_k) in
    let apart : d.0 ≡ i.0 → ⊥ = λ w. away.0 (e ∙ sym w) in
    let once : times d.0 (d ∷ parts.0) ≡ 1 = sym (ap (times d.0) parts.1) ∙ (sym (counted_rest d.0 i is apart) ∙ one_d) in
    let none_d : times d.0 parts.0 ≡ 0 = omega (arith, counted_first d.0 d parts.0 refl, once) in
    let not_d : j.0 ≡ d.0 → ⊥ = λ w. apart (sym w ∙ number) in
    let lk : k.0 < length nodes = omega (arith, e, number, p.1) in
    let on : (node_at after j).next ≡ (node_at nodes d).next =
    ap (λ (y : Node). y.next) (at_other middle d j freed not_d)
    ∙ subst (λ (m : NodeId). (node_at middle m).next ≡ (node_at nodes d).next) same (ap (λ (y : Node). y.next) (at_set nodes k passed lk)) in
    let rest : Links after (node_at nodes d).next parts.0 =
    links_apart middle d freed (node_at nodes d).next parts.0 none_d (links_apart nodes k passed (node_at nodes d).next parts.0 away.1 parts.2) in
    subst (λ (js : List NodeId). Links after (Some j) js) (sym (without_at k i is e ∙ ap (λ (js : List NodeId). i ∷ behind_first_id js) parts.1))
    (links_step after j i parts.0 (node_at nodes d).next p.0 lj on rest))
    (λ (ne : k.0 ≡ i.0 → ⊥).
    let tail : times k.0 is ≡ 1 = sym (counted_rest k.0 i is ne) ∙ one_k in
    let there = leads_within nodes (node_at nodes j).next is k d p.2 (omega (arith, tail)) next in
    let apart : d.0 ≡ i.0 → ⊥ = λ w. omega (arith, counted_first d.0 i is w, one_d, there) in
    let rest = links_without nodes k d free (node_at nodes j).next is next tail (sym (counted_rest d.0 i is apart) ∙ one_d) p.2 in
    let not_k : j.0 ≡ k.0 → ⊥ = λ w. ne (sym w ∙ number) in
    let not_d : j.0 ≡ d.0 → ⊥ = λ w. apart (sym w ∙ number) in
    subst (λ (js : List NodeId). Links after (Some j) js) (sym (without_later k i is ne))
    (links_step after j i (ids_without (Some k) is) (node_at nodes j).next p.0 lj (ap (λ (y : Node). y.next) (at_other middle d j freed not_d ∙ at_other nodes k j passed not_k)) rest))
    (cases_eq k.0 i.0)

-- one less is counted once less
pub without_counts : (f : NodeId → ℕ) (g : List NodeId → ℕ) (step : (i : NodeId) (is : List NodeId) → g (i ∷ is) ≡ f i + g is) (nodes : List Node) (k d : NodeId) (at : Option NodeId) (is : List NodeId)
    → (node_at nodes k).next ≡ Some d → 0 < times k.0 is → Links nodes at is → f d + g (ids_without (Some k) is) ≡ g is
without_counts f g step nodes k d at [] next h p = absurd (omega (arith, h))
without_counts f g step nodes k d None (i ∷ is) next h p = absurd p
without_counts f g step nodes k d (Some j) (i ∷ is) next h p =
    ⊎_elim
    (λ (e : k.0 ≡ i.0).
    let same : k ≡ j = same_id k i e ∙ sym p.0 in
    let to : (node_at nodes j).next ≡ Some d = subst (λ (m : NodeId). (node_at nodes m).next ≡ Some d) same next in
    let parts = links_parts nodes d is (subst (λ (o : Option NodeId). Links nodes o is) to p.2) in
    let all = ap g (without_at k i is e ∙ ap (λ (js : List NodeId). i ∷ behind_first_id js) parts.1) in
    let one = step i parts.0 in
    let old = step i is in
    let two = ap g parts.1 ∙ step d parts.0 in
    omega (arith, all, one, old, two))
    (λ (ne : k.0 ≡ i.0 → ⊥).
    let all = ap g (without_later k i is ne) in
    let one = step i (ids_without (Some k) is) in
    let old = step i is in
    let rest = without_counts f g step nodes k d (node_at nodes j).next is next (subst (λ (m : ℕ). 0 < m) (counted_rest k.0 i is ne) h) p.2 in
    omega (arith, all, one, old, rest))
    (cases_eq k.0 i.0)
