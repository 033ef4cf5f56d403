-- What an arena holds after a change.
use Rattle.std.proofs.Common.{◌≡◌, ℕ, ◌+◌, ◌<◌, ◌≤◌, Bool, true, false, cond, List, [], ◌∷◌, Option, None, Some, length, get_or, set, map, refl, sym, ◌∙◌, ap, subst, ⊎_elim, arith, length-set, get_or-set_other, get_or-set_same}
use Rattle.std.specs.List.{Contains, sum_by}
use Rattle.std.proofs.lemmas.Bool.{cases_eq, cases_lt, cond-false, cond-true, eq-eqb, ne_eqb}
use Rattle.std.proofs.lemmas.List.{ext_get_or, get_or-map, get_or_past, length-map, set_past}
use Rattle.std.proofs.lemmas.List.Sums.{sum_by-cons}
use Rattle.label_arena.specs.Chains.{Holdings, LinkedChain, Standing, StandsIn, behind_first, chain_at, ids_of, linked_chain, node_count, nodes_holding, nodes_with, nodes_without, same_node, standing, times}
use Rattle.label_arena.specs.Links.{Lists, chain_from, chain_ids, head_at, heads_linked, holdings, ids_from, no_head, node_at, node_length, nodes_linked, standing_at}
use Rattle.label_arena.specs.declared.node.Head.{Head}
use Rattle.label_arena.specs.declared.node.Node.{Node}
use Rattle.label_arena.specs.declared.node.NodeId.{NodeId}
use Rattle.label_arena.proofs.Counts.{behind_first_id, counted, counted_first, ids_with, ids_without, same_id}
use Rattle.label_arena.proofs.Moves.{head_other, head_set, ids_are}
use Rattle.label_arena.proofs.Walks.{at_other, at_set}

-- the chain that stands where there is none
abbrev pub no_chain : LinkedChain
no_chain = linked_chain [] false

-- which nodes stand where these do
pub ids_of_standings : (nodes : List Node) (is : List NodeId) → ids_of (map (standing_at nodes) is) ≡ is
ids_of_standings nodes [] = refl
ids_of_standings nodes (i ∷ is) = ap (λ (js : List NodeId). i ∷ js) (ids_of_standings nodes is)

-- a chain of an arena, by its beginning
pub chain_by_head : (nodes : List Node) (heads : List Head) (spare c : ℕ) → c < length heads → chain_at (holdings nodes heads spare) c ≡ chain_from nodes (head_at heads c)
chain_by_head nodes heads spare c lt = get_or-map (chain_from nodes) heads c no_head no_chain lt

-- past the last there is none
pub chain_past : (nodes : List Node) (heads : List Head) (spare c : ℕ) → length heads ≤ c → chain_at (holdings nodes heads spare) c ≡ no_chain
chain_past nodes heads spare c le =
    get_or_past (map (chain_from nodes) heads) c no_chain (subst (λ (n : ℕ). n ≤ c) (sym (length-map heads (chain_from nodes))) le)

-- what stands in a chain stands in one that is there
pub stands_where : (nodes : List Node) (heads : List Head) (spare c : ℕ) (k : NodeId) → StandsIn (holdings nodes heads spare) c k → c < length heads
stands_where nodes heads spare c k h =
    ⊎_elim (λ (lt : c < length heads). lt)
    (λ (le : length heads ≤ c).
    let none = subst (λ (x : LinkedChain). Contains (ids_of x.nodes) k) (chain_past nodes heads spare c le) h in
    absurd (omega (arith, none.1)))
    (cases_lt c (length heads))

module _ (nodes : List Node) (heads : List Head) (free : Option NodeId) (chains : List (List NodeId)) (frees : List NodeId) (l : Lists nodes heads free chains frees) (spare : ℕ) where
  -- a chain, by its nodes
  pub chain_is : (c : ℕ) → c < length heads → chain_from nodes (head_at heads c) ≡ linked_chain (map (standing_at nodes) (get_or chains c [])) (head_at heads c).sealed
  chain_is c lt = ap (λ (is : List NodeId). linked_chain (map (standing_at nodes) is) (head_at heads c).sealed) (ids_are nodes heads free chains frees l c lt)

  -- the nodes of a chain
  pub nodes_are : (c : ℕ) → c < length heads → (chain_at (holdings nodes heads spare) c).nodes ≡ map (standing_at nodes) (get_or chains c [])
  nodes_are c lt = ap (λ (x : LinkedChain). x.nodes) (chain_by_head nodes heads spare c lt ∙ chain_is c lt)

  -- which nodes these are
  pub ids_stand : (c : ℕ) → c < length heads → ids_of (chain_at (holdings nodes heads spare) c).nodes ≡ get_or chains c []
  ids_stand c lt = ap ids_of (nodes_are c lt) ∙ ids_of_standings nodes (get_or chains c [])

  -- what stands in a chain is counted there
  pub stands_counted : (c : ℕ) (k : NodeId) → StandsIn (holdings nodes heads spare) c k → 0 < times k.0 (get_or chains c [])
  stands_counted c k h =
      let lt = stands_where nodes heads spare c k h in
      subst (λ (is : List NodeId). 0 < times k.0 is) (ids_stand c lt) (counted (ids_of (chain_at (holdings nodes heads spare) c).nodes) k h)

-- the chains of an arena, of which one changed
pub one_changed : (nodes others : List Node) (heads firsts : List Head) (c : ℕ) (r : LinkedChain) → length firsts ≡ length heads → c < length heads → chain_from others (head_at firsts c) ≡ r
    → ((d : ℕ) → d < length heads → (d ≡ c → ⊥) → chain_from others (head_at firsts d) ≡ chain_from nodes (head_at heads d))
    → map (chain_from others) firsts ≡ set (map (chain_from nodes) heads) c r
one_changed nodes others heads firsts c r len lc here there =
    let old : List LinkedChain = map (chain_from nodes) heads in
    let count : length old ≡ length heads = length-map heads (chain_from nodes) in
    ext_get_or no_chain (map (chain_from others) firsts) (set old c r)
    (length-map firsts (chain_from others) ∙ (len ∙ (sym count ∙ sym (length-set old c r))))
    (λ d ld.
    let low : d < length firsts = subst (λ (n : ℕ). d < n) (length-map firsts (chain_from others)) ld in
    let at : d < length heads = omega (arith, low, len) in
    get_or-map (chain_from others) firsts d no_head no_chain low
    ∙ ⊎_elim
    (λ (e : d ≡ c).
    subst (λ (x : ℕ). chain_from others (head_at firsts x) ≡ get_or (set old c r) x no_chain) (sym e)
    (here ∙ sym (get_or-set_same old c r no_chain (omega (arith, count, lc)))))
    (λ (ne : d ≡ c → ⊥). there d at ne ∙ (sym (get_or-map (chain_from nodes) heads d no_head no_chain at) ∙ sym (get_or-set_other old c d r no_chain ne)))
    (cases_eq d c))

-- what an arena holds, of which one chain changed
pub holdings_changed : (nodes : List Node) (heads : List Head) (free : Option NodeId) (chains : List (List NodeId)) (frees : List NodeId) → Lists nodes heads free chains frees
    → (others : List Node) (firsts : List Head) (start : Option NodeId) (c : ℕ) (js : List NodeId) (rest : List NodeId) → Lists others firsts start (set chains c js) rest
    → (ns : List Standing) (flag : Bool) (spare now : ℕ) → length firsts ≡ length heads → c < length heads → (head_at firsts c).sealed ≡ flag → map (standing_at others) js ≡ ns
    → ((d : ℕ) → (d ≡ c → ⊥) → (head_at firsts d).sealed ≡ (head_at heads d).sealed)
    → ((d : ℕ) → d < length heads → (d ≡ c → ⊥) → map (standing_at others) (get_or chains d []) ≡ map (standing_at nodes) (get_or chains d []))
    → holdings others firsts now ≡ record { chains = set (holdings nodes heads spare).chains c (linked_chain ns flag); spare = now }
holdings_changed nodes heads free chains frees l others firsts start c js rest l2 ns flag spare now len lc shut here same there =
    let there_c : get_or (set chains c js) c [] ≡ js = get_or-set_same chains c js [] (omega (arith, l.count, lc)) in
    let at_c : chain_from others (head_at firsts c) ≡ linked_chain ns flag =
    chain_is others firsts start (set chains c js) rest l2 now c (omega (arith, len, lc))
    ∙ (ap (λ (b : Bool). linked_chain (map (standing_at others) (get_or (set chains c js) c [])) b) shut
    ∙ ap (λ (xs : List Standing). linked_chain xs flag) (ap (map (standing_at others)) there_c ∙ here)) in
    let at_d : (d : ℕ) → d < length heads → (d ≡ c → ⊥) → chain_from others (head_at firsts d) ≡ chain_from nodes (head_at heads d) =
    λ d ld ne.
    chain_is others firsts start (set chains c js) rest l2 now d (omega (arith, len, ld))
    ∙ (ap (λ (b : Bool). linked_chain (map (standing_at others) (get_or (set chains c js) d [])) b) (same d ne)
    ∙ (ap (λ (xs : List Standing). linked_chain xs (head_at heads d).sealed) (ap (map (standing_at others)) (get_or-set_other chains c d js [] ne) ∙ there d ld ne)
    ∙ sym (chain_is nodes heads free chains frees l spare d ld))) in
    ap (λ (cs : List LinkedChain). let a : Holdings = record { chains = cs; spare = now } in a) (one_changed nodes others heads firsts c (linked_chain ns flag) len lc at_c at_d)

-- ---- what nodes hold

-- another node than the one that was set
pub held_other : (nodes : List Node) (k j : NodeId) (x : Node) → (j.0 ≡ k.0 → ⊥) → standing_at (set nodes k.0 x) j ≡ standing_at nodes j
held_other nodes k j x ne = ap (λ (y : Node). standing j y.label y.parent) (at_other nodes k j x ne)

-- the node that was set
pub held_set : (nodes : List Node) (k : NodeId) (x : Node) → k.0 < length nodes → standing_at (set nodes k.0 x) k ≡ standing k x.label x.parent
held_set nodes k x lt = ap (λ (y : Node). standing k y.label y.parent) (at_set nodes k x lt)

-- a node whose link was set
pub held_linked : (nodes : List Node) (after to : Option NodeId) (j : NodeId) → standing_at (nodes_linked after to nodes) j ≡ standing_at nodes j
held_linked nodes None to j = refl
held_linked nodes (Some k) to j =
    let x : Node = record (node_at nodes k) { next = to } in
    ⊎_elim
    (λ (lt : k.0 < length nodes).
    ⊎_elim
    (λ (e : j.0 ≡ k.0). subst (λ (m : NodeId). standing_at (set nodes k.0 x) m ≡ standing_at nodes m) (same_id k j (sym e)) (held_set nodes k x lt))
    (λ (ne : j.0 ≡ k.0 → ⊥). held_other nodes k j x ne)
    (cases_eq j.0 k.0))
    (λ (le : length nodes ≤ k.0). ap (λ (ns : List Node). standing_at ns j) (set_past nodes k.0 x le))
    (cases_lt k.0 (length nodes))

-- a chain is as open as it was where the link to its first node was set
pub sealed_linked : (heads : List Head) (c : ℕ) (after to : Option NodeId) (d : ℕ) → c < length heads → (head_at (heads_linked c after to heads) d).sealed ≡ (head_at heads d).sealed
sealed_linked heads c (Some k) to d lt = refl
sealed_linked heads c None to d lt =
    let x : Head = record (head_at heads c) { first = to } in
    ⊎_elim
    (λ (e : d ≡ c). subst (λ (m : ℕ). (head_at (set heads c x) m).sealed ≡ (head_at heads m).sealed) (sym e) (ap (λ (h : Head). h.sealed) (head_set heads c x lt)))
    (λ (ne : d ≡ c → ⊥). ap (λ (h : Head). h.sealed) (head_other heads c d x ne))
    (cases_eq d c)

-- there are as many chains where the link to a first node was set
pub length_linked : (heads : List Head) (c : ℕ) (after to : Option NodeId) → length (heads_linked c after to heads) ≡ length heads
length_linked heads c None to = length-set heads c (record (head_at heads c) { first = to })
length_linked heads c (Some k) to = refl

-- nodes that hold the same
pub standings_same : (nodes others : List Node) (is : List NodeId) → ((i : NodeId) → 0 < times i.0 is → standing_at others i ≡ standing_at nodes i) → map (standing_at others) is ≡ map (standing_at nodes) is
standings_same nodes others [] same = refl
standings_same nodes others (j ∷ is) same =
    ap (λ (s : Standing). s ∷ map (standing_at others) is) (same j (omega (arith, counted_first j.0 j is refl)))
    ∙ ap (λ (ss : List Standing). standing_at nodes j ∷ ss) (standings_same nodes others is (λ i h. same i (omega (arith, h))))

-- ---- one node more, and one less

-- with one more node at a place
pub with_map : (nodes : List Node) (after : Option NodeId) (f : NodeId) (is : List NodeId) → map (standing_at nodes) (ids_with after f is) ≡ nodes_with after (standing_at nodes f) (map (standing_at nodes) is)
with_map nodes None f is = refl
with_map nodes (Some k) f [] = refl
with_map nodes (Some k) f (i ∷ is) =
    elim (same_node k i) as (λ b. map (standing_at nodes) (cond b (i ∷ f ∷ is) (i ∷ ids_with (Some k) f is))
    ≡ cond b (standing_at nodes i ∷ standing_at nodes f ∷ map (standing_at nodes) is) (standing_at nodes i ∷ nodes_with (Some k) (standing_at nodes f) (map (standing_at nodes) is))) [
      | true ↦ refl
      | false ↦ ap (λ (ss : List Standing). standing_at nodes i ∷ ss) (with_map nodes (Some k) f is)
    ]

-- without the first
pub behind_map : (nodes : List Node) (is : List NodeId) → map (standing_at nodes) (behind_first_id is) ≡ behind_first (map (standing_at nodes) is)
behind_map nodes [] = refl
behind_map nodes (i ∷ is) = refl

-- without the node at a place
pub without_map : (nodes : List Node) (after : Option NodeId) (is : List NodeId) → map (standing_at nodes) (ids_without after is) ≡ nodes_without after (map (standing_at nodes) is)
without_map nodes None is = behind_map nodes is
without_map nodes (Some k) [] = refl
without_map nodes (Some k) (i ∷ is) =
    elim (same_node k i) as (λ b. map (standing_at nodes) (cond b (i ∷ behind_first_id is) (i ∷ ids_without (Some k) is))
    ≡ cond b (standing_at nodes i ∷ behind_first (map (standing_at nodes) is)) (standing_at nodes i ∷ nodes_without (Some k) (map (standing_at nodes) is))) [
      | true ↦ ap (λ (ss : List Standing). standing_at nodes i ∷ ss) (behind_map nodes is)
      | false ↦ ap (λ (ss : List Standing). standing_at nodes i ∷ ss) (without_map nodes (Some k) is)
    ]

-- where a node holds something else
pub holding_map : (nodes : List Node) (k : NodeId) (x : Node) (is : List NodeId) → k.0 < length nodes → map (standing_at (set nodes k.0 x)) is ≡ nodes_holding (standing k x.label x.parent) (map (standing_at nodes) is)
holding_map nodes k x [] lt = refl
holding_map nodes k x (i ∷ is) lt =
    let s : Standing = standing k x.label x.parent in
    let first : standing_at (set nodes k.0 x) i ≡ cond (same_node k i) s (standing_at nodes i) =
    ⊎_elim
    (λ (e : k.0 ≡ i.0).
    subst (λ (m : NodeId). standing_at (set nodes k.0 x) m ≡ s) (same_id k i e) (held_set nodes k x lt) ∙ sym (cond-true _ _ _ (eq-eqb k.0 i.0 e)))
    (λ (ne : k.0 ≡ i.0 → ⊥). held_other nodes k i x (λ w. ne (sym w)) ∙ sym (cond-false _ _ _ (ne_eqb k.0 i.0 ne)))
    (cases_eq k.0 i.0) in
    ap (λ (y : Standing). y ∷ map (standing_at (set nodes k.0 x)) is) first
    ∙ ap (λ (ss : List Standing). cond (same_node k i) s (standing_at nodes i) ∷ ss) (holding_map nodes k x is lt)

-- the nodes in chains, counted by their lists
pub count_by_ids : (nodes : List Node) (heads : List Head) (spare : ℕ) → node_count (holdings nodes heads spare) ≡ sum_by node_length (chain_ids nodes heads)
count_by_ids nodes [] spare = refl
count_by_ids nodes (h ∷ hs) spare =
    let one = sum_by-cons (λ (c : LinkedChain). length c.nodes) (chain_from nodes h) (map (chain_from nodes) hs) in
    let two = sum_by-cons node_length (ids_from nodes h.first) (chain_ids nodes hs) in
    let same = length-map (ids_from nodes h.first) (standing_at nodes) in
    let rest = count_by_ids nodes hs spare in
    one ∙ (ap (λ (n : ℕ). n + node_count (holdings nodes hs spare)) same ∙ (ap (λ (n : ℕ). node_length (ids_from nodes h.first) + n) rest ∙ sym two))
