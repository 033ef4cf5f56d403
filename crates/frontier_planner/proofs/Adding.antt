-- Nodes that are added at the end of a chain of the arena.
use Rattle.std.proofs.Common.{◌≡◌, ◌∙◌, ℕ, zero, suc, ◌+◌, ◌-◌, ◌<◌, ◌≤◌, ◌⊎◌, inl, inr, ⊎_elim, true, false, List, [], ◌∷◌, ◌++◌, Option, None, Some, length, get_or, set, map, take, refl, sym, ap, subst, arith, length-set, get_or-set_other, get_or-set_same, set-set}
use Rattle.std.specs.Prelude.{IfSome}
use Rattle.std.specs.List.{Contains, sum_by}
use Rattle.std.proofs.lemmas.Bool.{eq-eqb, ne_eqb, cases_eq, cond-true, cond-false}
use Rattle.std.proofs.lemmas.List.{length-map, map-append, set-get_or, take_all, take_more}
use Rattle.std.proofs.lemmas.List.Elements.{Contains-push}
use Rattle.std.proofs.lemmas.List.Sums.{sum_by-set}
use Rattle.lab_model.specs.declared.label.Label.{Label}
use Rattle.label_arena.specs.Chains.{HasParent, Holdings, IsOpen, IsSound, LinkedChain, Standing, StandsAfter, StandsIn, chain_at, ids_of, linked_chain, node_count, nodes_with, same_node, standing, times, with_added, with_room, with_seal}
use Rattle.label_arena.specs.declared.node.NodeId.{NodeId}
use Rattle.label_arena.proofs.Counts.{counted, counted_first}
use Rattle.label_arena.proofs.Parents.{in_ids, parent_stays}
use Rattle.labels.proofs.Walks.{at_head, at_tail}
use Rattle.frontier_planner.specs.declared.chains.Reached.{Reached}
use Rattle.frontier_planner.specs.declared.grow.Candidate.{Candidate}
use Rattle.frontier_planner.specs.Linked.{AddsFrontier, Appends, HaveNodes, no_reached, node_of, part_for, part_of}

-- ---- behind the last node

-- the last of these nodes, if there is one
abbrev IsLast : List Standing → Option NodeId → Type 0
IsLast ns last = ((ns ≡ []) × (last ≡ None)) ⊎ ((ms : List Standing) × (s : Standing) × (ns ≡ ms ++ s ∷ []) × (last ≡ Some s.node))

-- what is added behind the last node stands at the end
behind_last : (ms : List Standing) (l s : Standing) → times l.node.0 (ids_of (ms ++ l ∷ [])) ≤ 1 → nodes_with (Some l.node) s (ms ++ l ∷ []) ≡ (ms ++ l ∷ []) ++ s ∷ []
behind_last [] l s once = cond-true (same_node l.node l.node) (l ∷ s ∷ []) (l ∷ []) (eq-eqb l.node.0 l.node.0 refl)
behind_last (m ∷ ms) l s once =
    let rest = ms ++ l ∷ [] in
    let there = counted (ids_of rest) l.node (in_ids rest l (Contains-push ms l)) in
    ⊎_elim
    (λ (e : l.node.0 ≡ m.node.0). let two = counted_first l.node.0 m.node (ids_of rest) e in absurd (omega (arith, once, there, two)))
    (λ (ne : l.node.0 ≡ m.node.0 → ⊥).
    cond-false (same_node l.node m.node) (m ∷ s ∷ rest) (m ∷ nodes_with (Some l.node) s rest) (ne_eqb l.node.0 m.node.0 ne)
    ∙ ap (λ ns. m ∷ ns) (behind_last ms l s (fewer l.node.0 m.node (ids_of rest) once))) (cases_eq l.node.0 m.node.0)
  where
    fewer : (k : ℕ) (i : NodeId) (is : List NodeId) → times k (i ∷ is) ≤ 1 → times k is ≤ 1
    fewer k i is h = omega (arith, h)

at_end : (ns : List Standing) (last : Option NodeId) (s : Standing) → IsLast ns last → ((k : NodeId) → times k.0 (ids_of ns) ≤ 1) → nodes_with last s ns ≡ ns ++ s ∷ []
at_end ns last s h once =
    ⊎_elim (λ (e : (ns ≡ []) × (last ≡ None)). ap (λ o. nodes_with o s ns) e.1 ∙ ap (λ ms. s ∷ ms) e.0 ∙ sym (ap (λ ms. ms ++ s ∷ []) e.0))
    (λ (e : (ms : List Standing) × (l : Standing) × (ns ≡ ms ++ l ∷ []) × (last ≡ Some l.node)).
    ap (λ o. nodes_with o s ns) e.3 ∙ ap (nodes_with (Some e.1.node) s) e.2
    ∙ behind_last e.0 e.1 s (subst (λ ks. times e.1.node.0 (ids_of ks) ≤ 1) e.2 (once e.1.node)) ∙ sym (ap (λ ks. ks ++ s ∷ []) e.2)) h

-- ---- a frontier that is added

-- what was added of a frontier so far
pub record Appending (a b : Holdings) (c : ℕ) (last : Option NodeId) (frontier : List Candidate) (before : List Reached) (i : ℕ) : Type 0 where
  pub chains : b.chains ≡ set a.chains c (linked_chain (chain_at b c).nodes false)
  pub parts : map part_of (chain_at b c).nodes ≡ map (part_for before) (take i frontier)
  ends : IsLast (chain_at b c).nodes last
  pub spare : b.spare + i ≡ a.spare

-- the node of a label of the segment before stands in a sealed chain
pub node_sealed : (a : Holdings) (before : List Reached) (k : ℕ) → HaveNodes a before → HasParent a (node_of before k)
node_sealed a [] k h = tt
node_sealed a (x ∷ xs) zero h = h x (at_head x xs)
node_sealed a (x ∷ xs) (suc k) h = node_sealed a xs k (λ y there. h y (at_tail x xs y there))

-- the node of the label at a place
pub node_there : (before : List Reached) (k : ℕ) → k < length before → node_of before k ≡ Some (get_or before k no_reached).node
node_there [] k low = absurd (omega (arith, low))
node_there (x ∷ xs) zero low = refl
node_there (x ∷ xs) (suc k) low = node_there xs k (omega (arith, low))

-- and none past the last
pub node_past : (before : List Reached) (k : ℕ) → length before ≤ k → node_of before k ≡ None
node_past [] k late = refl
node_past (x ∷ xs) zero late = absurd (omega (arith, late))
node_past (x ∷ xs) (suc k) late = node_past xs k (omega (arith, late))

module _ (a : Holdings) (c : ℕ) (opened : IsOpen a c) (frontier : List Candidate) (before : List Reached) where
  -- nothing was added yet
  pub append_none : (chain_at a c).nodes ≡ [] → Appending a a c None frontier before 0
  append_none none =
      let same : linked_chain (chain_at a c).nodes false ≡ chain_at a c = ap (linked_chain (chain_at a c).nodes) (sym opened.1) in
      record {
        chains = sym (ap (set a.chains c) same ∙ set-get_or a.chains c (linked_chain [] false));
        parts = ap (map part_of) none;
        ends = inl (none, refl);
        spare = omega arith;
      }

  module _ (b : Holdings) (last : Option NodeId) (i : ℕ) (so : Appending a b c last frontier before i) where
    number_there : c < length b.chains
    number_there =
        let long = ap length so.chains ∙ length-set a.chains c (linked_chain (chain_at b c).nodes false) in
        let low = opened.0 in
        omega (arith, long, low)

    -- the chain is open
    pub append_open : IsOpen b c
    append_open = (
      number_there,
      ap (λ (cs : List LinkedChain). (get_or cs c (linked_chain [] false)).sealed) so.chains
          ∙ ap (λ (x : LinkedChain). x.sealed) (get_or-set_same a.chains c (linked_chain (chain_at b c).nodes false) (linked_chain [] false) opened.0),
    )

    -- the last node stands in it
    pub append_after : StandsAfter b c last
    append_after =
        let ns = (chain_at b c).nodes in
        ⊎_elim (λ (e : (ns ≡ []) × (last ≡ None)). subst (λ o. IfSome o (StandsIn b c)) (sym e.1) tt)
        (λ (e : (ms : List Standing) × (s : Standing) × (ns ≡ ms ++ s ∷ []) × (last ≡ Some s.node)).
        subst (λ o. IfSome o (StandsIn b c)) (sym e.3) (in_ids ns e.1 (subst (λ ks. Contains ks e.1) (sym e.2) (Contains-push e.0 e.1)))) so.ends

    -- what stood in a sealed chain stands there
    pub append_parent : (parent : Option NodeId) → HasParent a parent → HasParent b parent
    append_parent parent h =
        subst (λ (cs : List LinkedChain). let x : Holdings = record { chains = cs; spare = b.spare } in HasParent x parent) (sym so.chains)
        (parent_stays a c (linked_chain (chain_at b c).nodes false) b.spare parent opened h)

    -- one more is added
    pub append_more : (d : Candidate) (e : Holdings) (node : NodeId) (label : Label) (parent : Option NodeId) → i < length frontier → IsSound b → 0 < b.spare → label ≡ (get_or frontier i d).label
        → parent ≡ node_of before (get_or frontier i d).parent → e ≡ with_added c last (standing node label parent) b → Appending a e c (Some node) frontier before (i + 1)
    append_more d e node label parent low sound some same from added =
        let s = standing node label parent in
        let ns = (chain_at b c).nodes in
        let more : nodes_with last s ns ≡ ns ++ s ∷ [] = at_end ns last s so.ends (sound.once c) in
        let whole : e ≡ with_added c last s b = added in
        let chains : e.chains ≡ set b.chains c (linked_chain (ns ++ s ∷ []) false) = ap (λ (x : Holdings). x.chains) whole ∙ ap (λ ks. set b.chains c (linked_chain ks false)) more in
        let here : chain_at e c ≡ linked_chain (ns ++ s ∷ []) false =
        ap (λ cs. get_or cs c (linked_chain [] false)) chains ∙ get_or-set_same b.chains c (linked_chain (ns ++ s ∷ []) false) (linked_chain [] false) number_there in
        let nodes : (chain_at e c).nodes ≡ ns ++ s ∷ [] = ap (λ (x : LinkedChain). x.nodes) here in
        let spare : e.spare ≡ b.spare - 1 = ap (λ (x : Holdings). x.spare) whole in
        let old = so.spare in
        record {
          chains = chains ∙ ap (λ cs. set cs c (linked_chain (ns ++ s ∷ []) false)) so.chains ∙ set-set a.chains c (linked_chain ns false) (linked_chain (ns ++ s ∷ []) false)
              ∙ ap (λ ks. set a.chains c (linked_chain ks false)) (sym nodes);
          parts = ap (map part_of) nodes ∙ map-append part_of ns (s ∷ []) ∙ ap (λ ps. ps ++ (label, parent) ∷ []) so.parts
              ∙ ap (λ p. map (part_for before) (take i frontier) ++ p ∷ []) (ap (λ l. (l, parent)) same ∙ ap (λ o. ((get_or frontier i d).label, o)) from)
              ∙ sym (map-append (part_for before) (take i frontier) (get_or frontier i d ∷ [])) ∙ ap (map (part_for before)) (sym (take_more frontier i d low));
          ends = inr (ns, s, nodes, refl);
          spare = omega (arith, spare, old, some);
        }

    -- all are added
    pub append_all : length frontier ≤ i → Appends a b c frontier before
    append_all late = record { chains = so.chains; parts = so.parts ∙ ap (map (part_for before)) (take_all i frontier late) }

-- with room made before and the chain sealed behind, the frontier is added
pub added : (a m b e : Holdings) (c n : ℕ) (frontier : List Candidate) (before : List Reached) → c < length a.chains → m ≡ with_room n a → Appends m b c frontier before → e ≡ with_seal c b → AddsFrontier a e c frontier before
added a m b e c n frontier before low room h seal =
    let wide : m.chains ≡ a.chains = ap (λ (x : Holdings). x.chains) room in
    let ns = (chain_at b c).nodes in
    let long = ap length h.chains ∙ length-set m.chains c (linked_chain ns false) ∙ ap length wide in
    let there : c < length b.chains = omega (arith, long, low) in
    let chains : e.chains ≡ set b.chains c (linked_chain ns true) = ap (λ (x : Holdings). x.chains) seal in
    let nodes : (chain_at e c).nodes ≡ ns =
    ap (λ (cs : List LinkedChain). (get_or cs c (linked_chain [] false)).nodes) chains ∙ ap (λ (x : LinkedChain). x.nodes) (get_or-set_same b.chains c (linked_chain ns true) (linked_chain [] false) there) in
    record {
      chains = chains ∙ ap (λ cs. set cs c (linked_chain ns true)) (h.chains ∙ ap (λ cs. set cs c (linked_chain ns false)) wide) ∙ set-set a.chains c (linked_chain ns false) (linked_chain ns true)
          ∙ ap (λ ks. set a.chains c (linked_chain ks true)) (sym nodes);
      parts = ap (map part_of) nodes ∙ h.parts;
    }

-- ---- what an added frontier leaves

module _ (a b : Holdings) (c : ℕ) (frontier : List Candidate) (before : List Reached) (h : AddsFrontier a b c frontier before) where
  -- the other chains
  pub others_stay : (x : ℕ) → (x ≡ c → ⊥) → chain_at b x ≡ chain_at a x
  others_stay x ne =
      ap (λ cs. get_or cs x (linked_chain [] false)) h.chains ∙ get_or-set_other a.chains c x (linked_chain (chain_at b c).nodes true) (linked_chain [] false) ne

  -- as many chains
  pub added_count : length b.chains ≡ length a.chains
  added_count = ap length h.chains ∙ length-set a.chains c (linked_chain (chain_at b c).nodes true)

  -- its own chain, sealed
  pub added_sealed : c < length a.chains → (chain_at b c).sealed ≡ true
  added_sealed low =
      ap (λ (cs : List LinkedChain). (get_or cs c (linked_chain [] false)).sealed) h.chains
      ∙ ap (λ (x : LinkedChain). x.sealed) (get_or-set_same a.chains c (linked_chain (chain_at b c).nodes true) (linked_chain [] false) low)

  -- and so many nodes more
  pub added_nodes : c < length a.chains → (chain_at a c).nodes ≡ [] → node_count b ≡ node_count a + length frontier
  added_nodes low none =
      let ns = (chain_at b c).nodes in
      let sum = sum_by-set (λ (x : LinkedChain). length x.nodes) a.chains c (linked_chain ns true) (linked_chain [] false) low in
      let empty : length (chain_at a c).nodes ≡ 0 = ap length none in
      let many : length ns ≡ length frontier = sym (length-map ns part_of) ∙ ap length h.parts ∙ length-map frontier (part_for before) in
      let all : node_count b ≡ sum_by (λ (x : LinkedChain). length x.nodes) (set a.chains c (linked_chain ns true)) = ap (sum_by (λ (x : LinkedChain). length x.nodes)) h.chains in
      omega (arith, sum, empty, many, all)
