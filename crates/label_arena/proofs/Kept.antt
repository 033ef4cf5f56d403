-- What stands of an arena, before and after each change.
use Rattle.std.proofs.Common.{◌≡◌, ℕ, zero, suc, ◌+◌, ◌-◌, ◌<◌, ◌≤◌, Bool, true, false, List, [], ◌∷◌, Option, None, Some, length, get_or, set, map, refl, sym, ◌∙◌, ap, subst, ⊎_elim, arith, length-set}
use Rattle.std.specs.Prelude.{IfSome, option_map}
use Rattle.std.specs.List.{Contains}
use Rattle.std.proofs.lemmas.Bool.{cases_eq, cases_lt}
use Rattle.std.proofs.lemmas.List.{get_or-map, length-map, set-get_or}
use Rattle.label_arena.specs.Chains.{HasLabel, HasLink, HasNext, HasParent, HasParents, Holdings, IsNew, IsOpen, IsSound, LinkedChain, Standing, Stands, StandsAfter, StandsIn, chain_at, ids_of, label_behind, linked_chain, node_behind, node_count, nodes_holding, nodes_with, nodes_without, standing, standing_behind, times, with_added, with_dropped, with_raised, with_seal, without_found}
use Rattle.label_arena.specs.Links.{IsArena, Links, Lists, chain_from, chain_ids, head_at, heads_linked, heads_sealed, holdings, ids_from, ids_within, link_behind, node_at, nodes_linked, standing_at}
use Rattle.label_arena.specs.declared.node.Head.{Head}
use Rattle.label_arena.specs.declared.node.Node.{Node}
use Rattle.label_arena.specs.declared.node.NodeId.{NodeId}
use Rattle.label_arena.proofs.Counts.{IsPlaceIn, ids_with, ids_without}
use Rattle.label_arena.proofs.Moves.{added, chain_within, dropped, frees_are, free_alone, free_within, head_other, head_set, nowhere_else, once_there, raised, sealed, settled}
use Rattle.label_arena.proofs.Parents.{first_or_rest, from_holding, from_with, from_without, in_behind, in_ids, in_none, parents_stay}
use Rattle.label_arena.proofs.Views.{chain_by_head, chain_past, count_by_ids, held_linked, held_other, held_set, holding_map, holdings_changed, ids_stand, length_linked, nodes_are, sealed_linked, standings_same, stands_counted, stands_where, with_map, without_map}
use Rattle.label_arena.proofs.Walks.{behind_linked, first_linked, links_parts}

-- what is held, by equal nodes and beginnings
pub same_holdings : (nodes others : List Node) (heads firsts : List Head) (spare : ℕ) → nodes ≡ others → heads ≡ firsts → holdings nodes heads spare ≡ holdings others firsts spare
same_holdings nodes others heads firsts spare e w = ap (λ (ns : List Node). holdings ns heads spare) e ∙ ap (λ (hs : List Head). holdings others hs spare) w

-- what stands of an arena, by equal parts
pub same_arena : (nodes others : List Node) (heads firsts : List Head) (free start : Option NodeId) (spare : ℕ) → nodes ≡ others → heads ≡ firsts → free ≡ start → IsArena others firsts start spare → IsArena nodes heads free spare
same_arena nodes others heads firsts free start spare e w f a =
    subst (λ (ns : List Node). IsArena ns heads free spare) (sym e)
    (subst (λ (hs : List Head). IsArena others hs free spare) (sym w) (subst (λ (o : Option NodeId). IsArena others firsts o spare) (sym f) a))

-- no links lead along nothing
pub none_within : (n : ℕ) (nodes : List Node) → ids_within n nodes None ≡ []
none_within zero nodes = refl
none_within (suc n) nodes = refl

-- a node by the node of what it holds
pub id_mapped : (nodes : List Node) (o : Option NodeId) → o ≡ option_map (λ (s : Standing). s.node) (option_map (standing_at nodes) o)
id_mapped nodes None = refl
id_mapped nodes (Some k) = refl

-- what is among standing nodes is a node with what it holds
pub from_standings : (nodes : List Node) (is : List NodeId) (s : Standing) → Contains (map (standing_at nodes) is) s → s ≡ standing_at nodes s.node
from_standings nodes [] s h = absurd (in_none s h)
from_standings nodes (i ∷ is) s h =
    ⊎_elim
    (λ (e : standing_at nodes i ≡ s). subst (λ (x : Standing). x ≡ standing_at nodes x.node) e refl)
    (λ (r : Contains (map (standing_at nodes) is) s). from_standings nodes is s r)
    (first_or_rest (standing_at nodes i) (map (standing_at nodes) is) s h)

-- a node of a list is among those that stand there
pub to_standings : (nodes : List Node) (is : List NodeId) (k : NodeId) → Contains is k → Contains (map (standing_at nodes) is) (standing_at nodes k)
to_standings nodes is k h =
    (h.0, subst (λ (n : ℕ). h.0 < n) (sym (length-map is (standing_at nodes))) h.1, get_or-map (standing_at nodes) is h.0 k (standing_at nodes k) h.1 ∙ ap (standing_at nodes) h.2)

-- there are as many nodes where a link was set
pub length_nodes : (nodes : List Node) (after to : Option NodeId) → length (nodes_linked after to nodes) ≡ length nodes
length_nodes nodes None to = refl
length_nodes nodes (Some k) to = length-set nodes k.0 (record (node_at nodes k) { next = to })

module _ (nodes : List Node) (heads : List Head) (free : Option NodeId) (spare : ℕ) (a : IsArena nodes heads free spare) where
  -- what the arena holds
  abbrev pub here : Holdings
  here = holdings nodes heads spare

  -- the nodes of the chains
  abbrev pub chains : List (List NodeId)
  chains = chain_ids nodes heads

  -- the number of chains
  pub chain_number : length here.chains ≡ length heads
  chain_number = length-map heads (chain_from nodes)

  -- a node that stands in a chain is a node of the arena
  pub stands_within : (c : ℕ) (k : NodeId) → StandsIn here c k → k.0 < length nodes
  stands_within c k h =
      chain_within nodes heads free chains (ids_from nodes free) a.lists c k.0 (stands_where nodes heads spare c k h)
      (stands_counted nodes heads free chains (ids_from nodes free) a.lists spare c k h)

  -- the node of a place is a node of the arena
  pub place_within : (c : ℕ) (after : Option NodeId) → StandsAfter here c after → IfSome after (λ k. k.0 < length nodes)
  place_within c None h = tt
  place_within c (Some k) h = stands_within c k h

  -- a place of a chain is one in its list
  pub place_counted : (c : ℕ) (after : Option NodeId) → StandsAfter here c after → IsPlaceIn (get_or chains c []) after
  place_counted c None h = tt
  place_counted c (Some k) h = stands_counted nodes heads free chains (ids_from nodes free) a.lists spare c k h

  -- what stands at a place is what its link leads to
  pub behind_is : (c : ℕ) (after : Option NodeId) → c < length heads → StandsAfter here c after
      → standing_behind after (chain_at here c).nodes ≡ option_map (standing_at nodes) (link_behind nodes heads c after)
  behind_is c None lt h =
      ap (standing_behind None) (nodes_are nodes heads free chains (ids_from nodes free) a.lists spare c lt)
      ∙ first_linked nodes (head_at heads c).first (get_or chains c []) (a.lists.linked c lt)
  behind_is c (Some k) lt h =
      ap (standing_behind (Some k)) (nodes_are nodes heads free chains (ids_from nodes free) a.lists spare c lt)
      ∙ behind_linked nodes (head_at heads c).first (get_or chains c []) k (a.lists.linked c lt) (place_counted c (Some k) h)

  -- the nodes of a chain and the spare ones are all nodes
  pub all_counted : node_count here + spare ≡ length nodes
  all_counted = omega (arith, count_by_ids nodes heads spare, a.count, a.lists.whole)

  -- where no node is free none is spare
  pub spare_none : free ≡ None → spare ≡ 0
  spare_none e = a.count ∙ ap (λ (is : List NodeId). length is) (ap (ids_from nodes) e ∙ none_within (length nodes) nodes)

  -- no node stands twice, each parent stands in a sealed chain, and there are few nodes
  pub sound : IsSound here
  sound =
      record {
        once = λ c k. ⊎_elim
            (λ (lt : c < length heads).
            subst (λ (is : List NodeId). times k.0 is ≤ 1) (sym (ids_stand nodes heads free chains (ids_from nodes free) a.lists spare c lt))
            (⊎_elim
            (λ (some : 0 < times k.0 (get_or chains c [])).
            let one = once_there nodes heads free chains (ids_from nodes free) a.lists c k.0 lt some in
            omega (arith, one))
            (λ (none : times k.0 (get_or chains c []) ≤ 0). omega (arith, none))
            (cases_lt 0 (times k.0 (get_or chains c [])))))
            (λ (le : length heads ≤ c).
            subst (λ (x : LinkedChain). times k.0 (ids_of x.nodes) ≤ 1) (sym (chain_past nodes heads spare c le)) (omega arith))
            (cases_lt c (length heads));
        apart = λ c d k hc hd. ⊎_elim
            (λ (e : d ≡ c). sym e)
            (λ (ne : d ≡ c → ⊥).
            let some = stands_counted nodes heads free chains (ids_from nodes free) a.lists spare c k hc in
            let other = stands_counted nodes heads free chains (ids_from nodes free) a.lists spare d k hd in
            let none = nowhere_else nodes heads free chains (ids_from nodes free) a.lists c d k.0 (stands_where nodes heads spare c k hc) (stands_where nodes heads spare d k hd) ne some in
            absurd (omega (arith, none, other)))
            (cases_eq d c);
        parents = a.parents;
        few = omega (arith, all_counted, a.few);
      }

  -- ---- reading

  -- the first node of a chain
  pub first_read : (c : ℕ) → c < length heads → (head_at heads c).first ≡ node_behind None (chain_at here c).nodes
  first_read c lt =
      id_mapped nodes (head_at heads c).first ∙ sym (ap (option_map (λ (s : Standing). s.node)) (behind_is c None lt tt))

  -- the node behind one
  pub next_read : (k : NodeId) → HasNext here k (node_at nodes k).next
  next_read k c h =
      let lt = stands_where nodes heads spare c k h in
      id_mapped nodes (node_at nodes k).next ∙ sym (ap (option_map (λ (s : Standing). s.node)) (behind_is c (Some k) lt h))

  -- a node that stands in a chain with what it holds
  pub standing_read : (c : ℕ) (s : Standing) → Contains (chain_at here c).nodes s → s ≡ standing_at nodes s.node
  standing_read c s h =
      ⊎_elim
      (λ (lt : c < length heads).
      from_standings nodes (get_or chains c []) s (subst (λ (ns : List Standing). Contains ns s) (nodes_are nodes heads free chains (ids_from nodes free) a.lists spare c lt) h))
      (λ (le : length heads ≤ c). absurd (in_none s (subst (λ (x : LinkedChain). Contains x.nodes s) (chain_past nodes heads spare c le) h)))
      (cases_lt c (length heads))

  -- its label
  pub label_read : (k : NodeId) → HasLabel here k (node_at nodes k).label
  label_read k c s h e = ap (λ (i : NodeId). (node_at nodes i).label) (sym e) ∙ sym (ap (λ (x : Standing). x.label) (standing_read c s h))

  -- its parent
  pub parent_read : (k : NodeId) → HasLink here k (node_at nodes k).parent
  parent_read k c s h e = ap (λ (i : NodeId). (node_at nodes i).parent) (sym e) ∙ sym (ap (λ (x : Standing). x.parent) (standing_read c s h))

  -- a node that stands in a chain is among its nodes
  pub standing_there : (c : ℕ) (k : NodeId) → StandsIn here c k → Contains (chain_at here c).nodes (standing_at nodes k)
  standing_there c k h =
      let lt = stands_where nodes heads spare c k h in
      let there : Contains (get_or chains c []) k =
      subst (λ (is : List NodeId). Contains is k) (ids_stand nodes heads free chains (ids_from nodes free) a.lists spare c lt) h in
      subst (λ (ns : List Standing). Contains ns (standing_at nodes k)) (sym (nodes_are nodes heads free chains (ids_from nodes free) a.lists spare c lt))
      (to_standings nodes (get_or chains c []) k there)

  -- its parent stands in a sealed chain
  pub parent_stands : (k : NodeId) → Stands here k → HasParent here (node_at nodes k).parent
  parent_stands k h = a.parents h.0 (standing_at nodes k) (standing_there h.0 k h.1)

  -- ---- an open chain
  module _ (c : ℕ) (o : IsOpen here c) where
    -- it is there
    pub open_within : c < length heads
    open_within = subst (λ (n : ℕ). c < n) chain_number o.0

    -- its beginning is not sealed
    pub open_head : (head_at heads c).sealed ≡ false
    open_head = sym (ap (λ (x : LinkedChain). x.sealed) (chain_by_head nodes heads spare c open_within)) ∙ o.1

    -- its nodes
    pub open_nodes : (chain_at here c).nodes ≡ map (standing_at nodes) (get_or chains c [])
    open_nodes = nodes_are nodes heads free chains (ids_from nodes free) a.lists spare c open_within

    -- what it changes to leaves all parents in sealed chains
    pub open_parents : (ns : List Standing) (flag : Bool) (now : ℕ) → ((s : Standing) → Contains ns s → HasParent here s.parent)
        → HasParents (record { chains = set here.chains c (linked_chain ns flag); spare = now })
    open_parents ns flag now new = parents_stay here c ns flag now o a.parents new

    -- ---- a node behind a place is given up
    module _ (after : Option NodeId) (place : StandsAfter here c after) where
      -- there is none
      pub none_label : link_behind nodes heads c after ≡ None → label_behind after (chain_at here c).nodes ≡ None
      none_label e = ap (option_map (λ (s : Standing). s.label)) (behind_is c after open_within place ∙ ap (option_map (standing_at nodes)) e)

      -- then all is as before
      pub none_dropped : link_behind nodes heads c after ≡ None → with_dropped c after here ≡ here
      none_dropped e = ap (λ (s : Option Standing). without_found s c after here) (behind_is c after open_within place ∙ ap (option_map (standing_at nodes)) e)

      module _ (d : NodeId) (link : link_behind nodes heads c after ≡ Some d) where
        -- the nodes then
        abbrev pub nodes_left : List Node
        nodes_left = nodes_linked (Some d) free (nodes_linked after (node_at nodes d).next nodes)

        -- the beginnings then
        abbrev pub heads_left : List Head
        heads_left = heads_linked c after (node_at nodes d).next heads

        -- what stood there
        pub found : standing_behind after (chain_at here c).nodes ≡ Some (standing_at nodes d)
        found = behind_is c after open_within place ∙ ap (option_map (standing_at nodes)) link

        -- its label
        pub dropped_label : label_behind after (chain_at here c).nodes ≡ Some (node_at nodes d).label
        dropped_label = ap (option_map (λ (s : Standing). s.label)) found

        -- it is a node of the arena
        pub dropped_within : d.0 < length nodes
        dropped_within =
            let there : Contains (chain_at here c).nodes (standing_at nodes d) = in_behind after (chain_at here c).nodes (standing_at nodes d) found in
            stands_within c d (in_ids (chain_at here c).nodes (standing_at nodes d) there)

        -- the lists then
        pub lists_left : Lists nodes_left heads_left (Some d) (set chains c (ids_without after (get_or chains c []))) (d ∷ ids_from nodes free)
        lists_left = dropped nodes heads free chains (ids_from nodes free) a.lists c open_within d after (place_counted c after place) link

        -- what is held then
        pub holds_left : holdings nodes_left heads_left (spare + 1) ≡ with_dropped c after here
        holds_left =
            let held : (i : NodeId) → standing_at nodes_left i ≡ standing_at nodes i =
            λ i. held_linked (nodes_linked after (node_at nodes d).next nodes) (Some d) free i ∙ held_linked nodes after (node_at nodes d).next i in
            let same : (is : List NodeId) → map (standing_at nodes_left) is ≡ map (standing_at nodes) is = λ is. standings_same nodes nodes_left is (λ i h. held i) in
            holdings_changed nodes heads free chains (ids_from nodes free) a.lists nodes_left heads_left (Some d) c (ids_without after (get_or chains c [])) (d ∷ ids_from nodes free) lists_left
            (nodes_without after (chain_at here c).nodes) false spare (spare + 1) (length_linked heads c after (node_at nodes d).next) open_within
            (sealed_linked heads c after (node_at nodes d).next c open_within ∙ open_head)
            (without_map nodes_left after (get_or chains c []) ∙ ap (nodes_without after) (same (get_or chains c []) ∙ sym open_nodes))
            (λ e ne. sealed_linked heads c after (node_at nodes d).next e open_within)
            (λ e le ne. same (get_or chains e []))
            ∙ sym (ap (λ (s : Option Standing). without_found s c after here) found)

        -- what stands then
        pub stands_left : IsArena nodes_left heads_left (Some d) (spare + 1)
        stands_left =
            let frees = ap (λ (is : List NodeId). length is) (frees_are nodes_left heads_left (Some d) (set chains c (ids_without after (get_or chains c []))) (d ∷ ids_from nodes free) lists_left) in
            let kept : HasParents (with_dropped c after here) =
            subst (λ (s : Option Standing). HasParents (without_found s c after here)) (sym found)
            (open_parents (nodes_without after (chain_at here c).nodes) false (spare + 1) (λ s h. a.parents c s (from_without after (chain_at here c).nodes s h))) in
            record {
              lists = settled nodes_left heads_left (Some d) (set chains c (ids_without after (get_or chains c []))) (d ∷ ids_from nodes free) lists_left;
              count = omega (arith, frees, a.count);
              few = omega (arith, a.few, length_nodes (nodes_linked after (node_at nodes d).next nodes) (Some d) free, length_nodes nodes after (node_at nodes d).next);
              parents = subst HasParents (sym holds_left) kept;
            }

    -- ---- a node holds something else
    module _ (k : NodeId) (held : Node) (in_chain : StandsIn here c k) (next : held.next ≡ (node_at nodes k).next) (fits : HasParent here held.parent) where
      -- what it holds now
      abbrev pub changed : Standing
      changed = standing k held.label held.parent

      -- the lists then
      pub lists_changed : Lists (set nodes k.0 held) heads free (set chains c (get_or chains c [])) (ids_from nodes free)
      lists_changed =
          subst (λ (cs : List (List NodeId)). Lists (set nodes k.0 held) heads free cs (ids_from nodes free)) (sym (set-get_or chains c []))
          (raised nodes heads free chains (ids_from nodes free) a.lists k held (stands_within c k in_chain) next)

      -- what is held then
      pub holds_changed : holdings (set nodes k.0 held) heads spare ≡ with_raised c changed here
      holds_changed =
          let some = stands_counted nodes heads free chains (ids_from nodes free) a.lists spare c k in_chain in
          holdings_changed nodes heads free chains (ids_from nodes free) a.lists (set nodes k.0 held) heads free c (get_or chains c []) (ids_from nodes free) lists_changed
          (nodes_holding changed (chain_at here c).nodes) false spare spare refl open_within open_head
          (holding_map nodes k held (get_or chains c []) (stands_within c k in_chain) ∙ ap (nodes_holding changed) (sym open_nodes))
          (λ e ne. refl)
          (λ e le ne. standings_same nodes (set nodes k.0 held) (get_or chains e [])
          (λ i h. held_other nodes k i held
          (λ w.
          let none = nowhere_else nodes heads free chains (ids_from nodes free) a.lists c e k.0 open_within le ne some in
          omega (arith, none, subst (λ (n : ℕ). 0 < times n (get_or chains e [])) w h))))

      -- what stands then
      pub stands_changed : IsArena (set nodes k.0 held) heads free spare
      stands_changed =
          let frees = ap (λ (is : List NodeId). length is) (frees_are (set nodes k.0 held) heads free (set chains c (get_or chains c [])) (ids_from nodes free) lists_changed) in
          record {
            lists = settled (set nodes k.0 held) heads free (set chains c (get_or chains c [])) (ids_from nodes free) lists_changed;
            count = a.count ∙ sym frees;
            few = omega (arith, a.few, length-set nodes k.0 held);
            parents = subst HasParents (sym holds_changed)
                (open_parents (nodes_holding changed (chain_at here c).nodes) false spare
                (λ s h. ⊎_elim (λ (e : changed ≡ s). subst (λ (x : Standing). HasParent here x.parent) e fits) (λ q. a.parents c s q) (from_holding changed (chain_at here c).nodes s h)));
          }

    -- ---- it is sealed

    -- the lists then
    pub lists_sealed : Lists nodes (heads_sealed c heads) free (set chains c (get_or chains c [])) (ids_from nodes free)
    lists_sealed =
        subst (λ (cs : List (List NodeId)). Lists nodes (heads_sealed c heads) free cs (ids_from nodes free)) (sym (set-get_or chains c []))
        (sealed nodes heads free chains (ids_from nodes free) a.lists c open_within)

    -- what is held then
    pub holds_sealed : holdings nodes (heads_sealed c heads) spare ≡ with_seal c here
    holds_sealed =
        let head : Head = record (head_at heads c) { sealed = true } in
        holdings_changed nodes heads free chains (ids_from nodes free) a.lists nodes (heads_sealed c heads) free c (get_or chains c []) (ids_from nodes free) lists_sealed
        (chain_at here c).nodes true spare spare (length-set heads c head) open_within (ap (λ (h : Head). h.sealed) (head_set heads c head open_within))
        (sym open_nodes) (λ e ne. ap (λ (h : Head). h.sealed) (head_other heads c e head ne)) (λ e le ne. refl)

    -- what stands then
    pub stands_sealed : IsArena nodes (heads_sealed c heads) free spare
    stands_sealed =
        record {
          lists = settled nodes (heads_sealed c heads) free (set chains c (get_or chains c [])) (ids_from nodes free) lists_sealed;
          count = a.count;
          few = a.few;
          parents = subst HasParents (sym holds_sealed) (open_parents (chain_at here c).nodes true spare (λ s h. a.parents c s h));
        }

-- ---- a spare node goes to a place of an open chain

module _ (nodes : List Node) (heads : List Head) (f : NodeId) (spare : ℕ) (a : IsArena nodes heads (Some f) spare) (c : ℕ) (o : IsOpen (holdings nodes heads spare) c) where
  -- the node and the other free ones
  pub parts : (rest : List NodeId) × (ids_from nodes (Some f) ≡ f ∷ rest) × Links nodes (node_at nodes f).next rest
  parts = links_parts nodes f (ids_from nodes (Some f)) a.lists.unused

  -- the lists, with it first
  pub lists_apart : Lists nodes heads (Some f) (chain_ids nodes heads) (f ∷ parts.0)
  lists_apart = subst (λ (fs : List NodeId). Lists nodes heads (Some f) (chain_ids nodes heads) fs) parts.1 a.lists

  -- the chain is there
  pub chain_there : c < length heads
  chain_there = open_within nodes heads (Some f) spare a c o

  -- the node is in no chain
  pub in_no_chain : (d : ℕ) → d < length heads → times f.0 (get_or (chain_ids nodes heads) d []) ≡ 0
  in_no_chain d ld = free_alone nodes heads (chain_ids nodes heads) f parts.0 lists_apart c chain_there (node_at nodes f) d ld

  -- it stands nowhere
  pub is_new : IsNew (holdings nodes heads spare) f
  is_new h =
      let some = stands_counted nodes heads (Some f) (chain_ids nodes heads) (ids_from nodes (Some f)) a.lists spare h.0 f h.1 in
      omega (arith, some, in_no_chain h.0 (stands_where nodes heads spare h.0 f h.1))

  -- it is a node of the arena
  pub new_within : f.0 < length nodes
  new_within = free_within nodes heads (chain_ids nodes heads) f parts.0 lists_apart c chain_there (node_at nodes f)

  module _ (after : Option NodeId) (place : StandsAfter (holdings nodes heads spare) c after) (held : Node) (next : held.next ≡ link_behind nodes heads c after) (fits : HasParent (holdings nodes heads spare) held.parent) where
    -- what it holds
    abbrev pub new : Standing
    new = standing f held.label held.parent

    -- the nodes then
    abbrev pub nodes_then : List Node
    nodes_then = nodes_linked after (Some f) (set nodes f.0 held)

    -- the beginnings then
    abbrev pub heads_then : List Head
    heads_then = heads_linked c after (Some f) heads

    -- the lists then
    pub lists_then : Lists nodes_then heads_then (node_at nodes f).next (set (chain_ids nodes heads) c (ids_with after f (get_or (chain_ids nodes heads) c []))) parts.0
    lists_then =
        added nodes heads (chain_ids nodes heads) f parts.0 lists_apart c chain_there held after (place_counted nodes heads (Some f) spare a c after place) next

    -- what the nodes of a chain hold then
    pub held_then : (d : ℕ) → d < length heads → map (standing_at nodes_then) (get_or (chain_ids nodes heads) d []) ≡ map (standing_at nodes) (get_or (chain_ids nodes heads) d [])
    held_then d ld =
        standings_same nodes nodes_then (get_or (chain_ids nodes heads) d [])
        (λ i h. held_linked (set nodes f.0 held) after (Some f) i
        ∙ held_other nodes f i held (λ w. omega (arith, in_no_chain d ld, subst (λ (n : ℕ). 0 < times n (get_or (chain_ids nodes heads) d [])) w h)))

    -- what is held then
    pub holds_then : holdings nodes_then heads_then (spare - 1) ≡ with_added c after new (holdings nodes heads spare)
    holds_then =
        let ids : List NodeId = get_or (chain_ids nodes heads) c [] in
        let itself : standing_at nodes_then f ≡ new = held_linked (set nodes f.0 held) after (Some f) f ∙ held_set nodes f held new_within in
        holdings_changed nodes heads (Some f) (chain_ids nodes heads) (ids_from nodes (Some f)) a.lists nodes_then heads_then (node_at nodes f).next c (ids_with after f ids) parts.0 lists_then
        (nodes_with after new (chain_at (holdings nodes heads spare) c).nodes) false spare (spare - 1) (length_linked heads c after (Some f)) chain_there
        (sealed_linked heads c after (Some f) c chain_there ∙ open_head nodes heads (Some f) spare a c o)
        (with_map nodes_then after f ids
        ∙ (ap (λ (s : Standing). nodes_with after s (map (standing_at nodes_then) ids)) itself
        ∙ ap (nodes_with after new) (held_then c chain_there ∙ sym (open_nodes nodes heads (Some f) spare a c o))))
        (λ d ne. sealed_linked heads c after (Some f) d chain_there)
        (λ d ld ne. held_then d ld)

    -- what stands then
    pub stands_then : IsArena nodes_then heads_then (node_at nodes f).next (spare - 1)
    stands_then =
        let lists : List (List NodeId) = set (chain_ids nodes heads) c (ids_with after f (get_or (chain_ids nodes heads) c [])) in
        let frees = ap (λ (is : List NodeId). length is) (frees_are nodes_then heads_then (node_at nodes f).next lists parts.0 lists_then) in
        let old = ap (λ (is : List NodeId). length is) parts.1 in
        record {
          lists = settled nodes_then heads_then (node_at nodes f).next lists parts.0 lists_then;
          count = omega (arith, frees, old, a.count);
          few = omega (arith, a.few, length_nodes (set nodes f.0 held) after (Some f), length-set nodes f.0 held);
          parents = subst HasParents (sym holds_then)
              (open_parents nodes heads (Some f) spare a c o (nodes_with after new (chain_at (holdings nodes heads spare) c).nodes) false (spare - 1)
              (λ s h. ⊎_elim (λ (e : new ≡ s). subst (λ (x : Standing). HasParent (holdings nodes heads spare) x.parent) e fits) (λ q. a.parents c s q)
              (from_with after new (chain_at (holdings nodes heads spare) c).nodes s h)));
        }
