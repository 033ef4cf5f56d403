-- Room: nodes that are added at the end and strung to the free list.
use Rattle.std.proofs.Common.{◌≡◌, ℕ, zero, suc, ◌+◌, ◌-◌, ◌<◌, ◌≤◌, List, [], ◌∷◌, ◌++◌, Option, None, Some, length, get_or, set, map, refl, sym, ◌∙◌, ap, subst, ⊎_elim, arith, length-set, length-append}
use Rattle.std.specs.Prelude.{max, replicate}
use Rattle.std.specs.List.{Contains, sum_by}
use Rattle.std.proofs.lemmas.Bool.{cases_eq, cases_lt}
use Rattle.std.proofs.lemmas.List.{ext_get_or, get_or-map, get_or-replicate, get_or_append_left, length-map, length-replicate}
use Rattle.label_arena.specs.Chains.{HasParents, Holdings, LinkedChain, Standing, chain_at, empty_holdings, linked_chain, node_count, standing, times, with_room}
use Rattle.label_arena.specs.Links.{IsArena, Links, Lists, blank, chain_from, chain_ids, free_after, head_at, holdings, ids_from, no_head, node_at, node_length, node_of, nodes_linked, nodes_strung, standing_at}
use Rattle.label_arena.specs.declared.node.Head.{Head}
use Rattle.label_arena.specs.declared.node.Node.{Node}
use Rattle.label_arena.specs.declared.node.NodeId.{NodeId}
use Rattle.label_arena.proofs.Counts.{all_zero, counted_first, counted_rest}
use Rattle.label_arena.proofs.Kept.{all_counted}
use Rattle.label_arena.proofs.Moves.{chain_within, frees_are, settled}
use Rattle.label_arena.proofs.Parents.{in_none}
use Rattle.label_arena.proofs.Views.{chain_by_head, chain_is, chain_past, held_linked, no_chain, standings_same}
use Rattle.label_arena.proofs.Walks.{at_set, linked_within, links_apart, links_more, links_step}

-- the nodes of a list to which those from a place on, so many, were strung
abbrev pub ids_strung : ℕ → ℕ → List NodeId → List NodeId
ids_strung from zero fs = fs
ids_strung from (suc n) fs = node_of (from + n) ∷ ids_strung from n fs

-- a node before them is there as often as it was
pub strung_before : (from n m : ℕ) (fs : List NodeId) → m < from → times m (ids_strung from n fs) ≡ times m fs
strung_before from zero m fs lt = refl
strung_before from (suc n) m fs lt =
    counted_rest m (node_of (from + n)) (ids_strung from n fs) (λ e. omega (arith, lt, e)) ∙ strung_before from n m fs lt

-- and so is one behind them
pub strung_behind : (from n m : ℕ) (fs : List NodeId) → from + n ≤ m → times m (ids_strung from n fs) ≡ times m fs
strung_behind from zero m fs le = refl
strung_behind from (suc n) m fs le =
    counted_rest m (node_of (from + n)) (ids_strung from n fs) (λ e. omega (arith, le, e)) ∙ strung_behind from n m fs (omega (arith, le))

-- each of them is there once more
pub strung_among : (from n m : ℕ) (fs : List NodeId) → from ≤ m → m < from + n → times m (ids_strung from n fs) ≡ 1 + times m fs
strung_among from zero m fs low high = absurd (omega (arith, low, high))
strung_among from (suc n) m fs low high =
    ⊎_elim
    (λ (e : m ≡ from + n).
    counted_first m (node_of (from + n)) (ids_strung from n fs) e ∙ ap (λ (x : ℕ). 1 + x) (strung_behind from n m fs (omega (arith, e))))
    (λ (ne : m ≡ from + n → ⊥).
    counted_rest m (node_of (from + n)) (ids_strung from n fs) ne ∙ strung_among from n m fs low (omega (arith, high, ne)))
    (cases_eq m (from + n))

-- the list is longer by so many
pub length_strung : (from n : ℕ) (fs : List NodeId) → length (ids_strung from n fs) ≡ n + length fs
length_strung from zero fs = omega arith
length_strung from (suc n) fs =
    let rest = length_strung from n fs in
    omega (arith, rest)

-- there are as many nodes
pub nodes_as_many : (from n : ℕ) (list : Option NodeId) (nodes : List Node) → length (nodes_strung from n list nodes) ≡ length nodes
nodes_as_many from zero list nodes = refl
nodes_as_many from (suc n) list nodes =
    let before : List Node = nodes_strung from n list nodes in
    length-set before (from + n) (record (node_at before (node_of (from + n))) { next = free_after from n list }) ∙ nodes_as_many from n list nodes

-- the links lead along the strung nodes
pub links_strung : (nodes : List Node) (from n : ℕ) (list : Option NodeId) (fs : List NodeId) → from + n ≤ length nodes → ((m : ℕ) → from ≤ m → times m fs ≡ 0) → Links nodes list fs
    → Links (nodes_strung from n list nodes) (free_after from n list) (ids_strung from n fs)
links_strung nodes from zero list fs le none p = p
links_strung nodes from (suc n) list fs le none p =
    let k : NodeId = node_of (from + n) in
    let before : List Node = nodes_strung from n list nodes in
    let x : Node = record (node_at before k) { next = free_after from n list } in
    let len = nodes_as_many from n list nodes in
    let within : k.0 < length before = omega (arith, len, le) in
    let rest = links_strung nodes from n list fs (omega (arith, le)) none p in
    links_step (set before k.0 x) k k (ids_strung from n fs) (free_after from n list) refl (omega (arith, within, length-set before k.0 x)) (ap (λ (y : Node). y.next) (at_set before k x within))
    (links_apart before k x (free_after from n list) (ids_strung from n fs) (strung_behind from n k.0 fs (omega arith) ∙ none k.0 (omega arith)) rest)

-- other links stay
pub links_beside : (nodes : List Node) (from n : ℕ) (list : Option NodeId) (at : Option NodeId) (is : List NodeId) → ((m : ℕ) → from ≤ m → times m is ≡ 0) → Links nodes at is
    → Links (nodes_strung from n list nodes) at is
links_beside nodes from zero list at is none p = p
links_beside nodes from (suc n) list at is none p =
    let k : NodeId = node_of (from + n) in
    let before : List Node = nodes_strung from n list nodes in
    let x : Node = record (node_at before k) { next = free_after from n list } in
    links_apart before k x at is (none k.0 (omega arith)) (links_beside nodes from n list at is none p)

-- the nodes hold what they held
pub held_strung : (nodes : List Node) (from n : ℕ) (list : Option NodeId) (i : NodeId) → standing_at (nodes_strung from n list nodes) i ≡ standing_at nodes i
held_strung nodes from zero list i = refl
held_strung nodes from (suc n) list i = held_linked (nodes_strung from n list nodes) (Some (node_of (from + n))) (free_after from n list) i ∙ held_strung nodes from n list i

-- one more node that is strung
pub nodes_more : (nodes : List Node) (from place : ℕ) (list : Option NodeId) → from ≤ place
    → nodes_strung from (place + 1 - from) list nodes ≡ nodes_linked (Some (node_of place)) (free_after from (place - from) list) (nodes_strung from (place - from) list nodes)
nodes_more nodes from place list le =
    let n : ℕ = place - from in
    let one : place + 1 - from ≡ suc n = omega (arith, le) in
    let at : from + n ≡ place = omega (arith, le) in
    ap (λ (x : ℕ). nodes_strung from x list nodes) one ∙ ap (λ (x : ℕ). nodes_linked (Some (node_of x)) (free_after from n list) (nodes_strung from n list nodes)) at

-- where the list then begins
pub free_more : (from place : ℕ) (list : Option NodeId) → from ≤ place → free_after from (place + 1 - from) list ≡ Some (node_of place)
free_more from place list le =
    let one : place + 1 - from ≡ suc (place - from) = omega (arith, le) in
    let at : from + (place - from) ≡ place = omega (arith, le) in
    ap (λ (x : ℕ). free_after from x list) one ∙ ap (λ (x : ℕ). Some (node_of x)) at

-- before the first node is strung
pub nodes_none : (nodes : List Node) (from : ℕ) (list : Option NodeId) → nodes_strung from (from - from) list nodes ≡ nodes
nodes_none nodes from list =
    let none : from - from ≡ 0 = omega arith in
    ap (λ (x : ℕ). nodes_strung from x list nodes) none

-- where the list then begins
pub free_none : (from : ℕ) (list : Option NodeId) → free_after from (from - from) list ≡ list
free_none from list =
    let none : from - from ≡ 0 = omega arith in
    ap (λ (x : ℕ). free_after from x list) none

-- ---- more nodes

module _ (nodes : List Node) (heads : List Head) (free : Option NodeId) (chains : List (List NodeId)) (frees : List NodeId) (l : Lists nodes heads free chains frees) (n : ℕ) where
  -- the nodes with so many blank ones
  abbrev pub nodes_longer : List Node
  nodes_longer = nodes ++ replicate n blank

  -- of which those were strung to the free list
  abbrev pub nodes_room : List Node
  nodes_room = nodes_strung (length nodes) n free nodes_longer

  -- there are so many more
  pub length_room : length nodes_room ≡ length nodes + n
  length_room =
      let all = nodes_as_many (length nodes) n free nodes_longer in
      let sum = length-append nodes (replicate n blank) in
      let more = length-replicate n blank in
      omega (arith, all, sum, more)

  -- none of them is in a chain
  pub not_chained : (c : ℕ) → c < length heads → (m : ℕ) → length nodes ≤ m → times m (get_or chains c []) ≡ 0
  not_chained c lc m le =
      ⊎_elim
      (λ (some : 0 < times m (get_or chains c [])).
      let within = chain_within nodes heads free chains frees l c m lc some in
      absurd (omega (arith, within, le)))
      (λ (none : times m (get_or chains c []) ≤ 0). omega (arith, none))
      (cases_lt 0 (times m (get_or chains c [])))

  -- none of them was free
  pub not_freed : (m : ℕ) → length nodes ≤ m → times m frees ≡ 0
  not_freed m le =
      ⊎_elim
      (λ (some : 0 < times m frees).
      let within = linked_within nodes free frees m l.unused some in
      absurd (omega (arith, within, le)))
      (λ (none : times m frees ≤ 0). omega (arith, none))
      (cases_lt 0 (times m frees))

  -- the lists then
  pub lists_room : Lists nodes_room heads (free_after (length nodes) n free) chains (ids_strung (length nodes) n frees)
  lists_room =
      let sum = length-append nodes (replicate n blank) in
      let more = length-replicate n blank in
      record {
        count = l.count;
        linked = λ c lc.
            links_beside nodes_longer (length nodes) n free (head_at heads c).first (get_or chains c []) (not_chained c lc)
            (links_more nodes (replicate n blank) (head_at heads c).first (get_or chains c []) (l.linked c lc));
        unused =
            links_strung nodes_longer (length nodes) n free frees (omega (arith, sum, more)) not_freed (links_more nodes (replicate n blank) free frees l.unused);
        once = λ m lt.
            ⊎_elim
            (λ (old : m < length nodes). ap (λ (x : ℕ). sum_by (times m) chains + x) (strung_before (length nodes) n m frees old) ∙ l.once m old)
            (λ (new : length nodes ≤ m).
            let chained = all_zero (times m) [] chains (λ c lc. not_chained c (omega (arith, lc, l.count)) m new) in
            let freed = not_freed m new in
            let one = strung_among (length nodes) n m frees new (omega (arith, lt, length_room)) in
            omega (arith, chained, freed, one))
            (cases_lt m (length nodes));
        whole =
            let longer = length_strung (length nodes) n frees in
            omega (arith, l.whole, longer, length_room);
      }

  -- what is held then
  pub chains_room : map (chain_from nodes_room) heads ≡ map (chain_from nodes) heads
  chains_room =
      ext_get_or no_chain (map (chain_from nodes_room) heads) (map (chain_from nodes) heads) (length-map heads (chain_from nodes_room) ∙ sym (length-map heads (chain_from nodes)))
      (λ d ld.
      let at : d < length heads = subst (λ (x : ℕ). d < x) (length-map heads (chain_from nodes_room)) ld in
      let same : map (standing_at nodes_room) (get_or chains d []) ≡ map (standing_at nodes) (get_or chains d []) =
      standings_same nodes nodes_room (get_or chains d [])
      (λ i h.
      held_strung nodes_longer (length nodes) n free i
      ∙ ap (λ (y : Node). standing i y.label y.parent) (get_or_append_left nodes (replicate n blank) blank i.0 (chain_within nodes heads free chains frees l d i.0 at h))) in
      get_or-map (chain_from nodes_room) heads d no_head no_chain at
      ∙ (chain_is nodes_room heads (free_after (length nodes) n free) chains (ids_strung (length nodes) n frees) lists_room 0 d at
      ∙ (ap (λ (ss : List Standing). linked_chain ss (head_at heads d).sealed) same
      ∙ (sym (chain_is nodes heads free chains frees l 0 d at)
      ∙ sym (get_or-map (chain_from nodes) heads d no_head no_chain at)))))

module _ (nodes : List Node) (heads : List Head) (free : Option NodeId) (spare : ℕ) (a : IsArena nodes heads free spare) (n : ℕ) (more : spare < n) where
  -- the nodes then
  abbrev pub nodes_wide : List Node
  nodes_wide = nodes_strung (length nodes) (n - spare) free (nodes ++ replicate (n - spare) blank)

  -- where the free list then begins
  abbrev pub free_wide : Option NodeId
  free_wide = free_after (length nodes) (n - spare) free

  -- what is held then
  pub holds_wide : holdings nodes_wide heads n ≡ with_room n (holdings nodes heads spare)
  holds_wide =
      let most : n ≡ max n spare = omega (arith, more) in
      ap (λ (cs : List LinkedChain). let h : Holdings = record { chains = cs; spare = n } in h) (chains_room nodes heads free (chain_ids nodes heads) (ids_from nodes free) a.lists (n - spare))
      ∙ ap (λ (x : ℕ). let h : Holdings = record { chains = map (chain_from nodes) heads; spare = x } in h) most

  -- what stands then
  pub stands_wide : node_count (holdings nodes heads spare) + n ≤ 4000000 → IsArena nodes_wide heads free_wide n
  stands_wide few =
      let lists = lists_room nodes heads free (chain_ids nodes heads) (ids_from nodes free) a.lists (n - spare) in
      let strung : List NodeId = ids_strung (length nodes) (n - spare) (ids_from nodes free) in
      let frees = ap (λ (is : List NodeId). length is) (frees_are nodes_wide heads free_wide (chain_ids nodes heads) strung lists) in
      let longer = length_strung (length nodes) (n - spare) (ids_from nodes free) in
      let len = length_room nodes heads free (chain_ids nodes heads) (ids_from nodes free) a.lists (n - spare) in
      let all = all_counted nodes heads free spare a in
      record {
        lists = settled nodes_wide heads free_wide (chain_ids nodes heads) strung lists;
        count = omega (arith, frees, longer, a.count, more);
        few = omega (arith, len, all, few, more);
        parents = subst HasParents (sym holds_wide) a.parents;
      }

-- what was built: so many blank nodes behind all, strung to the free list
module _ (nodes longer : List Node) (free : Option NodeId) (from more : ℕ) (e : longer ≡ nodes ++ replicate more blank) (w : from ≡ length nodes) where
  -- the nodes from the old end on are the new ones
  pub built : length longer - from ≡ more
  built =
      let all = ap (λ (ns : List Node). length ns) e in
      let sum = length-append nodes (replicate more blank) in
      let new = length-replicate more blank in
      omega (arith, all, sum, new, w)

  -- the nodes
  pub nodes_built : nodes_strung from (length longer - from) free longer ≡ nodes_strung (length nodes) more free (nodes ++ replicate more blank)
  nodes_built =
      ap (λ (n : ℕ). nodes_strung from n free longer) built
      ∙ (ap (λ (n : ℕ). nodes_strung n more free longer) w ∙ ap (λ (ns : List Node). nodes_strung (length nodes) more free ns) e)

  -- where the free list begins
  pub free_built : free_after from (length longer - from) free ≡ free_after (length nodes) more free
  free_built = ap (λ (n : ℕ). free_after from n free) built ∙ ap (λ (n : ℕ). free_after n more free) w

-- room that is there
pub room_there : (a : Holdings) (n : ℕ) → n ≤ a.spare → with_room n a ≡ a
room_there a n le =
    let most : max n a.spare ≡ a.spare = omega (arith, le) in
    ap (λ (x : ℕ). let h : Holdings = record { chains = a.chains; spare = x } in h) most

-- ---- an arena without nodes

-- its chains
pub chains_start : (n : ℕ) → map (chain_from []) (replicate n no_head) ≡ replicate n no_chain
chains_start zero = refl
chains_start (suc n) = ap (λ (cs : List LinkedChain). no_chain ∷ cs) (chains_start n)

-- what it holds
pub holds_start : (n spare : ℕ) → holdings [] (replicate n no_head) spare ≡ empty_holdings n spare
holds_start n spare = ap (λ (cs : List LinkedChain). let h : Holdings = record { chains = cs; spare = spare } in h) (chains_start n)

-- what it holds once there is room
pub room_start : (n room : ℕ) → with_room room (holdings [] (replicate n no_head) 0) ≡ empty_holdings n room
room_start n room =
    let most : max room 0 ≡ room = omega arith in
    ap (λ (a : Holdings). with_room room a) (holds_start n 0) ∙ ap (λ (x : ℕ). empty_holdings n x) most

-- no node stands in it
pub start_empty : (n c : ℕ) → (chain_at (holdings [] (replicate n no_head) 0) c).nodes ≡ []
start_empty n c =
    ⊎_elim
    (λ (lt : c < length (replicate n no_head)). ap (λ (x : LinkedChain). x.nodes) (chain_by_head [] (replicate n no_head) 0 c lt))
    (λ (le : length (replicate n no_head) ≤ c). ap (λ (x : LinkedChain). x.nodes) (chain_past [] (replicate n no_head) 0 c le))
    (cases_lt c (length (replicate n no_head)))

-- what stands of it
pub stands_start : (n : ℕ) → IsArena [] (replicate n no_head) None 0
stands_start n =
    let heads : List Head = replicate n no_head in
    let count = length-map heads (λ (h : Head). ids_from [] h.first) in
    let empty : (c : ℕ) → c < length heads → get_or (chain_ids [] heads) c [] ≡ [] =
    λ c lt. get_or-map (λ (h : Head). ids_from [] h.first) heads c no_head [] lt in
    let first : (c : ℕ) → c < length heads → head_at heads c ≡ no_head =
    λ c lt. get_or-replicate n c no_head no_head (subst (λ (x : ℕ). c < x) (length-replicate n no_head) lt) in
    let lists : Lists [] heads None (chain_ids [] heads) (ids_from [] None) =
    record {
      count = count;
      linked = λ c lt.
          subst (λ (is : List NodeId). Links [] (head_at heads c).first is) (sym (empty c lt))
          (subst (λ (h : Head). Links [] h.first []) (sym (first c lt)) tt);
      unused = tt;
      once = λ k lt. absurd (omega (arith, lt));
      whole =
          let none = all_zero node_length [] (chain_ids [] heads) (λ c lt. ap node_length (empty c (omega (arith, lt, count)))) in
          omega (arith, none);
    } in
    record {
      lists = lists;
      count = refl;
      few = omega arith;
      parents = λ c s h. absurd (in_none s (subst (λ (ns : List Standing). Contains ns s) (start_empty n c) h));
    }

-- it has no nodes in chains
pub none_start : (n : ℕ) → node_count (holdings [] (replicate n no_head) 0) ≡ 0
none_start n =
    let all = all_counted [] (replicate n no_head) None 0 (stands_start n) in
    omega (arith, all)
