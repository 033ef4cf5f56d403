-- What each change leaves of the chains and the free list.
use Rattle.std.proofs.Common.{◌≡◌, ℕ, ◌+◌, ◌<◌, true, List, [], ◌∷◌, Option, None, Some, length, get_or, set, refl, sym, ◌∙◌, ap, subst, ⊎_elim, arith, length-set, get_or-set_other, get_or-set_same}
use Rattle.std.proofs.lemmas.Bool.{cases_eq}
use Rattle.std.proofs.lemmas.List.{ext_get_or, get_or-map, length-map}
use Rattle.label_arena.specs.Chains.{one_at, times}
use Rattle.label_arena.specs.Links.{Links, Lists, chain_ids, head_at, heads_linked, ids_from, link_behind, no_head, node_at, node_length, nodes_linked, tally}
use Rattle.label_arena.specs.declared.node.Head.{Head}
use Rattle.label_arena.specs.declared.node.Node.{Node}
use Rattle.label_arena.specs.declared.node.NodeId.{NodeId}
use Rattle.label_arena.proofs.Counts.{IsPlaceIn, absent_parts, behind_first_id, counted_first, ids_with, ids_without, in_tally, not_free, not_in_chain, not_in_other, tally_kept, there_once, with_counts}
use Rattle.label_arena.proofs.Walks.{at_set, first_counted, leads_within, linked_within, links_apart, links_kept, links_parts, links_step, links_with, links_without, within_is, without_counts}

-- the length counts each node once
pub length_step : (i : NodeId) (is : List NodeId) → node_length (i ∷ is) ≡ 1 + node_length is
length_step i is = omega arith

-- a count of a node counts it where it is
pub times_step : (k : ℕ) (i : NodeId) (is : List NodeId) → times k (i ∷ is) ≡ one_at k i + times k is
times_step k i is = refl

-- where a list begins that was set
pub head_set : (heads : List Head) (c : ℕ) (h : Head) → c < length heads → head_at (set heads c h) c ≡ h
head_set heads c h lt = get_or-set_same heads c h no_head lt

-- another than the one that was set
pub head_other : (heads : List Head) (c d : ℕ) (h : Head) → (d ≡ c → ⊥) → head_at (set heads c h) d ≡ head_at heads d
head_other heads c d h ne = get_or-set_other heads c d h no_head ne

module _ (nodes : List Node) (heads : List Head) (free : Option NodeId) (chains : List (List NodeId)) (frees : List NodeId) (l : Lists nodes heads free chains frees) where
  -- there are as many lists as chains
  pub inside : (c : ℕ) → c < length heads → c < length chains
  inside c lt = omega (arith, l.count, lt)

  -- following the links of a chain gives its nodes
  pub ids_are : (c : ℕ) → c < length heads → ids_from nodes (head_at heads c).first ≡ get_or chains c []
  ids_are c lt =
      let some = in_tally node_length chains c frees (inside c lt) in
      within_is (length nodes) nodes (head_at heads c).first (get_or chains c []) (l.linked c lt) (omega (arith, some, l.whole))

  -- following the free list gives the free nodes
  pub frees_are : ids_from nodes free ≡ frees
  frees_are = within_is (length nodes) nodes free frees l.unused (omega (arith, l.whole))

  -- the nodes of each chain
  pub chains_are : chain_ids nodes heads ≡ chains
  chains_are =
      ext_get_or [] (chain_ids nodes heads) chains (length-map heads (λ (h : Head). ids_from nodes h.first) ∙ sym l.count)
      (λ c lt.
      let within : c < length heads = subst (λ (n : ℕ). c < n) (length-map heads (λ (h : Head). ids_from nodes h.first)) lt in
      get_or-map (λ (h : Head). ids_from nodes h.first) heads c no_head [] within ∙ ids_are c within)

  -- the lists are those that the links give
  pub settled : Lists nodes heads free (chain_ids nodes heads) (ids_from nodes free)
  settled =
      subst (λ (cs : List (List NodeId)). Lists nodes heads free cs (ids_from nodes free)) (sym chains_are)
      (subst (λ (fs : List NodeId). Lists nodes heads free chains fs) (sym frees_are) l)

  -- a node of a chain is a node of the arena
  pub chain_within : (c k : ℕ) → c < length heads → 0 < times k (get_or chains c []) → k < length nodes
  chain_within c k lt h = linked_within nodes (head_at heads c).first (get_or chains c []) k (l.linked c lt) h

  -- a node of a chain is there once
  pub once_there : (c k : ℕ) → c < length heads → 0 < times k (get_or chains c []) → times k (get_or chains c []) ≡ 1
  once_there c k lt h = there_once k chains c frees (inside c lt) (l.once k (chain_within c k lt h)) h

  -- and in no other chain
  pub nowhere_else : (c d k : ℕ) → c < length heads → d < length heads → (d ≡ c → ⊥) → 0 < times k (get_or chains c []) → times k (get_or chains d []) ≡ 0
  nowhere_else c d k lc ld ne h = not_in_other k chains c d frees (inside c lc) (inside d ld) ne (l.once k (chain_within c k lc h)) h

  -- and not free
  pub in_use : (c k : ℕ) → c < length heads → 0 < times k (get_or chains c []) → times k frees ≡ 0
  in_use c k lt h = not_free k chains c frees (inside c lt) (l.once k (chain_within c k lt h)) h

-- the links of all chains, where one chain changes
pub changed_links : (nodes : List Node) (heads others : List Head) (chains : List (List NodeId)) (c : ℕ) (js : List NodeId) → length chains ≡ length heads → c < length heads
    → Links nodes (head_at others c).first js
    → ((d : ℕ) → d < length heads → (d ≡ c → ⊥) → (head_at others d).first ≡ (head_at heads d).first)
    → ((d : ℕ) → d < length heads → (d ≡ c → ⊥) → Links nodes (head_at heads d).first (get_or chains d []))
    → (d : ℕ) → d < length heads → Links nodes (head_at others d).first (get_or (set chains c js) d [])
changed_links nodes heads others chains c js count lc here same there d ld =
    ⊎_elim
    (λ (e : d ≡ c).
    let at : get_or (set chains c js) c [] ≡ js = get_or-set_same chains c js [] (omega (arith, count, lc)) in
    subst (λ (x : ℕ). Links nodes (head_at others x).first (get_or (set chains c js) x [])) (sym e)
    (subst (λ (is : List NodeId). Links nodes (head_at others c).first is) (sym at) here))
    (λ (ne : d ≡ c → ⊥).
    subst (λ (o : Option NodeId). Links nodes o (get_or (set chains c js) d [])) (sym (same d ld ne))
    (subst (λ (is : List NodeId). Links nodes (head_at heads d).first is) (sym (get_or-set_other chains c d js [] ne)) (there d ld ne)))
    (cases_eq d c)

-- ---- a free node that goes to a place of a chain

module _ (nodes : List Node) (heads : List Head) (chains : List (List NodeId)) (f : NodeId) (rest : List NodeId) (l : Lists nodes heads (Some f) chains (f ∷ rest)) (c : ℕ) (lc : c < length heads) (held : Node) where
  -- the free node is a node of the arena
  pub free_within : f.0 < length nodes
  free_within = l.unused.1

  -- it is free once
  pub free_once : times f.0 rest ≡ 0
  free_once = omega (arith, l.once f.0 free_within, counted_first f.0 f rest refl)

  -- it is in no chain
  pub free_alone : (d : ℕ) → d < length heads → times f.0 (get_or chains d []) ≡ 0
  free_alone d ld =
      not_in_chain f.0 chains d (f ∷ rest) (inside nodes heads (Some f) chains (f ∷ rest) l d ld) (l.once f.0 free_within) (omega (arith, counted_first f.0 f rest refl))

  -- each node is still there once
  pub added_once : (after : Option NodeId) → IsPlaceIn (get_or chains c []) after → (m : ℕ) → m < length nodes
      → tally (times m) (set chains c (ids_with after f (get_or chains c []))) rest ≡ 1
  added_once after place m lt =
      let more = with_counts (one_at m) (times m) (times_step m) after f (get_or chains c []) place in
      tally_kept (times m) chains c (ids_with after f (get_or chains c [])) (f ∷ rest) rest (inside nodes heads (Some f) chains (f ∷ rest) l c lc) (omega (arith, more)) ∙ l.once m lt

  -- there are still all nodes
  pub added_whole : (after : Option NodeId) → IsPlaceIn (get_or chains c []) after
      → tally node_length (set chains c (ids_with after f (get_or chains c []))) rest ≡ length nodes
  added_whole after place =
      let more = with_counts (λ (i : NodeId). 1) node_length length_step after f (get_or chains c []) place in
      tally_kept node_length chains c (ids_with after f (get_or chains c [])) (f ∷ rest) rest (inside nodes heads (Some f) chains (f ∷ rest) l c lc) (omega (arith, more, length_step f rest)) ∙ l.whole

  -- as the first of a chain
  pub added_first : held.next ≡ (head_at heads c).first
      → Lists (set nodes f.0 held) (heads_linked c None (Some f) heads) (node_at nodes f).next (set chains c (f ∷ get_or chains c [])) rest
  added_first next =
      let len = length-set nodes f.0 held in
      let first : Head = record (head_at heads c) { first = Some f } in
      let here : Links (set nodes f.0 held) (head_at (set heads c first) c).first (f ∷ get_or chains c []) =
      subst (λ (h : Head). Links (set nodes f.0 held) h.first (f ∷ get_or chains c [])) (sym (head_set heads c first lc))
      (links_step (set nodes f.0 held) f f (get_or chains c []) (head_at heads c).first refl (omega (arith, len, free_within)) (ap (λ (y : Node). y.next) (at_set nodes f held free_within) ∙ next)
      (links_apart nodes f held (head_at heads c).first (get_or chains c []) (free_alone c lc) (l.linked c lc))) in
      record {
        count = length-set chains c (f ∷ get_or chains c []) ∙ (l.count ∙ sym (length-set heads c first));
        linked = λ d ld.
            changed_links (set nodes f.0 held) heads (set heads c first) chains c (f ∷ get_or chains c []) l.count lc here
            (λ e le ne. ap (λ (h : Head). h.first) (head_other heads c e first ne))
            (λ e le ne. links_apart nodes f held (head_at heads e).first (get_or chains e []) (free_alone e le) (l.linked e le))
            d (omega (arith, ld, length-set heads c first));
        unused = links_apart nodes f held (node_at nodes f).next rest free_once l.unused.2;
        once = λ m lt. added_once None tt m (omega (arith, lt, len));
        whole = added_whole None tt ∙ sym len;
      }

  -- behind a node of the chain
  pub added_behind : (k : NodeId) → 0 < times k.0 (get_or chains c []) → held.next ≡ (node_at nodes k).next
      → Lists (nodes_linked (Some k) (Some f) (set nodes f.0 held)) heads (node_at nodes f).next (set chains c (ids_with (Some k) f (get_or chains c []))) rest
  added_behind k there next =
      let middle : List Node = set nodes f.0 held in
      let turned : Node = record (node_at middle k) { next = Some f } in
      let after : List Node = set middle k.0 turned in
      let len : length after ≡ length nodes = length-set middle k.0 turned ∙ length-set nodes f.0 held in
      let busy = in_use nodes heads (Some f) chains (f ∷ rest) l c k.0 lc there in
      let apart = absent_parts k.0 f rest busy in
      let once = once_there nodes heads (Some f) chains (f ∷ rest) l c k.0 lc there in
      record {
        count = length-set chains c (ids_with (Some k) f (get_or chains c [])) ∙ l.count;
        linked =
            changed_links after heads heads chains c (ids_with (Some k) f (get_or chains c [])) l.count lc
            (links_with nodes f k held (head_at heads c).first (get_or chains c []) free_within (free_alone c lc) once next (l.linked c lc))
            (λ e le ne. refl)
            (λ e le ne. links_apart middle k turned (head_at heads e).first (get_or chains e []) (nowhere_else nodes heads (Some f) chains (f ∷ rest) l c e k.0 lc le ne there)
            (links_apart nodes f held (head_at heads e).first (get_or chains e []) (free_alone e le) (l.linked e le)));
        unused = links_apart middle k turned (node_at nodes f).next rest apart.1 (links_apart nodes f held (node_at nodes f).next rest free_once l.unused.2);
        once = λ m lt. added_once (Some k) there m (omega (arith, lt, len));
        whole = added_whole (Some k) there ∙ sym len;
      }

  -- at any place
  pub added : (after : Option NodeId) → IsPlaceIn (get_or chains c []) after → held.next ≡ link_behind nodes heads c after
      → Lists (nodes_linked after (Some f) (set nodes f.0 held)) (heads_linked c after (Some f) heads) (node_at nodes f).next (set chains c (ids_with after f (get_or chains c []))) rest
  added None place next = added_first next
  added (Some k) place next = added_behind k place next

-- ---- a node of a chain that is given up

module _ (nodes : List Node) (heads : List Head) (free : Option NodeId) (chains : List (List NodeId)) (frees : List NodeId) (l : Lists nodes heads free chains frees) (c : ℕ) (lc : c < length heads) (d : NodeId) where
  -- each node is still there once, and there are still all nodes
  pub dropped_counts : (f : NodeId → ℕ) (g : List NodeId → ℕ) (step : (i : NodeId) (is : List NodeId) → g (i ∷ is) ≡ f i + g is) (js : List NodeId) → f d + g js ≡ g (get_or chains c [])
      → tally g (set chains c js) (d ∷ frees) ≡ tally g chains frees
  dropped_counts f g step js less =
      tally_kept g chains c js frees (d ∷ frees) (inside nodes heads free chains frees l c lc) (omega (arith, less, step d frees))

  -- the first of a chain
  pub dropped_first : (head_at heads c).first ≡ Some d
      → Lists (nodes_linked (Some d) free nodes) (heads_linked c None (node_at nodes d).next heads) (Some d) (set chains c (behind_first_id (get_or chains c []))) (d ∷ frees)
  dropped_first first =
      let freed : Node = record (node_at nodes d) { next = free } in
      let after : List Node = set nodes d.0 freed in
      let len : length after ≡ length nodes = length-set nodes d.0 freed in
      let head : Head = record (head_at heads c) { first = (node_at nodes d).next } in
      let links : Links nodes (Some d) (get_or chains c []) = subst (λ (o : Option NodeId). Links nodes o (get_or chains c [])) first (l.linked c lc) in
      let parts = links_parts nodes d (get_or chains c []) links in
      let there : 0 < times d.0 (get_or chains c []) = first_counted nodes d (get_or chains c []) links in
      let once = once_there nodes heads free chains frees l c d.0 lc there in
      let busy = in_use nodes heads free chains frees l c d.0 lc there in
      let within : d.0 < length nodes = chain_within nodes heads free chains frees l c d.0 lc there in
      let none : times d.0 parts.0 ≡ 0 = omega (arith, counted_first d.0 d parts.0 refl, ap (times d.0) parts.1, once) in
      let rest : behind_first_id (get_or chains c []) ≡ parts.0 = ap behind_first_id parts.1 in
      let here : Links after (head_at (set heads c head) c).first (behind_first_id (get_or chains c [])) =
      subst (λ (h : Head). Links after h.first (behind_first_id (get_or chains c []))) (sym (head_set heads c head lc))
      (subst (λ (is : List NodeId). Links after (node_at nodes d).next is) (sym rest) (links_apart nodes d freed (node_at nodes d).next parts.0 none parts.2)) in
      record {
        count = length-set chains c (behind_first_id (get_or chains c [])) ∙ (l.count ∙ sym (length-set heads c head));
        linked = λ e le.
            changed_links after heads (set heads c head) chains c (behind_first_id (get_or chains c [])) l.count lc here
            (λ x lx ne. ap (λ (h : Head). h.first) (head_other heads c x head ne))
            (λ x lx ne. links_apart nodes d freed (head_at heads x).first (get_or chains x []) (nowhere_else nodes heads free chains frees l c x d.0 lc lx ne there) (l.linked x lx))
            e (omega (arith, le, length-set heads c head));
        unused = links_step after d d frees free refl (omega (arith, len, within)) (ap (λ (y : Node). y.next) (at_set nodes d freed within)) (links_apart nodes d freed free frees busy l.unused);
        once = λ m lt. dropped_counts (one_at m) (times m) (times_step m) (behind_first_id (get_or chains c []))
            (omega (arith, ap (times m) rest, ap (times m) parts.1)) ∙ l.once m (omega (arith, lt, len));
        whole = dropped_counts (λ (i : NodeId). 1) node_length length_step (behind_first_id (get_or chains c []))
            (omega (arith, ap node_length rest, ap node_length parts.1, length_step d parts.0)) ∙ (l.whole ∙ sym len);
      }

  -- one behind another
  pub dropped_behind : (k : NodeId) → 0 < times k.0 (get_or chains c []) → (node_at nodes k).next ≡ Some d
      → Lists (nodes_linked (Some d) free (nodes_linked (Some k) (node_at nodes d).next nodes)) heads (Some d) (set chains c (ids_without (Some k) (get_or chains c []))) (d ∷ frees)
  dropped_behind k at_k next =
      let passed : Node = record (node_at nodes k) { next = (node_at nodes d).next } in
      let middle : List Node = set nodes k.0 passed in
      let freed : Node = record (node_at middle d) { next = free } in
      let after : List Node = set middle d.0 freed in
      let len : length after ≡ length nodes = length-set middle d.0 freed ∙ length-set nodes k.0 passed in
      let links = l.linked c lc in
      let there : 0 < times d.0 (get_or chains c []) = leads_within nodes (head_at heads c).first (get_or chains c []) k d links at_k next in
      let once_k = once_there nodes heads free chains frees l c k.0 lc at_k in
      let once_d = once_there nodes heads free chains frees l c d.0 lc there in
      let busy_k = in_use nodes heads free chains frees l c k.0 lc at_k in
      let busy_d = in_use nodes heads free chains frees l c d.0 lc there in
      let within : d.0 < length middle = omega (arith, length-set nodes k.0 passed, chain_within nodes heads free chains frees l c d.0 lc there) in
      record {
        count = length-set chains c (ids_without (Some k) (get_or chains c [])) ∙ l.count;
        linked =
            changed_links after heads heads chains c (ids_without (Some k) (get_or chains c [])) l.count lc
            (links_without nodes k d free (head_at heads c).first (get_or chains c []) next once_k once_d links)
            (λ x lx ne. refl)
            (λ x lx ne. links_apart middle d freed (head_at heads x).first (get_or chains x []) (nowhere_else nodes heads free chains frees l c x d.0 lc lx ne there)
            (links_apart nodes k passed (head_at heads x).first (get_or chains x []) (nowhere_else nodes heads free chains frees l c x k.0 lc lx ne at_k) (l.linked x lx)));
        unused = links_step after d d frees free refl (omega (arith, len, chain_within nodes heads free chains frees l c d.0 lc there)) (ap (λ (y : Node). y.next) (at_set middle d freed within))
            (links_apart middle d freed free frees busy_d (links_apart nodes k passed free frees busy_k l.unused));
        once = λ m lt. dropped_counts (one_at m) (times m) (times_step m) (ids_without (Some k) (get_or chains c []))
            (without_counts (one_at m) (times m) (times_step m) nodes k d (head_at heads c).first (get_or chains c []) next at_k links) ∙ l.once m (omega (arith, lt, len));
        whole = dropped_counts (λ (i : NodeId). 1) node_length length_step (ids_without (Some k) (get_or chains c []))
            (without_counts (λ (i : NodeId). 1) node_length length_step nodes k d (head_at heads c).first (get_or chains c []) next at_k links) ∙ (l.whole ∙ sym len);
      }

  -- at any place
  pub dropped : (after : Option NodeId) → IsPlaceIn (get_or chains c []) after → link_behind nodes heads c after ≡ Some d
      → Lists (nodes_linked (Some d) free (nodes_linked after (node_at nodes d).next nodes)) (heads_linked c after (node_at nodes d).next heads) (Some d) (set chains c (ids_without after (get_or chains c []))) (d ∷ frees)
  dropped None place next = dropped_first next
  dropped (Some k) place next = dropped_behind k place next

-- ---- a node that holds something else, and a chain that is sealed

-- a node may hold something else, where it leads on as before
pub raised : (nodes : List Node) (heads : List Head) (free : Option NodeId) (chains : List (List NodeId)) (frees : List NodeId) → Lists nodes heads free chains frees
    → (k : NodeId) (held : Node) → k.0 < length nodes → held.next ≡ (node_at nodes k).next → Lists (set nodes k.0 held) heads free chains frees
raised nodes heads free chains frees l k held lt same =
    let len = length-set nodes k.0 held in
    record {
      count = l.count;
      linked = λ c lc. links_kept nodes k held (head_at heads c).first (get_or chains c []) lt same (l.linked c lc);
      unused = links_kept nodes k held free frees lt same l.unused;
      once = λ m lm. l.once m (omega (arith, lm, len));
      whole = l.whole ∙ sym len;
    }

-- a chain begins where it began when it is sealed
pub sealed_first : (heads : List Head) (c d : ℕ) → c < length heads → (head_at (set heads c (record (head_at heads c) { sealed = true })) d).first ≡ (head_at heads d).first
sealed_first heads c d lt =
    let head : Head = record (head_at heads c) { sealed = true } in
    ⊎_elim
    (λ (e : d ≡ c). subst (λ (x : ℕ). (head_at (set heads c head) x).first ≡ (head_at heads x).first) (sym e) (ap (λ (h : Head). h.first) (head_set heads c head lt)))
    (λ (ne : d ≡ c → ⊥). ap (λ (h : Head). h.first) (head_other heads c d head ne))
    (cases_eq d c)

-- a chain may be sealed
pub sealed : (nodes : List Node) (heads : List Head) (free : Option NodeId) (chains : List (List NodeId)) (frees : List NodeId) → Lists nodes heads free chains frees
    → (c : ℕ) → c < length heads → Lists nodes (set heads c (record (head_at heads c) { sealed = true })) free chains frees
sealed nodes heads free chains frees l c lt =
    let head : Head = record (head_at heads c) { sealed = true } in
    let len = length-set heads c head in
    record {
      count = l.count ∙ sym len;
      linked = λ d ld. subst (λ (o : Option NodeId). Links nodes o (get_or chains d [])) (sym (sealed_first heads c d lt)) (l.linked d (omega (arith, ld, len)));
      unused = l.unused;
      once = l.once;
      whole = l.whole;
    }
