-- The arena while the frontiers grow in it, chain by chain.
use Rattle.std.proofs.Common.{◌≡◌, ◌∙◌, ℕ, zero, suc, ◌+◌, ◌-◌, ◌*◌, ◌<◌, ◌≤◌, ⊎_elim, false, List, [], ◌∷◌, ◌++◌, Option, length, get_or, map, replicate, refl, sym, ap, subst, arith, mul-le-mul_right}
use Rattle.std.specs.List.{Contains}
use Rattle.std.proofs.lemmas.Bool.{cases_eq, cases_lt}
use Rattle.std.proofs.lemmas.List.{get_or-map, length-map, length-replicate, map-append}
use Rattle.std.proofs.lemmas.Simd.{map-map}
use Rattle.std.proofs.lemmas.List.Elements.{Contains-append_cases, Contains-get_or}
use Rattle.std.proofs.lemmas.List.Sums.{get_or-le-sum_by}
use Rattle.lab_model.specs.declared.label.Label.{Label}
use Rattle.lab_model.specs.Film.{rungs_of, segments_of}
use Rattle.label_arena.specs.Chains.{Holdings, IsSound, LinkedChain, Standing, chain_at, empty_holdings, ids_of, linked_chain, node_count, steps_of}
use Rattle.label_arena.specs.declared.walk.Step.{Step}
use Rattle.label_arena.specs.declared.node.NodeId.{NodeId}
use Rattle.label_arena.proofs.Counts.{all_zero}
use Rattle.label_arena.proofs.Parents.{in_ids}
use Rattle.labels.specs.Grid.{Rounding}
use Rattle.player_core.specs.Scene.{Task}
use Rattle.labels.specs.Frontier.{by_rung}
use Rattle.labels.specs.Grown.{grown, grown_labels}
use Rattle.labels.specs.Read.{no_label, parent_of}
use Rattle.labels.proofs.Counted.{by_rung_more}
use Rattle.labels.proofs.Walks.{from_map, in_map, none_at}
use Rattle.frontier_planner.specs.declared.chains.Reached.{Reached}
use Rattle.frontier_planner.specs.declared.grow.Candidate.{Candidate}
use Rattle.frontier_planner.specs.Linked.{AddsFrontier, AreBefore, AreReached, HaveNodes, HoldsBelow, HoldsFrontier, HoldsSegment, IsLinked, StandsAt, labels_held, no_reached, pair_of, part_for, part_of, reached_in, step_reached}
use Rattle.frontier_planner.specs.Parents.{HaveParents}
use Rattle.frontier_planner.proofs.Adding.{added_count, added_sealed, node_there, others_stay}

-- ---- numbers of chains

-- a number below a count of rungs, in a segment, is below that of the next
pub number_below : (rungs i j q : ℕ) → q < rungs → i < j → i * rungs + q < j * rungs
number_below rungs i j q low less =
    let wide : (i + 1) * rungs ≤ j * rungs = mul-le-mul_right rungs (omega (arith, less)) in
    omega (arith, wide, low)

-- the numbers of all chains are below their count
pub number_inside : (segments rungs i q : ℕ) → i < segments → q < rungs → i * rungs + q < segments * rungs
number_inside segments rungs i q low rung = number_below rungs i segments q rung low

-- chains of one number are of one segment
pub number_same : (rungs i j q r : ℕ) → q < rungs → r < rungs → i * rungs + q ≡ j * rungs + r → (i ≡ j) × (q ≡ r)
number_same rungs i j q r low high same =
    ⊎_elim (λ (less : i < j). let before = number_below rungs i j q low less in absurd (omega (arith, before, same)))
    (λ (more : j ≤ i).
    ⊎_elim (λ (less : j < i). let before = number_below rungs j i r high less in absurd (omega (arith, before, same)))
    (λ (no_more : i ≤ j). let e : i ≡ j = omega (arith, more, no_more) in (e, tail i j q r e same)) (cases_lt j i)) (cases_lt i j)
  where
    tail : (i j q r : ℕ) → i ≡ j → i * rungs + q ≡ j * rungs + r → q ≡ r
    tail i j q r e same = let here = subst (λ n. n * rungs + q ≡ j * rungs + r) e same in omega (arith, here)

-- the number behind the last of a segment is that of the next
pub number_next : (rungs i : ℕ) → i * rungs + rungs ≡ (i + 1) * rungs
number_next rungs i = omega arith

-- the chains of the segment before have less numbers
pub number_before : (rungs i q r : ℕ) → 0 < i → q < rungs → (i - 1) * rungs + q < i * rungs + r
number_before rungs i q r some low = let before = number_below rungs (i - 1) i q low (omega (arith, some)) in omega (arith, before)

-- ---- chains that stay

module _ (d : Rounding) (g : Task) (a b : Holdings) (number : ℕ) (stay : (c : ℕ) → c < number → chain_at b c ≡ chain_at a c) where
  -- what stands in such a chain
  pub stands_still : (segment : ℕ) (x : Reached) → segment * rungs_of g.film + x.rung < number → StandsAt g a segment x → StandsAt g b segment x
  stands_still segment x low h =
      (h.0, h.1, subst (λ (ch : LinkedChain). Contains ch.nodes h.1) (sym (stay (segment * rungs_of g.film + x.rung) low)) h.2, h.3, h.4)

  -- the frontiers that they hold
  pub holds_still : (i q : ℕ) → q < rungs_of g.film → i * rungs_of g.film + q < number → HoldsFrontier d g a i q → HoldsFrontier d g b i q
  holds_still i q rung low h =
      let same = stay (i * rungs_of g.film + q) low in
      record {
        sealed = ap (λ (ch : LinkedChain). ch.sealed) same ∙ h.sealed;
        labels = ap (λ (ch : LinkedChain). labels_held ch.nodes) same ∙ h.labels;
        linked = λ s there some.
            let x = h.linked s (subst (λ (ch : LinkedChain). Contains ch.nodes s) same there) some in
            let before = number_before (rungs_of g.film) i x.0.rung q some x.3.0 in
            (x.0, x.1, x.2, stands_still (i - 1) x.0 (omega (arith, before, low)) x.3);
      }

  -- the labels of a segment
  pub reached_still : (segment : ℕ) (before : List Reached) → (segment + 1) * rungs_of g.film ≤ number → AreReached d g a segment before → AreReached d g b segment before
  reached_still segment before low h = record {
    labels = h.labels;
    stand = λ x there.
        let old = h.stand x there in
        let inside = number_below (rungs_of g.film) segment (segment + 1) x.rung old.0 (omega arith) in
        stands_still segment x (omega (arith, inside, low)) old;
  }

  -- and those of the segment before one
  pub before_still : (segment : ℕ) (before : List Reached) → segment * rungs_of g.film ≤ number → AreBefore d g a segment before → AreBefore d g b segment before
  before_still segment before low h = record {
    first = h.first;
    later = λ some.
        let e : segment - 1 + 1 ≡ segment = omega (arith, some) in
        reached_still (segment - 1) before (subst (λ n. n * rungs_of g.film ≤ number) (sym e) low) (h.later some);
  }

-- ---- an arena without frontiers

-- holds those below the first number
pub holds_none : (d : Rounding) (g : Task) (a : Holdings) (chains room : ℕ) → chains ≡ segments_of g.film * rungs_of g.film → a ≡ empty_holdings chains room → HoldsBelow d g a 0
holds_none d g a chains room all is = record {
  count = ap (λ (x : Holdings). length x.chains) is ∙ length-replicate chains (linked_chain [] false) ∙ all;
  holds = λ i q rung low. absurd (omega (arith, low));
  empty = λ c late. ap (λ (x : Holdings). chain_at x c) is ∙ get_or-replicate_same chains c;
}
  where
    get_or-replicate_same : (n c : ℕ) → get_or (replicate n (linked_chain [] false)) c (linked_chain [] false) ≡ linked_chain [] false
    get_or-replicate_same zero c = refl
    get_or-replicate_same (suc n) zero = refl
    get_or-replicate_same (suc n) (suc c) = get_or-replicate_same n c

-- it has no nodes in chains
pub count_none : (d : Rounding) (g : Task) (a : Holdings) → HoldsBelow d g a 0 → node_count a ≡ 0
count_none d g a h = all_zero (λ (x : LinkedChain). length x.nodes) (linked_chain [] false) a.chains (λ c low. ap (λ (x : LinkedChain). length x.nodes) (h.empty c (omega arith)))

-- ---- the labels of a segment

-- the labels of nodes with a rung
pub pairs_in : (q : ℕ) (ns : List Standing) → map pair_of (reached_in q ns) ≡ map (λ l. (q, l)) (labels_held ns)
pairs_in q [] = refl
pairs_in q (s ∷ ns) = ap (λ ps. (q, s.label) ∷ ps) (pairs_in q ns)

abbrev own : ℕ → Standing → Reached
own q s = record { rung = q; label = s.label; node = s.node }

module _ (d : Rounding) (g : Task) (a : Holdings) (segment : ℕ) where
  -- no rungs have no labels
  pub reached_none : (reached : List Reached) → reached ≡ [] → (map pair_of reached ≡ by_rung 0 (grown d g segment)) × ((x : Reached) → Contains reached x → StandsAt g a segment x)
  reached_none reached none = (ap (map pair_of) none, λ x there. absurd (none_at x (subst (λ xs. Contains xs x) none there)))

  -- the labels of one rung more
  pub reached_more : (old new : List Reached) (q c : ℕ) → HoldsSegment d g a segment → q < rungs_of g.film → c ≡ segment * rungs_of g.film + q
      → new ≡ old ++ reached_in q (chain_at a c).nodes → map pair_of old ≡ by_rung q (grown d g segment) → ((x : Reached) → Contains old x → StandsAt g a segment x)
      → (map pair_of new ≡ by_rung (q + 1) (grown d g segment)) × ((x : Reached) → Contains new x → StandsAt g a segment x)
  reached_more old new q c h rung at added so stand =
      let ns = (chain_at a c).nodes in
      let held : labels_held ns ≡ grown d g segment q = ap (λ n. labels_held (chain_at a n).nodes) at ∙ (h.holds q rung).labels in
      let labels : map pair_of new ≡ by_rung (q + 1) (grown d g segment) =
      ap (map pair_of) added ∙ map-append pair_of old (reached_in q ns) ∙ ap (λ ps. ps ++ map pair_of (reached_in q ns)) so
      ∙ ap (λ ps. by_rung q (grown d g segment) ++ ps) (pairs_in q ns ∙ ap (map (λ l. (q, l))) held) ∙ sym (by_rung_more (grown d g segment) q) in (
        labels,
        λ x there.
            ⊎_elim (λ before. stand x before)
            (λ (here : Contains (reached_in q ns) x).
            let s = from_map (λ (n : Standing). own q n) ns x here in
            subst (StandsAt g a segment) s.2 (rung, s.0, subst (λ n. Contains (chain_at a n).nodes s.0) at s.1, refl, refl)) (Contains-append_cases old (reached_in q ns) x (subst (λ xs. Contains xs x) added there)),
      )

-- what a walk gives with a rung is what stands there
pub steps_reached : (q : ℕ) (steps : List Step) (ns : List Standing) → steps ≡ steps_of ns → map (step_reached q) steps ≡ reached_in q ns
steps_reached q steps ns is = ap (map (step_reached q)) is ∙ map-map (step_reached q) (λ (s : Standing). let t : Step = record { node = s.node; label = s.label } in t) ns

-- and its labels are those
pub steps_labels : (steps : List Step) (ns : List Standing) → steps ≡ steps_of ns → map (λ (s : Step). s.label) steps ≡ labels_held ns
steps_labels steps ns is = ap (map (λ (s : Step). s.label)) is ∙ map-map (λ (s : Step). s.label) (λ (s : Standing). let t : Step = record { node = s.node; label = s.label } in t) ns

-- a chain is no longer than an arena may be
pub chain_short : (a : Holdings) (c : ℕ) → IsSound a → c < length a.chains → length (steps_of (chain_at a c).nodes) ≤ 4000000
chain_short a c sound low =
    let ns = (chain_at a c).nodes in
    let one = get_or-le-sum_by (λ (x : LinkedChain). length x.nodes) a.chains c (linked_chain [] false) low in
    let long = length-map ns (λ (s : Standing). let t : Step = record { node = s.node; label = s.label } in t) in
    let few = sound.few in
    omega (arith, one, long, few)

-- their nodes stand in sealed chains
pub before_sealed : (d : Rounding) (g : Task) (a : Holdings) (segment number : ℕ) (before : List Reached) → HoldsBelow d g a number → segment * rungs_of g.film ≤ number → AreBefore d g a segment before → HaveNodes a before
before_sealed d g a zero number before h low b x there = absurd (none_at x (subst (λ xs. Contains xs x) (b.first refl) there))
before_sealed d g a (suc i) number before h low b x there =
    let stands = (b.later (omega arith)).stand x there in
    let e : suc i - 1 ≡ i = omega arith in
    let inside = number_before (rungs_of g.film) (suc i) x.rung 0 (omega arith) stands.0 in
    let chain = (suc i - 1) * rungs_of g.film + x.rung in
    (chain, (h.holds (suc i - 1) x.rung stands.0 (omega (arith, inside, low))).sealed, subst (Contains (ids_of (chain_at a chain).nodes)) stands.4 (in_ids (chain_at a chain).nodes stands.1 stands.2))

-- ---- one frontier more

module _ (d : Rounding) (g : Task) (a b : Holdings) (i r : ℕ) (frontier : List Candidate) (before : List Reached) (h : HoldsBelow d g a (i * rungs_of g.film + r)) (low : i < segments_of g.film) (rung : r < rungs_of g.film)
    (added : AddsFrontier a b (i * rungs_of g.film + r) frontier before) (with_parents : HaveParents d g i r frontier) (b4 : AreBefore d g a i before) where
  abbrev number : ℕ
  number = i * rungs_of g.film + r

  stay : (c : ℕ) → c < number → chain_at b c ≡ chain_at a c
  stay c less = others_stay a b number frontier before added c (λ e. absurd (omega (arith, less, e)))

  there : number < length a.chains
  there = let count = h.count in let inside = number_inside (segments_of g.film) (rungs_of g.film) i r low rung in omega (arith, count, inside)

  -- the node of a candidate is linked to that of its parent
  new_linked : (s : Standing) → Contains (chain_at b number).nodes s → IsLinked d g b i r s
  new_linked s here some =
      let k = from_map (part_for before) frontier (part_of s) (subst (λ ps. Contains ps (part_of s)) added.parts (in_map part_of (chain_at b number).nodes s here)) in
      let parent = with_parents.parents k.0 k.1 some in
      let old = b4.later some in
      let long : length before ≡ length (grown_labels d g (i - 1)) = sym (length-map before pair_of) ∙ ap length old.labels in
      let inside = parent.inside in
      let at : k.0.parent < length before = omega (arith, long, inside) in
      let x = get_or before k.0.parent no_reached in
      let same : k.0.label ≡ s.label = ap (λ p. p.0) k.2 in
      let pair : pair_of x ≡ parent_of d g (grown d g) (i - 1) (r, s.label) =
      sym (get_or-map pair_of before k.0.parent no_reached (0, no_label) at) ∙ ap (λ ps. get_or ps k.0.parent (0, no_label)) old.labels ∙ parent.is ∙ ap (λ l. parent_of d g (grown d g) (i - 1) (r, l)) same in
      let stands = old.stand x (Contains-get_or before k.0.parent no_reached at) in
      let less = number_before (rungs_of g.film) i x.rung r some stands.0 in
      (x, sym (ap (λ p. p.1) k.2) ∙ node_there before k.0.parent at, pair, stands_still d g a b number stay (i - 1) x less stands)

  new_frontier : HoldsFrontier d g b i r
  new_frontier =
      let ns = (chain_at b number).nodes in
      record {
        sealed = added_sealed a b number frontier before added there;
        labels = sym (map-map (λ (p : Label × Option NodeId). p.0) part_of ns) ∙ ap (map (λ (p : Label × Option NodeId). p.0)) added.parts ∙ map-map (λ (p : Label × Option NodeId). p.0) (part_for before) frontier
            ∙ with_parents.labels;
        linked = new_linked;
      }

  -- the arena holds one frontier more
  pub holds_more : HoldsBelow d g b (i * rungs_of g.film + (r + 1))
  holds_more = record {
    count = added_count a b number frontier before added ∙ h.count;
    holds = λ j q inside less.
        ⊎_elim (λ (e : j * rungs_of g.film + q ≡ number).
        let one = number_same (rungs_of g.film) j i q r inside rung e in
        subst (λ n. HoldsFrontier d g b n q) (sym one.0) (subst (HoldsFrontier d g b i) (sym one.1) new_frontier))
        (λ (ne : j * rungs_of g.film + q ≡ number → ⊥).
        let old : j * rungs_of g.film + q < number = ⊎_elim (λ (l : j * rungs_of g.film + q < number). l)
        (λ (m : number ≤ j * rungs_of g.film + q). absurd (ne (omega (arith, m, less)))) (cases_lt (j * rungs_of g.film + q) number) in
        holds_still d g a b number stay j q inside old (h.holds j q inside old)) (cases_eq (j * rungs_of g.film + q) number);
    empty = λ c late. others_stay a b number frontier before added c (λ e. absurd (omega (arith, late, e))) ∙ h.empty c (omega (arith, late));
  }

  -- and the labels of the segment before stand as they did
  pub before_more : AreBefore d g b i before
  before_more = before_still d g a b number stay i before (omega arith) b4

-- a chain that is still empty is open
pub number_open : (d : Rounding) (g : Task) (a : Holdings) (number c : ℕ) → HoldsBelow d g a number → number ≤ c → c < segments_of g.film * rungs_of g.film → (c < length a.chains) × ((chain_at a c).sealed ≡ false) × ((chain_at a c).nodes ≡ [])
number_open d g a number c h late low =
    let count = h.count in
    (omega (arith, count, low), ap (λ (x : LinkedChain). x.sealed) (h.empty c late), ap (λ (x : LinkedChain). x.nodes) (h.empty c late))

-- the chains of a segment below the number hold its frontiers
pub segment_held : (d : Rounding) (g : Task) (a : Holdings) (number segment : ℕ) → HoldsBelow d g a number → (segment + 1) * rungs_of g.film ≤ number → HoldsSegment d g a segment
segment_held d g a number segment h low = record {
  count = h.count;
  holds = λ q rung. let inside = number_below (rungs_of g.film) segment (segment + 1) q rung (omega arith) in h.holds segment q rung (omega (arith, inside, low));
}
