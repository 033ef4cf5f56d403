-- Frontiers grow by steps: from the frontiers of one segment come those of the next.
use Rattle.std.proofs.Common.{◌≡◌, ◌∙◌, ℕ, zero, suc, ◌+◌, ◌<◌, ⊎_elim, List, [], ◌∷◌, ◌++◌, length, map, take, refl, sym, ap, subst, arith, length-append}
use Rattle.std.specs.Prelude.{slice_index}
use Rattle.std.specs.List.{All, Contains, flat_map}
use Rattle.std.specs.List.Sorted.{IsStrictlySortedBy}
use Rattle.std.proofs.Math.Seq.{get_or-append_seam}
use Rattle.std.proofs.lemmas.List.{take_all, take_more}
use Rattle.std.proofs.lemmas.List.Elements.{All-cons, All-head, All-nil, All-push, All-tail, All-take}
use Rattle.lab_model.specs.declared.label.Label.{Label}
use Rattle.lab_model.specs.Film.{rungs_of, segments_of}
use Rattle.lab_model.specs.Ladder.{rungs_below}
use Rattle.lab_model.specs.Mpc.{lists_of}
use Rattle.labels.specs.Labels.{AreRungs, Dominates, label_at, next_label, start_label}
use Rattle.player_core.specs.Scene.{IsTask, Task}
use Rattle.labels.specs.Frontier.{frontier, label_cmp, prefix_labels, undominated}
use Rattle.labels.specs.Grid.{exact, rounded}
use Rattle.labels.specs.Grown.{grown, successors}
use Rattle.labels.proofs.Grown.{from_successors, grown_first, grown_next, in_successors}
use Rattle.labels.proofs.Inherits.{inherits}
use Rattle.labels.proofs.Kept.{above_undominated, undominated_in, undominated_is, undominated_same}
use Rattle.labels.proofs.Path.{label_first, label_push}
use Rattle.labels.proofs.Rounds.{round_exact}
use Rattle.labels.proofs.Walks.{at_head, by_rung_same, first_or_rest, from_by_rung, from_flat_map, from_map, from_rungs, in_flat_map, in_map, in_rungs, none_at}

-- ---- all rung lists

lists_first : (count : ℕ) → lists_of count 0 ≡ [] ∷ []
unfolding lists_of
lists_first count = refl

lists_next : (count n : ℕ) → lists_of count (suc n) ≡ flat_map (λ r. map (λ rs. r ∷ rs) (lists_of count n)) (rungs_below count)
unfolding lists_of
lists_next count n = refl

-- each list of so many rungs below the count stands among all of them
pub in_lists : (count n : ℕ) (l : List ℕ) → length l ≡ n → All (λ q. q < count) l → Contains (lists_of count n) l
in_lists count zero [] long all = subst (λ ls. Contains ls []) (sym (lists_first count)) (at_head [] [])
in_lists count (suc n) [] long all = absurd (omega (arith, long))
in_lists count zero (q ∷ qs) long all = absurd (omega (arith, long))
in_lists count (suc n) (q ∷ qs) long all =
    subst (λ ls. Contains ls (q ∷ qs)) (sym (lists_next count n))
    (in_flat_map (λ r. map (λ rs. r ∷ rs) (lists_of count n)) (rungs_below count) q (q ∷ qs) (in_rungs count q (All-head (λ r. r < count) q qs all))
    (in_map (λ rs. q ∷ rs) (lists_of count n) qs (in_lists count n qs (omega (arith, long)) (All-tail (λ r. r < count) q qs all))))

-- and no other
pub from_lists : (count n : ℕ) (l : List ℕ) → Contains (lists_of count n) l → (length l ≡ n) × All (λ q. q < count) l
from_lists count zero l h =
    ⊎_elim (λ (e : [] ≡ l). subst (λ ls. (length ls ≡ 0) × All (λ q. q < count) ls) e (refl, All-nil (λ q. q < count))) (λ none. absurd (none_at l none))
    (first_or_rest [] [] l (subst (λ ls. Contains ls l) (lists_first count) h))
from_lists count (suc n) l h =
    let one = from_flat_map (λ r. map (λ rs. r ∷ rs) (lists_of count n)) (rungs_below count) l (subst (λ ls. Contains ls l) (lists_next count n) h) in
    let two = from_map (λ rs. one.0 ∷ rs) (lists_of count n) l one.2 in
    let rest = from_lists count n two.0 two.1 in
    let long = rest.0 in
    subst (λ ls. (length ls ≡ suc n) × All (λ q. q < count) ls) two.2 (omega (arith, long), All-cons (λ q. q < count) one.0 two.0 (from_rungs count one.0 one.1) rest.1)

-- ---- the labels of all prefixes

module _ (g : Task) where
  -- the label along a rung list stands among those of the prefixes
  pub in_prefixes : (i q : ℕ) (before : List ℕ) → AreRungs g i before → Contains (prefix_labels g i q) (label_at g (before ++ q ∷ []) i)
  unfolding prefix_labels
  in_prefixes i q before h = in_map (λ rs. label_at g (rs ++ q ∷ []) i) (lists_of (rungs_of g.film) i) before (in_lists (rungs_of g.film) i before h.0 h.1)

  -- and no other label does
  pub from_prefixes : (i q : ℕ) (l : Label) → Contains (prefix_labels g i q) l → (before : List ℕ) × AreRungs g i before × (label_at g (before ++ q ∷ []) i ≡ l)
  unfolding prefix_labels
  from_prefixes i q l h =
      let r = from_map (λ rs. label_at g (rs ++ q ∷ []) i) (lists_of (rungs_of g.film) i) l h in
      (r.0, from_lists (rungs_of g.film) i r.0 r.1, r.2)

  -- the successor of a prefix's label is a prefix's label
  pub prefixes_on : (i q r : ℕ) (m : Label) → q < rungs_of g.film → Contains (prefix_labels g i q) m → Contains (prefix_labels g (suc i) r) (next_label g (suc i) q m r)
  prefixes_on i q r m low h =
      let from = from_prefixes i q m h in
      let rungs = from.0 ++ q ∷ [] in
      let long = from.1.0 in
      let more = length-append from.0 (q ∷ []) in
      let count : length rungs ≡ suc i = omega (arith, long, more) in
      let fits : AreRungs g (suc i) rungs = (count, All-push (λ p. p < rungs_of g.film) from.0 q from.1.1 low) in
      let last : slice_index rungs i ≡ q = ap (λ n. slice_index rungs n) (sym long) ∙ get_or-append_seam from.0 q [] 0 in
      subst (Contains (prefix_labels g (suc i) r))
      (label_push g rungs r i count ∙ ap (λ p. next_label g (suc i) p (label_at g rungs i) r) last ∙ ap (λ l. next_label g (suc i) q l r) from.2) (in_prefixes (suc i) r rungs fits)

  -- and each prefix's label is the successor of one
  pub prefixes_back : (i r : ℕ) (l : Label) → Contains (prefix_labels g (suc i) r) l → (q : ℕ) × (m : Label) × (q < rungs_of g.film) × Contains (prefix_labels g i q) m × (next_label g (suc i) q m r ≡ l)
  prefixes_back i r l h =
      let from = from_prefixes (suc i) r l h in
      let rungs = from.0 in
      let long = from.1.0 in
      let inside : i < length rungs = omega (arith, long) in
      let q = slice_index rungs i in
      let whole : take i rungs ++ q ∷ [] ≡ rungs = sym (take_more rungs i 0 inside) ∙ take_all (i + 1) rungs (omega (arith, long)) in
      let parts = length-append (take i rungs) (q ∷ []) in
      let few = ap length whole in
      let fits : AreRungs g i (take i rungs) = (omega (arith, long, parts, few), All-take (λ p. p < rungs_of g.film) i rungs from.1.1) in
      (q, label_at g rungs i, from.1.1 i 0 inside, subst (λ rs. Contains (prefix_labels g i q) (label_at g rs i)) whole (in_prefixes i q (take i rungs) fits), sym (label_push g rungs r i long) ∙ from.2)

  -- the definition
  pub frontier_is : (i q : ℕ) → frontier g i q ≡ undominated (prefix_labels g i q)
  unfolding frontier
  frontier_is i q = refl

  -- the frontier of a later segment is what is left of the successors of the frontiers before it
  pub frontier_grows : IsTask g → (i r : ℕ) → suc i < segments_of g.film → r < rungs_of g.film → frontier g (suc i) r ≡ undominated (successors exact g (suc i) (frontier g i) r)
  frontier_grows is i r low rung =
      frontier_is (suc i) r
      ∙ undominated_same (prefix_labels g (suc i) r) (successors exact g (suc i) (frontier g i) r)
      (λ l h.
      let from = from_successors exact g (suc i) (frontier g i) r l h in
      let there = from_by_rung (rungs_of g.film) (frontier g i) from.0 from.1 in
      let reached = undominated_in (prefix_labels g i from.0.0) from.0.1 (subst (λ ls. Contains ls from.0.1) (frontier_is i from.0.0) there.1) in
      subst (Contains (prefix_labels g (suc i) r)) (sym (round_exact (next_label g (suc i) from.0.0 from.0.1 r)) ∙ from.2) (prefixes_on i from.0.0 r from.0.1 there.0 reached.0))
      (λ l h.
      let from = prefixes_back i r l h in
      let q = from.0 in
      let m = from.1 in
      let up = above_undominated (prefix_labels g i q) m from.3 in
      let kept = subst (λ ls. Contains ls up.0) (sym (frontier_is i q)) up.1 in
      let next = next_label g (suc i) q up.0 r in
      let there = subst (Contains (successors exact g (suc i) (frontier g i) r)) (round_exact next) (in_successors exact g (suc i) (frontier g i) q r up.0 from.2 kept) in
      (next, there, subst (Dominates next) from.4 (inherits g is (suc i) q r low rung up.0 m up.2)))

  alone_sorted : (l : Label) → IsStrictlySortedBy label_cmp (l ∷ [])
  unfolding IsStrictlySortedBy
  alone_sorted l = (tt, tt)

  -- one label alone is what is left of it
  alone : (l : Label) → l ∷ [] ≡ undominated (l ∷ [])
  alone l =
      undominated_is (l ∷ []) (l ∷ []) (alone_sorted l)
      (λ m h. (h, λ n there d. ⊎_elim (λ (e : l ≡ n). ⊎_elim (λ (k : l ≡ m). sym e ∙ k) (λ none. absurd (none_at m none)) (first_or_rest l [] m h)) (λ none. absurd (none_at n none)) (first_or_rest l [] n there)))
      (λ m h kept. h)

  prefixes_first : (q : ℕ) → prefix_labels g 0 q ≡ start_label g q ∷ []
  unfolding prefix_labels
  prefixes_first q = ap (λ ls. map (λ before. label_at g (before ++ q ∷ []) 0) ls) (lists_first (rungs_of g.film)) ∙ ap (λ l. l ∷ []) (label_first g (q ∷ []))

  -- what grows on the grid 1, 1 are the frontiers
  pub grown_is_frontier : IsTask g → (i q : ℕ) → i < segments_of g.film → q < rungs_of g.film → grown exact g i q ≡ frontier g i q
  grown_is_frontier is zero q low rung =
      grown_first exact g q ∙ ap (λ l. l ∷ []) (round_exact (start_label g q)) ∙ alone (start_label g q) ∙ ap undominated (sym (prefixes_first q)) ∙ sym (frontier_is 0 q)
  grown_is_frontier is (suc i) r low rung =
      let same = by_rung_same (rungs_of g.film) (grown exact g i) (frontier g i) (λ q below. grown_is_frontier is i q (omega arith) below) in
      grown_next exact g i r ∙ ap (λ cs. undominated (map (λ c. rounded exact (next_label g (suc i) c.0 c.1 r)) cs)) same ∙ sym (frontier_grows is i r low rung)
