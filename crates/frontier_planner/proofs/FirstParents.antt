-- One sweep keeps each label with its first parent, and labels that were left out before are no parents.
use Rattle.std.proofs.Common.{◌≡◌, ◌∙◌, ℕ, zero, suc, ◌+◌, ◌-◌, ◌<◌, ◌≤◌, ◌⊎◌, ⊎_elim, List, [], ◌∷◌, ◌++◌, length, get_or, map, take, Bool, true, false, Some, sym, ap, subst, arith}
use Rattle.std.specs.Prelude.{ℤ, pos, negsuc, ◌+ℤ◌, ◌≤ℤ◌, ◌<ℤ◌, ◌↔◌, unwrap_or}
use Rattle.std.specs.List.{Contains, find}
use Rattle.std.specs.Cmp.{IsStrictWeakOrder, IsTotalOrder}
use Rattle.std.specs.Ordering.{is_lt}
use Rattle.std.specs.List.Sorted.{IsPermutation, IsSortedBy}
use Rattle.std.proofs.lemmas.Bool.{cases_Bool, cond-true, cond-false}
use Rattle.std.proofs.lemmas.Bool.Decides.{nat_tests}
use Rattle.std.proofs.lemmas.Cmp.{eq_by_cmp_equiv, nat_cmp_total, on_total, then_total}
use Rattle.std.proofs.lemmas.Grind.{div_ceil_times}
use Rattle.std.proofs.lemmas.Int.{ints}
use Rattle.std.proofs.lemmas.List.{get_or_default, map-append}
use Rattle.std.proofs.lemmas.List.Elements.{Contains-append_left, Contains-get_or, Contains-push, Contains-push_cases}
use Rattle.std.proofs.lemmas.List.Sorted.{Contains-permutation, IsPermutation-sym, ranks_by}
use Rattle.lab_model.specs.declared.label.Label.{Label}
use Rattle.lab_model.specs.Film.{rungs_of, segments_of}
use Rattle.player_core.specs.Scene.{Task}
use Rattle.labels.specs.Covers.{HasAbove}
use Rattle.labels.specs.Frontier.{is_same, undominated}
use Rattle.labels.specs.Grid.{IsGrid, Rounding, multiple_above, multiple_below, rounded}
use Rattle.labels.specs.Grown.{grown, successors, CanPlan, grown_labels}
use Rattle.labels.specs.Labels.{Dominates, next_label, start_label}
use Rattle.labels.specs.Read.{leads_to, no_label, parent_of}
use Rattle.labels.proofs.Grown.{grown_first, grown_next}
use Rattle.labels.proofs.Kept.{dominates_itself, same_any, undominated_in, undominated_same}
use Rattle.labels.proofs.Order.{label_total}
use Rattle.labels.proofs.Rounds.{above_high, round_inherits}
use Rattle.labels.proofs.Walks.{from_map, in_map, none_at}
use Rattle.frontier_planner.specs.declared.grow.Candidate.{Candidate}
use Rattle.frontier_planner.specs.declared.thin.Followed.{Followed}
use Rattle.frontier_planner.specs.Parents.{AreFirst, HasParent, HaveParents, candidate_cmp, follower, labels_in}
use Rattle.frontier_planner.specs.Staircase.{IsRising}
use Rattle.frontier_planner.specs.Sweep.{HasUnder}
use Rattle.frontier_planner.specs.Thinned.{AreEnough, LeadsBy, LeadsOn}
use Rattle.frontier_planner.proofs.Sweep.{NotBefore, Swept, none_behind, swept_all, swept_covers, swept_dropped, swept_kept, swept_none, sweep_total}

-- ---- the order of candidates

-- the order of the sweep, then of parents, is total
pub candidate_total : IsTotalOrder candidate_cmp
candidate_total = then_total (on_total (λ (c : Candidate). c.label) sweep_total) (on_total (λ (c : Candidate). c.parent) nat_cmp_total)

-- and one to sort by
pub candidate_ranks : IsStrictWeakOrder (λ (a b : Candidate). is_lt (candidate_cmp a b))
candidate_ranks = ranks_by candidate_total (λ (c : Candidate). c)

-- the second doesn't come before the first
abbrev pub NotAhead : Candidate → Candidate → Type 0
NotAhead m l = is_lt (candidate_cmp l m) ≡ false

-- so its label isn't swept before
ahead_swept : (m l : Candidate) → NotAhead m l → NotBefore m.label l.label
ahead_swept m l h = grind (arith, nat_tests, ints)

-- and of equal labels its parent isn't before
ahead_parent : (m l : Candidate) → NotAhead m l → l.label ≡ m.label → m.parent ≤ l.parent
ahead_parent m l h e = grind (arith, nat_tests, ints)

-- in a list in order none of the candidates so far comes behind the next
pub none_ahead : (xs : List Candidate) (i : ℕ) (d : Candidate) → IsSortedBy (λ a b. is_lt (candidate_cmp a b)) xs → i < length xs → (m : Candidate) → Contains (take i xs) m → NotAhead m (get_or xs i d)
none_ahead xs i d h low m there = none_behind (λ a b. is_lt (candidate_cmp a b)) candidate_ranks xs i d h low m there

-- ---- the sweep

-- what is kept of the candidates so far, and the staircase over it
pub record SweptFirst (xs kept : List Candidate) (steps : List Label) : Type 0 where
  pub swept : Swept (labels_in xs) (labels_in kept) steps
  within : (k : Candidate) → Contains kept k → Contains xs k
  first : (k c : Candidate) → Contains kept k → Contains xs c → c.label ≡ k.label → k.parent ≤ c.parent

abbrev label_of : Candidate → Label
label_of c = c.label

labels_push : (xs : List Candidate) (c : Candidate) → labels_in (xs ++ c ∷ []) ≡ labels_in xs ++ c.label ∷ []
labels_push xs c = map-append (λ (x : Candidate). x.label) xs (c ∷ [])

-- nothing is kept of no candidates
pub first_none : SweptFirst [] [] []
first_none = record { swept = swept_none; within = λ k h. h; first = λ k c h. absurd (none_at k h) }

-- what is swept before by its labels
labels_before : (xs : List Candidate) (c : Candidate) → ((m : Candidate) → Contains xs m → NotAhead m c) → (l : Label) → Contains (labels_in xs) l → NotBefore l c.label
labels_before xs c order l h =
    let m = from_map (λ (x : Candidate). x.label) xs l h in
    subst (λ (y : Label). NotBefore y c.label) m.2 (ahead_swept m.0 c (order m.0 m.1))

-- a candidate under the staircase isn't kept
pub first_dropped : (xs kept : List Candidate) (steps : List Label) (c : Candidate) → SweptFirst xs kept steps → ((m : Candidate) → Contains xs m → NotAhead m c) → HasUnder steps c.label.p c.label.v
    → SweptFirst (xs ++ c ∷ []) kept steps
first_dropped xs kept steps c s order covered = record {
  swept = subst (λ ls. Swept ls (labels_in kept) steps) (sym (labels_push xs c)) (swept_dropped (labels_in xs) (labels_in kept) steps c.label s.swept (labels_before xs c order) covered);
  within = λ k h. Contains-append_left xs (c ∷ []) k (s.within k h);
  first = λ k x h there same. ⊎_elim (λ old. s.first k x h old same) (λ (e : c ≡ x). subst (λ (y : Candidate). k.parent ≤ y.parent) e (ahead_parent k c (order k (s.within k h)) (subst (λ (y : Candidate). y.label ≡ k.label) (sym e) same))) (Contains-push_cases xs c x there);
}

-- any other is kept
pub first_kept : (xs kept : List Candidate) (steps more : List Label) (c : Candidate) → SweptFirst xs kept steps → ((m : Candidate) → Contains xs m → NotAhead m c) → (HasUnder steps c.label.p c.label.v → ⊥)
    → IsRising more
    → ((p : ℕ) (v : ℤ) → HasUnder more p v ↔ (HasUnder steps p v ⊎ ((c.label.p ≤ p) × (v ≤ℤ c.label.v)))) → SweptFirst (xs ++ c ∷ []) (kept ++ c ∷ []) more
first_kept xs kept steps more c s order free rises adds =
    record {
      swept = subst (λ ls. Swept ls (labels_in (kept ++ c ∷ [])) more) (sym (labels_push xs c)) (subst (λ ls. Swept (labels_in xs ++ c.label ∷ []) ls more) (sym (labels_push kept c))
          (swept_kept (labels_in xs) (labels_in kept) steps more c.label s.swept (labels_before xs c order) free rises adds));
      within = λ k h. ⊎_elim (λ old. Contains-append_left xs (c ∷ []) k (s.within k old)) (λ (e : c ≡ k). subst (Contains (xs ++ c ∷ [])) e (Contains-push xs c)) (Contains-push_cases kept c k h);
      first = λ k x h there same. ⊎_elim
          (λ old. ⊎_elim (λ old_too. s.first k x old old_too same)
          (λ (e : c ≡ x). subst (λ (y : Candidate). k.parent ≤ y.parent) e (ahead_parent k c (order k (s.within k old)) (subst (λ (y : Candidate). y.label ≡ k.label) (sym e) same))) (Contains-push_cases xs c x there))
          (λ (e : c ≡ k). ⊎_elim
          (λ old_too. absurd (free (swept_covers (labels_in xs) (labels_in kept) steps c.label s.swept
          (subst (Contains (labels_in xs)) (same ∙ ap label_of (sym e)) (in_map (λ (y : Candidate). y.label) xs x old_too)))))
          (λ (f : c ≡ x). let one : k ≡ x = sym e ∙ f in subst (λ (y : Candidate). k.parent ≤ y.parent) one (itself k.parent)) (Contains-push_cases xs c x there)) (Contains-push_cases kept c k h);
    }
  where
    itself : (n : ℕ) → n ≤ n
    itself n = omega arith

-- what is kept at the end has the labels that no different one dominates, with their first parents
pub first_all : (xs kept : List Candidate) (steps : List Label) → SweptFirst xs kept steps → AreFirst xs kept
first_all xs kept steps s = record { labels = swept_all (labels_in xs) (labels_in kept) steps s.swept; within = s.within; first = s.first }

-- the order of the candidates is nothing to this
pub first_moved : (xs ys kept : List Candidate) → IsPermutation xs ys → AreFirst ys kept → AreFirst xs kept
first_moved xs ys kept moved h = record {
  labels = h.labels ∙ undominated_same (labels_in ys) (labels_in xs) (λ l there. moves xs ys moved l there) (λ l there. (l, moves ys xs (IsPermutation-sym xs ys moved) l there, dominates_itself l));
  within = λ k there. Contains-permutation ys xs k (IsPermutation-sym xs ys moved) (h.within k there);
  first = λ k c there inside same. h.first k c there (Contains-permutation xs ys c moved inside) same;
}
  where
    moves : (us ws : List Candidate) → IsPermutation us ws → (l : Label) → Contains (labels_in us) l → Contains (labels_in ws) l
    moves us ws m l there =
        let c = from_map (λ (x : Candidate). x.label) us l there in
        subst (Contains (labels_in ws)) c.2 (in_map (λ (x : Candidate). x.label) ws c.0 (Contains-permutation us ws c.0 m c.1))

-- ---- the first that passes

-- the place of the first element that passes
pub find_first : {X : Type 0} (p : X → Bool) (xs : List X) (n : ℕ) (d : X) → n < length xs → p (get_or xs n d) ≡ true → ((m : ℕ) → m < n → p (get_or xs m d) ≡ true → ⊥) → find p xs ≡ Some (get_or xs n d)
find_first p [] n d low passes none = absurd (omega (arith, low))
find_first p (x ∷ xs) zero d low passes none = cond-true (p x) (Some x) (find p xs) passes
find_first p (x ∷ xs) (suc n) d low passes none =
    ⊎_elim (λ (yes : p x ≡ true). absurd (none 0 (omega arith) yes))
    (λ (no : p x ≡ false). cond-false (p x) (Some x) (find p xs) no ∙ find_first p xs n d (omega (arith, low)) passes (λ m less yes. none (suc m) (omega (arith, less)) yes)) (cases_Bool (p x))

-- ---- rounding keeps a lead

-- a multiple above is less than a step away
above_near : (step : ℕ) (v : ℤ) → 1 ≤ step → multiple_above step v <ℤ (v +ℤ pos step)
above_near step (pos n) some = let t = div_ceil_times n step some in omega (arith, ints, t.1)
above_near step (negsuc n) some = let near : suc n < multiple_below step (suc n) + step = omega arith in omega (arith, ints, near)

values_apart : (v w a b : ℤ) (step : ℕ) → v <ℤ (a +ℤ pos step) → (a +ℤ pos step) ≤ℤ b → b ≤ℤ w → v <ℤ w
values_apart v w a b step h k l = omega (arith, ints, h, k, l)

lead_dominates : (step : ℕ) (a b : Label) → LeadsBy step a b → Dominates a b
lead_dominates step a b h = let more = h.2 in (h.0, h.1, omega (arith, ints, more))

-- where a label leads another by a step of the grid, its rounded value is greater
round_leads : (d : Rounding) → IsGrid d → (a b : Label) → LeadsBy d.value a b → Dominates (rounded d a) (rounded d b) × ((rounded d b).v <ℤ (rounded d a).v)
round_leads d is a b h =
    let some = is.value.0 in (
      round_inherits d is a b (lead_dominates d.value a b h),
      values_apart (multiple_above d.value b.v) (multiple_above d.value a.v) b.v a.v d.value (above_near d.value b.v some) h.2 (above_high d.value a.v some).0,
    )

apart : (v : ℤ) → v <ℤ v → ⊥
apart v h = absurd (omega (arith, ints, h))

-- ---- what is enough

module _ (d : Rounding) (g : Task) (case : CanPlan d g) (i : ℕ) (low : suc i < segments_of g.film) (r : ℕ) (rung : r < rungs_of g.film) (kept : List Followed) (enough : AreEnough d g (suc i) (grown_labels d g i) kept) where
  abbrev at : ℕ → ℕ × Label
  at k = get_or (grown_labels d g i) k (0, no_label)

  there : (k : ℕ) → k < length (grown_labels d g i) → Contains (grown_labels d g i) (at k)
  there k near = Contains-get_or (grown_labels d g i) k (0, no_label) near

  -- the rounded successor of a label
  abbrev after : ℕ × Label → Label
  after c = rounded d (next_label g (suc i) c.0 c.1 r)

  abbrev cands : List Candidate
  cands = map (follower d g (suc i) r) kept

  -- a candidate's label is the rounded successor of the label at its parent's place
  after_place : (c : Followed) → Contains kept c → (follower d g (suc i) r c).label ≡ after (at c.place)
  after_place c h = ap (rounded d) (enough.within c h r)

  from_cands : (l : Label) → Contains (labels_in cands) l → (c : Followed) × Contains kept c × ((follower d g (suc i) r c).label ≡ l)
  from_cands l h =
      let k = from_map (λ (x : Candidate). x.label) cands l h in
      let c = from_map (follower d g (suc i) r) kept k.0 k.1 in
      (c.0, c.1, ap (λ (x : Candidate). x.label) c.2 ∙ k.2)

  in_cands : (c : Followed) → Contains kept c → Contains (labels_in cands) (follower d g (suc i) r c).label
  in_cands c h = in_map (λ (x : Candidate). x.label) cands (follower d g (suc i) r c) (in_map (follower d g (suc i) r) kept c h)

  above_after : (k : ℕ) → k < length (grown_labels d g i) → HasAbove (labels_in cands) (after (at k))
  above_after k near =
      let c = enough.above k near in (
        (follower d g (suc i) r c.0).label,
        in_cands c.0 c.1,
        ⊎_elim (λ (e : c.0.place ≡ k). subst (Dominates (follower d g (suc i) r c.0).label) (after_place c.0 c.1 ∙ ap (λ n. after (at n)) e) (dominates_itself (follower d g (suc i) r c.0).label))
            (λ (leads : LeadsOn d g (suc i) c.0 (at k)). (round_leads d case.grid (next_label g (suc i) c.0.rung c.0.label r) (next_label g (suc i) (at k).0 (at k).1 r) (leads r rung)).0) c.2,
      )

  -- what no other candidate dominates is the coarse frontier
  grown_is : undominated (labels_in cands) ≡ grown d g (suc i) r
  grown_is =
      sym (undominated_same (successors d g (suc i) (grown d g i) r) (labels_in cands)
      (λ l here.
      let c = from_cands l here in
      subst (Contains (map after (grown_labels d g i))) (sym (after_place c.0 c.1) ∙ c.2) (in_map after (grown_labels d g i) (at c.0.place) (there c.0.place (enough.inside c.0 c.1))))
      (λ l here.
      let b = from_map after (grown_labels d g i) l here in
      let k = b.1 in
      subst (HasAbove (labels_in cands)) (ap after (get_or_default (grown_labels d g i) k.0 (0, no_label) b.0 k.1 ∙ k.2) ∙ b.2) (above_after k.0 k.1)))
      ∙ sym (grown_next d g i r)

  module _ (ks : List Candidate) (h : AreFirst cands ks) (k : Candidate) (here : Contains ks k) where
    -- the label that the candidate follows
    own : (c : Followed) × Contains kept c × (follower d g (suc i) r c ≡ k)
    own = from_map (follower d g (suc i) r) kept k (h.within k here)

    label_is : after (at k.parent) ≡ k.label
    label_is = let c = own in subst (λ (x : Candidate). after (at x.parent) ≡ x.label) c.2 (sym (after_place c.0 c.1))

    parent_inside : k.parent < length (grown_labels d g i)
    parent_inside = let c = own in subst (λ (x : Candidate). x.parent < length (grown_labels d g i)) c.2 (enough.inside c.0 c.1)

    -- no label before its parent leads to it
    none_before : (m : ℕ) → m < k.parent → leads_to d g (suc i) (at m) (r, k.label) ≡ true → ⊥
    none_before m less leads =
        let same : after (at m) ≡ k.label = same_any (after (at m)) k.label leads in
        let inside = parent_inside in
        let up = enough.above m (omega (arith, less, inside)) in
        let c = up.0 in
        ⊎_elim
        (λ (e : c.place ≡ m).
        let later = h.first k (follower d g (suc i) r c) here (in_map (follower d g (suc i) r) kept c up.1) (after_place c up.1 ∙ ap (λ n. after (at n)) e ∙ same) in
        absurd (omega (arith, later, e, less)))
        (λ (over : LeadsOn d g (suc i) c (at m)).
        let beats = round_leads d case.grid (next_label g (suc i) c.rung c.label r) (next_label g (suc i) (at m).0 (at m).1 r) (over r rung) in
        let stays = (undominated_in (labels_in cands) k.label (subst (λ ls. Contains ls k.label) h.labels (in_map (λ (x : Candidate). x.label) ks k here))).1 in
        let one : (follower d g (suc i) r c).label ≡ after (at m) = stays (follower d g (suc i) r c).label (in_cands c up.1) (subst (Dominates (follower d g (suc i) r c).label) same beats.0) ∙ sym same in
        apart (after (at m)).v (subst (λ (x : Label). (after (at m)).v <ℤ x.v) one beats.1)) up.2

    -- so its parent is the first label that does
    parent_first : HasParent d g (suc i) r k
    parent_first =
        let passes : leads_to d g (suc i) (at k.parent) (r, k.label) ≡ true = subst (λ l. is_same (after (at k.parent)) l ≡ true) label_is ((eq_by_cmp_equiv label_total).refl (after (at k.parent))) in
        let found = find_first (λ b. leads_to d g (suc i) b (r, k.label)) (grown_labels d g i) k.parent (0, no_label) parent_inside passes none_before in
        let e : suc i - 1 ≡ i = omega arith in record {
          inside = subst (λ n. k.parent < length (grown_labels d g n)) (sym e) parent_inside;
          is = subst (λ n. get_or (grown_labels d g n) k.parent (0, no_label) ≡ parent_of d g (grown d g) n (r, k.label)) (sym e) (sym (ap (λ o. unwrap_or o (0, no_label)) found));
        }

  -- the first of the candidates are the coarse frontier with its parents
  pub first_parents : (made ks : List Candidate) → made ≡ cands → AreFirst made ks → HaveParents d g (suc i) r ks
  first_parents made ks same h =
      let own_first = subst (λ cs. AreFirst cs ks) same h in
      record { labels = own_first.labels ∙ grown_is; parents = λ k here some. parent_first ks own_first k here }

-- the same, with the segment before
pub next_parents : (d : Rounding) (g : Task) → CanPlan d g → (i r : ℕ) (kept : List Followed) (made ks : List Candidate) → 0 < i → i < segments_of g.film → r < rungs_of g.film
    → AreEnough d g i (grown_labels d g (i - 1)) kept → made ≡ map (follower d g i r) kept → AreFirst made ks → HaveParents d g i r ks
next_parents d g case zero r kept made ks some low rung enough same h = absurd (omega (arith, some))
next_parents d g case (suc i) r kept made ks some low rung enough same h =
    let e : suc i - 1 ≡ i = omega arith in
    first_parents d g case i low r rung kept (subst (λ n. AreEnough d g (suc i) (grown_labels d g n) kept) e enough) made ks same h

-- the start label alone is the coarse frontier of segment 0
pub first_start : (d : Rounding) (g : Task) (i r : ℕ) (ks : List Candidate) (l : Label) → i ≡ 0 → l ≡ rounded d (start_label g r) → ks ≡ record { label = l; parent = 0 } ∷ [] → HaveParents d g i r ks
first_start d g i r ks l first start is = record {
  labels = ap labels_in is ∙ ap (λ (x : Label). x ∷ []) start ∙ sym (grown_first d g r) ∙ ap (λ n. grown d g n r) (sym first);
  parents = λ k here some. absurd (omega (arith, first, some));
}
