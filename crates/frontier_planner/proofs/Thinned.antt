-- Of the labels of a segment some are enough for the frontiers of the next one.
use Rattle.std.proofs.Common.{◌≡◌, ◌∙◌, ℕ, zero, suc, ◌+◌, ◌-◌, ◌*◌, ◌<◌, ◌≤◌, ◌⊎◌, inl, inr, ⊎_elim, List, [], ◌∷◌, ◌++◌, length, get_or, map, take, max, sym, ap, subst, arith}
use Rattle.std.specs.Prelude.{ℤ, pos, ◌+ℤ◌, ◌-ℤ◌, ◌≤ℤ◌}
use Rattle.std.specs.List.{All, Contains}
use Rattle.std.specs.List.Sorted.{IsPermutation, IsSortedBy}
use Rattle.std.specs.Cmp.{IsStrictWeakOrder}
use Rattle.std.specs.Ordering.{is_lt}
use Rattle.std.proofs.lemmas.Int.{ints}
use Rattle.std.proofs.Math.Seq.{get_or-append_seam}
use Rattle.std.proofs.lemmas.Bool.{cases_lt}
use Rattle.std.proofs.lemmas.List.{get_or-map, get_or_append_left, get_or_default, length_push}
use Rattle.std.proofs.lemmas.List.Elements.{Contains-append_left, Contains-get_or, Contains-push, Contains-push_cases}
use Rattle.std.proofs.lemmas.List.Sorted.{Contains-permutation, IsPermutation-sym, ranks_by}
use Rattle.lab_model.specs.declared.label.Label.{Label}
use Rattle.lab_model.specs.Film.{rungs_of, segments_of}
use Rattle.labels.specs.Grid.{Rounding}
use Rattle.labels.specs.Grown.{CanPlan, grown_labels}
use Rattle.labels.specs.Labels.{came_at, next_label, request_at}
use Rattle.player_core.specs.Scene.{IsTask, Task}
use Rattle.labels.specs.Near.{CanFollow}
use Rattle.frontier_planner.specs.Staircase.{IsRising}
use Rattle.frontier_planner.specs.Sweep.{HasUnder, sweep_cmp}
use Rattle.labels.specs.Read.{no_label}
use Rattle.frontier_planner.specs.declared.chains.Reached.{Reached}
use Rattle.frontier_planner.specs.declared.thin.Followed.{Followed}
use Rattle.frontier_planner.specs.Linked.{no_reached, pair_of}
use Rattle.frontier_planner.specs.Thinned.{AreEnough, AreLeaders, AreWaiting, CoversChange, LeadsBy, change_cost, no_followed, waiting, waiting_at}
use Rattle.labels.proofs.Follows.{in_reach, label_follows}
use Rattle.labels.proofs.Inherits.{came_in_order}
use Rattle.labels.proofs.Reached.{request_soon}
use Rattle.frontier_planner.proofs.Sweep.{NotBefore, none_behind, sweep_total, times}
use Rattle.labels.proofs.Walks.{none_at}

-- ---- labels that wait

module _ (g : Task) (i : ℕ) where
  -- a label that waits makes its request when the label does
  request_same : (c : ℕ × Label) → request_at g i (waiting g i c).1 ≡ request_at g i c.1
  request_same c = omega arith

  -- and has its successors
  pub waiting_next : (c : ℕ × Label) (r : ℕ) → next_label g i c.0 (waiting g i c).1 r ≡ next_label g i c.0 c.1 r
  waiting_next c r =
      ap (λ s. let t = came_at g s i r in
      let next : Label = record { t = t; p = max c.1.p (t - i * g.film.seg_ms); v = (next_label g i c.0 c.1 r).v } in next) (request_same c)

  module _ (is : IsTask g) where
    value_leads : (a b : ℤ) (gain x y most step : ℕ) → (b +ℤ pos (most + step)) ≤ℤ a → x ≤ most → (((b +ℤ pos gain) -ℤ pos y) +ℤ pos step) ≤ℤ ((a +ℤ pos gain) -ℤ pos x)
    value_leads a b gain x y most step h low = omega (arith, ints, h, low)

    -- a label that leads another by the dearest change and a step, whatever their rungs, has successors that lead by the step
    pub leads_next : (most step : ℕ) (a b : ℕ × Label) (r : ℕ) → CoversChange g i most → a.0 < rungs_of g.film → i < segments_of g.film → r < rungs_of g.film
        → LeadsBy (most + step) (waiting g i a).1 (waiting g i b).1 → LeadsBy step (next_label g i a.0 a.1 r) (next_label g i b.0 b.1 r)
    leads_next most step a b r covers rung low next h =
        let came = came_in_order g is i r low next (request_at g i a.1) (request_at g i b.1) h.0 in
        let p = h.1 in
        (came, omega (arith, came, p), value_leads a.1.v b.1.v _ (change_cost g i a.0 r) (change_cost g i b.0 r) most step h.2 (covers a.0 r rung next))

-- one more label that waits, with its place
pub waiting_more : (g : Task) (i n : ℕ) (before : List Reached) (waits more : List Followed) (c : Followed) → n < length before → length waits ≡ n
    → ((k : ℕ) → k < n → get_or waits k no_followed ≡ waiting_at g i (map pair_of before) k) → more ≡ waits ++ c ∷ []
    → record { rung = (get_or before n no_reached).rung; label = (waiting g i (pair_of (get_or before n no_reached))).1; place = n } ≡ c
    → (length more ≡ n + 1) × ((k : ℕ) → k < n + 1 → get_or more k no_followed ≡ waiting_at g i (map pair_of before) k)
waiting_more g i n before waits more c low count each pushed made =
    let long = ap length pushed ∙ length_push waits c in (
      omega (arith, long, count),
      λ k less. ap (λ (cs : List Followed). get_or cs k no_followed) pushed
          ∙ ⊎_elim (λ (old : k < n). get_or_append_left waits (c ∷ []) no_followed k (omega (arith, old, count)) ∙ each k old)
          (λ (new : n ≤ k).
          let e : length waits ≡ k = omega (arith, less, new, count) in
          let own : n ≡ k = omega (arith, less, new) in
          ap (λ m. get_or (waits ++ c ∷ []) m no_followed) (sym e) ∙ get_or-append_seam waits c [] no_followed
          ∙ sym made ∙ sym (ap (λ (p : ℕ × Label). let f : Followed = record { rung = p.0; label = (waiting g i p).1; place = n } in f) (get_or-map pair_of before n no_reached (0, no_label) low))
          ∙ ap (λ m. waiting_at g i (map pair_of before) m) own) (cases_lt k n),
    )

-- ---- the walk over labels in order

-- the order of the sweep, whatever the rungs, is one to sort by
pub rung_ranks : IsStrictWeakOrder (λ (a b : Followed). is_lt (sweep_cmp a.label b.label))
rung_ranks = ranks_by sweep_total (λ (c : Followed). c.label)

-- those kept of the labels so far lead the others, and the staircase stands over some of them
pub record Led (slack : ℕ) (xs kept : List Followed) (steps : List Label) : Type 0 where
  pub leaders : AreLeaders slack xs kept
  under : (p : ℕ) (v : ℤ) → HasUnder steps p v → (b : Followed) × Contains kept b × (b.label.p ≤ p) × (v ≤ℤ b.label.v)
  pub rising : IsRising steps

-- nothing is kept of no labels
pub led_none : (slack : ℕ) → Led slack [] [] []
led_none slack = record {
  leaders = record { within = λ c h. h; above = λ c h. absurd (none_at c h) };
  under = λ p v h. absurd (none_at h.0 h.1);
  rising = λ i j d low inside. absurd (omega (arith, inside));
}

-- a label that is led needn't be kept
pub led_dropped : (slack : ℕ) (xs kept : List Followed) (steps : List Label) (c : Followed) → Led slack xs kept steps
    → ((m : Followed) → Contains xs m → NotBefore m.label c.label) → HasUnder steps c.label.p (c.label.v +ℤ pos slack) → Led slack (xs ++ c ∷ []) kept steps
led_dropped slack xs kept steps c s order covered = record {
  leaders = record {
    within = λ m h. Contains-append_left xs (c ∷ []) m (s.leaders.within m h);
    above = λ n h. ⊎_elim (λ old. s.leaders.above n old)
        (λ (e : c ≡ n).
        let up = s.under c.label.p (c.label.v +ℤ pos slack) covered in
        (up.0, up.1, inr (subst (λ (y : Followed). LeadsBy slack up.0.label y.label) e (times up.0.label c.label (order up.0 (s.leaders.within up.0 up.1)), up.2, up.3)))) (Contains-push_cases xs c n h);
  };
  under = s.under;
  rising = s.rising;
}

-- any other is kept
pub led_kept : (slack : ℕ) (xs kept : List Followed) (steps more : List Label) (c : Followed) → Led slack xs kept steps → IsRising more
    → ((p : ℕ) (v : ℤ) → HasUnder more p v → HasUnder steps p v ⊎ ((c.label.p ≤ p) × (v ≤ℤ c.label.v))) → Led slack (xs ++ c ∷ []) (kept ++ c ∷ []) more
led_kept slack xs kept steps more c s rises adds = record {
  leaders = record {
    within = λ m h. ⊎_elim (λ old. Contains-append_left xs (c ∷ []) m (s.leaders.within m old)) (λ (e : c ≡ m). subst (Contains (xs ++ c ∷ [])) e (Contains-push xs c)) (Contains-push_cases kept c m h);
    above = λ n h. ⊎_elim (λ old. let up = s.leaders.above n old in (up.0, Contains-append_left kept (c ∷ []) up.0 up.1, up.2))
        (λ (e : c ≡ n). (c, Contains-push kept c, inl e)) (Contains-push_cases xs c n h);
  };
  under = λ p v h. ⊎_elim (λ old. let up = s.under p v old in (up.0, Contains-append_left kept (c ∷ []) up.0 up.1, up.2, up.3)) (λ new. (c, Contains-push kept c, new.0, new.1)) (adds p v h);
  rising = rises;
}

-- in a list in order none of the labels so far is swept after the next
pub none_after_rung : (xs : List Followed) (i : ℕ) (d : Followed) → IsSortedBy (λ (a b : Followed). is_lt (sweep_cmp a.label b.label)) xs → i < length xs → (m : Followed) → Contains (take i xs) m → NotBefore m.label (get_or xs i d).label
none_after_rung xs i d h low m there = none_behind (λ (a b : Followed). is_lt (sweep_cmp a.label b.label)) rung_ranks xs i d h low m there

-- ---- what is enough

module _ (d : Rounding) (g : Task) (case : CanPlan d g) (i : ℕ) (low : suc i < segments_of g.film) where
  -- a label that waits can be followed
  pub waiting_follows : (c : ℕ × Label) → Contains (grown_labels d g i) c → (c.0 < rungs_of g.film) × CanFollow (waiting g (suc i) c).1
  waiting_follows c h =
      let reach = in_reach d g case i c (omega (arith, low)) h in
      let soon = request_soon g case.task i low c.1 reach.1 in
      let few = case.task.film.segments.1 in
      let follows = label_follows d g case i c (omega (arith, low)) h in
      (reach.0, record { time = omega (arith, soon, few, low); delay = follows.delay; value = follows.value })

  -- the label at a place
  abbrev at : ℕ → ℕ × Label
  at k = get_or (grown_labels d g i) k (0, no_label)

  there : (k : ℕ) → k < length (grown_labels d g i) → Contains (grown_labels d g i) (at k)
  there k low = Contains-get_or (grown_labels d g i) k (0, no_label) low

  -- the place of what waits
  from_waits : (waits : List Followed) → AreWaiting g (suc i) (grown_labels d g i) waits → (c : Followed) → Contains waits c
      → (k : ℕ) × (k < length (grown_labels d g i)) × (waiting_at g (suc i) (grown_labels d g i) k ≡ c)
  from_waits waits made c h =
      let count = made.count in
      let low = h.1 in
      let inside : h.0 < length (grown_labels d g i) = omega (arith, count, low) in
      (h.0, inside, sym (made.each h.0 inside) ∙ get_or_default waits h.0 no_followed c low ∙ h.2)

  module _ (waits sorted kept : List Followed) (made : AreWaiting g (suc i) (grown_labels d g i) waits) (moved : IsPermutation waits sorted) (most : ℕ) (lead : AreLeaders (most + d.value) sorted kept)
      (covers : CoversChange g (suc i) most) where
    -- a kept label is one that waits
    from_kept : (c : Followed) → Contains kept c → (k : ℕ) × (k < length (grown_labels d g i)) × (waiting_at g (suc i) (grown_labels d g i) k ≡ c)
    from_kept c h = from_waits waits made c (Contains-permutation sorted waits c (IsPermutation-sym waits sorted moved) (lead.within c h))

    -- it has the successors of that one
    kept_next : (c : Followed) → Contains kept c → (r : ℕ) → next_label g (suc i) c.rung c.label r ≡ next_label g (suc i) (at c.place).0 (at c.place).1 r
    kept_next c h r =
        let k = from_kept c h in
        subst (λ (x : Followed). next_label g (suc i) x.rung x.label r ≡ next_label g (suc i) (at x.place).0 (at x.place).1 r) k.2 (waiting_next g (suc i) (at k.0) r)

    -- those kept are enough
    pub leaders_enough : AreEnough d g (suc i) (grown_labels d g i) kept
    leaders_enough = record {
      follow = λ c h. let k = from_kept c h in subst (λ (x : Followed). (x.rung < rungs_of g.film) × CanFollow x.label) k.2 (waiting_follows (at k.0) (there k.0 k.1));
      inside = λ c h. let k = from_kept c h in subst (λ (x : Followed). x.place < length (grown_labels d g i)) k.2 k.1;
      within = kept_next;
      above = λ k near.
          let waits_there : Contains waits (waiting_at g (suc i) (grown_labels d g i) k) =
          let count = made.count in let inside : k < length waits = omega (arith, count, near) in subst (Contains waits) (made.each k near) (Contains-get_or waits k no_followed inside) in
          let up = lead.above (waiting_at g (suc i) (grown_labels d g i) k) (Contains-permutation waits sorted (waiting_at g (suc i) (grown_labels d g i) k) moved waits_there) in
          let c = up.0 in (
            c,
            up.1,
            ⊎_elim (λ (same : c ≡ waiting_at g (suc i) (grown_labels d g i) k). inl (ap (λ (x : Followed). x.place) same))
                (λ (leads : LeadsBy (most + d.value) c.label (waiting_at g (suc i) (grown_labels d g i) k).label).
                inr (λ r rung.
                let a = from_kept c up.1 in
                let over = leads_next g (suc i) case.task most d.value (at a.0) (at k) r covers (waiting_follows (at a.0) (there a.0 a.1)).0 low rung
                (subst (λ (x : Followed). LeadsBy (most + d.value) x.label (waiting_at g (suc i) (grown_labels d g i) k).label) (sym a.2) leads) in
                let same : next_label g (suc i) c.rung c.label r ≡ next_label g (suc i) (at a.0).0 (at a.0).1 r =
                subst (λ (x : Followed). next_label g (suc i) x.rung x.label r ≡ next_label g (suc i) (at a.0).0 (at a.0).1 r) a.2 (waiting_next g (suc i) (at a.0) r) in
                subst (λ (x : Label). LeadsBy d.value x (next_label g (suc i) (at k).0 (at k).1 r)) (sym same) over)) up.2,
          );
    }

-- ---- the same, with the segment before

-- labels in order that wait can be followed
pub sorted_follow : (d : Rounding) (g : Task) → CanPlan d g → (i : ℕ) (labels : List (ℕ × Label)) (waits sorted : List Followed) → 1 ≤ i → i < segments_of g.film → labels ≡ grown_labels d g (i - 1)
    → AreWaiting g i labels waits → IsPermutation waits sorted → All (λ (c : Followed). CanFollow c.label) sorted
sorted_follow d g case zero labels waits sorted some low is made moved k e inside = absurd (omega (arith, some))
sorted_follow d g case (suc i) labels waits sorted some low is made moved k e inside =
    let x = get_or sorted k e in
    let here = Contains-permutation sorted waits x (IsPermutation-sym waits sorted moved) (Contains-get_or sorted k e inside) in
    let one : suc i - 1 ≡ i = omega arith in
    let own = subst (λ ls. AreWaiting g (suc i) ls waits) (is ∙ ap (grown_labels d g) one) made in
    let b = from_waits d g case i low waits own x here in
    subst (λ (y : Followed). CanFollow y.label) b.2 (waiting_follows d g case i low (at d g case i low b.0) (there d g case i low b.0 b.1)).1

-- their leaders are enough
pub sorted_enough : (d : Rounding) (g : Task) → CanPlan d g → (i : ℕ) (labels : List (ℕ × Label)) (waits sorted kept : List Followed) (most : ℕ) → 1 ≤ i → i < segments_of g.film → labels ≡ grown_labels d g (i - 1)
    → AreWaiting g i labels waits → IsPermutation waits sorted → CoversChange g i most → AreLeaders (most + d.value) sorted kept → AreEnough d g i (grown_labels d g (i - 1)) kept
sorted_enough d g case zero labels waits sorted kept most some low is made moved covers lead = absurd (omega (arith, some))
sorted_enough d g case (suc i) labels waits sorted kept most some low is made moved covers lead =
    let one : suc i - 1 ≡ i = omega arith in
    let own = subst (λ ls. AreWaiting g (suc i) ls waits) (is ∙ ap (grown_labels d g) one) made in
    subst (λ n. AreEnough d g (suc i) (grown_labels d g n) kept) (sym one)
    (leaders_enough d g case i low waits sorted kept own moved most lead covers)
