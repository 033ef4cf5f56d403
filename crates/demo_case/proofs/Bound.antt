-- The bound on the labels of a made case: in each of 160 frontiers at most 484 values, each of one label.
use Rattle.std.proofs.Common.{◌≡◌, ◌≢◌, ◌∙◌, ℕ, zero, suc, ◌+◌, ◌*◌, ◌<◌, ◌≤◌, List, length, map, get_or, sym, subst, arith, true, length-append}
use Rattle.std.specs.Prelude.{ℤ}
use Rattle.std.specs.List.{AllPairs, Contains, IsDistinct, flat_map, range_with_len}
use Rattle.std.specs.List.Sorted.{IsStrictlySortedBy}
use Rattle.std.specs.Bool.{Decides}
use Rattle.std.specs.Ordering.{int_eq}
use Rattle.std.proofs.lemmas.Bool.Decides.{Decides-int_eq}
use Rattle.std.proofs.lemmas.Cmp.{eq_by_cmp_equiv, int_eq_equiv}
use Rattle.std.proofs.lemmas.List.{get_or-map, get_or_default, length-map}
use Rattle.std.proofs.lemmas.List.FromFn.{length-map-range_with_len}
use Rattle.std.proofs.lemmas.Map.Keys.{IsDistinct-from_sorted}
use Rattle.std.proofs.lemmas.Map.Made.{AllPairs-from_IsDistinct, IsDistinct-from_AllPairs, is_member-Decides, length-le_from_is_member}
use Rattle.std.proofs.lemmas.Map.Views.{tells_apart}
use Rattle.lab_model.specs.declared.label.Label.{Label}
use Rattle.lab_model.specs.Film.{segments_of}
use Rattle.lab_model.specs.Ladder.{rungs_below}
use Rattle.labels.specs.Frontier.{frontier, is_same, label_cmp, prefix_labels}
use Rattle.labels.specs.Read.{labels_before, labels_of}
use Rattle.labels.proofs.Kept.{undominated_sorted}
use Rattle.labels.proofs.Order.{label_exact, label_total}
use Rattle.labels.proofs.Prefixes.{frontier_is, grown_is_frontier}
use Rattle.labels.proofs.SmallBuffers.{frontier_apart}
use Rattle.labels.proofs.Walks.{from_map, in_flat_map, in_map, in_rungs}
use Rattle.demo_case.specs.Case.{demo_task}
use Rattle.demo_case.specs.Laws.{DemoFitsBudget, DemoIsSmall}
use Rattle.demo_case.proofs.Values.{grown_value, value_of}
use Rattle.demo_case.proofs.Within.{demo_is_task, demo_segments}

-- ---- counting

-- lists of as many elements each
count_pairs : (f : ℕ → ℕ → ℤ) (k a m : ℕ) → length (flat_map (λ q. map (f q) (rungs_below k)) (range_with_len a m)) ≡ m * k
count_pairs f k a zero = omega arith
count_pairs f k a (suc m) =
    let here = length-map-range_with_len (f a) 0 k in
    let rest = count_pairs f k (a + 1) m in
    let both = length-append (map (f a) (rungs_below k)) (flat_map (λ q. map (f q) (rungs_below k)) (range_with_len (a + 1) m)) in
    omega (arith, here, rest, both)

-- the labels of a rung's chain with the rung
abbrev on_rung : (ℕ → List Label) → ℕ → List (ℕ × Label)
on_rung chain q = map (λ l. (q, l)) (chain q)

-- chains of at most so many labels each
count_labels : (chain : ℕ → List Label) (k a m : ℕ) → ((q : ℕ) → q < a + m → length (chain q) ≤ k) → length (flat_map (on_rung chain) (range_with_len a m)) ≤ m * k
count_labels chain k a zero few = omega arith
count_labels chain k a (suc m) few =
    let most = few a (omega arith) in
    let here : length (on_rung chain a) ≡ length (chain a) = length-map (chain a) (λ (l : Label). (a, l)) in
    let rest = count_labels chain k (a + 1) m (λ q low. few q (omega (arith, low))) in
    let both = length-append (on_rung chain a) (flat_map (on_rung chain) (range_with_len (a + 1) m)) in
    omega (arith, most, here, rest, both)

-- ---- one frontier

same_decides : (a b : Label) → Decides (is_same a b) (a ≡ b)
same_decides a b = (tells_apart label_exact a b, λ e. subst (λ c. is_same a c ≡ true) e ((eq_by_cmp_equiv label_total).refl a))

-- labels that differ, and of which no two that differ have equal values, have values that differ
values_differ : (ls : List Label) → IsDistinct is_same ls → ((a b : Label) → Contains ls a → Contains ls b → a.v ≡ b.v → a ≡ b) → IsDistinct int_eq (map (λ (l : Label). l.v) ls)
values_differ ls distinct apart = IsDistinct-from_AllPairs Decides-int_eq (map (λ (l : Label). l.v) ls) pairs
  where
    pairs : AllPairs (λ (x y : ℤ). x ≢ y) (map (λ (l : Label). l.v) ls)
    pairs i j d low high same =
        let long = length-map ls (λ (l : Label). l.v) in
        let e : Label = record { t = 0; p = 0; v = d } in
        let j_low : j < length ls = omega (arith, high, long) in
        let i_low : i < length ls = omega (arith, low, j_low) in
        let a = get_or ls i e in
        let b = get_or ls j e in
        let values = sym (get_or-map (λ (l : Label). l.v) ls i e d i_low) ∙ same ∙ get_or-map (λ (l : Label). l.v) ls j e d j_low in
        AllPairs-from_IsDistinct same_decides ls distinct i j e low j_low (apart a b (i, i_low, get_or_default ls i a e i_low) (j, j_low, get_or_default ls j b e j_low) values)

-- the values that a label of a made case may have
values : ℕ → List ℤ
values n = flat_map (λ q. map (value_of n q) (rungs_below 121)) (rungs_below 4)

module _ (n i q : ℕ) (inside : i < 40) (rung : q < 4) where
  segment_inside : i < segments_of (demo_task n).film
  segment_inside = let count = demo_segments n in omega (arith, count, inside)

  -- a label's value is one of them
  value_in : (l : Label) → Contains (frontier (demo_task n) i q) l → Contains (values n) l.v
  unfolding values
  value_in l h =
      let has = grown_value n i q l rung (subst (λ xs. Contains xs l) (sym (grown_is_frontier (demo_task n) (demo_is_task n) i q segment_inside rung)) h) in
      let most = has.3 in
      subst (Contains (values n)) (sym has.4)
      (in_flat_map (λ p. map (value_of n p) (rungs_below 121)) (rungs_below 4) has.0 (value_of n has.0 has.1) (in_rungs 4 has.0 has.2)
      (in_map (value_of n has.0) (rungs_below 121) has.1 (in_rungs 121 has.1 (omega (arith, most, inside)))))

  -- and no two labels have the same
  values_apart : IsDistinct int_eq (map (λ (l : Label). l.v) (frontier (demo_task n) i q))
  values_apart =
      values_differ (frontier (demo_task n) i q)
      (IsDistinct-from_sorted label_cmp (frontier (demo_task n) i q)
      (subst (IsStrictlySortedBy label_cmp) (sym (frontier_is (demo_task n) i q)) (undominated_sorted (prefix_labels (demo_task n) i q))))
      (frontier_apart (demo_task n) (demo_is_task n) (omega arith) i q segment_inside rung)

  -- so there are at most 484
  frontier_few : length (frontier (demo_task n) i q) ≤ 484
  unfolding values
  frontier_few =
      let ls = frontier (demo_task n) i q in
      let vs = map (λ (l : Label). l.v) ls in
      let here : length vs ≡ length ls = length-map ls (λ (l : Label). l.v) in
      let all : length (values n) ≡ 4 * 121 = count_pairs (value_of n) 121 0 4 in
      let few : length vs ≤ length (values n) =
      length-le_from_is_member int_eq_equiv vs (values n) values_apart
      (λ v there.
      let from = from_map (λ (l : Label). l.v) ls v ((is_member-Decides Decides-int_eq vs v).0 there) in
      (is_member-Decides Decides-int_eq (values n) v).1 (subst (Contains (values n)) from.2 (value_in from.0 from.1)))
      in
      omega (arith, here, all, few)

-- ---- all frontiers

-- the labels of the first segments
labels_few : (n k : ℕ) → k ≤ 40 → labels_before (demo_task n) (frontier (demo_task n)) k ≤ k * 1936
unfolding labels_before
labels_few n zero most = omega arith
labels_few n (suc k) most =
    let before = labels_few n k (omega (arith, most)) in
    let here : length (labels_of (demo_task n) (frontier (demo_task n)) k) ≤ 4 * 484 = count_labels (frontier (demo_task n) k) 484 0 4 (λ q low. frontier_few n k q (omega (arith, most)) (omega (arith, low))) in
    omega (arith, before, here)

-- all of them are at most 77440
pub demo_is_small : DemoIsSmall
demo_is_small n most =
    subst (λ k. labels_before (demo_task n) (frontier (demo_task n)) k ≤ 77440) (sym (demo_segments n))
    (let few = labels_few n 40 (omega arith) in omega (arith, few))

-- so the budget isn't spent
pub budget_unspent : DemoFitsBudget
budget_unspent n segment most spent =
    let inside = spent.inside in
    let count = demo_segments n in
    let few = labels_few n (suc segment) (omega (arith, inside, count)) in
    let above = spent.above in
    omega (arith, inside, count, few, above)
