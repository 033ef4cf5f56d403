-- What is read off coarse frontiers: the end of the plan is the greatest, and each label has a parent, back to segment 0.
use Rattle.std.proofs.Common.{◌≡◌, ◌∙◌, ℕ, zero, suc, ◌-◌, ◌<◌, ⊎_elim, List, [], ◌∷◌, ◌++◌, true, false, refl, sym, ap, subst, arith, length-append}
use Rattle.std.specs.Prelude.{ℤ, ◌≤ℤ◌, int_lt, slice_index, unwrap_or}
use Rattle.std.specs.List.{Contains, best_of}
use Rattle.std.proofs.Math.Seq.{get_or-append_seam}
use Rattle.std.proofs.lemmas.Bool.{cond_both}
use Rattle.std.proofs.lemmas.Cmp.{eq_by_cmp_equiv}
use Rattle.std.proofs.lemmas.Int.{ints}
use Rattle.std.proofs.lemmas.List.Elements.{All-cons, All-nil, All-push}
use Rattle.lab_model.proofs.Orders.{≤ℤ_trans}
use Rattle.lab_model.specs.declared.label.Label.{Label}
use Rattle.lab_model.specs.Film.{rungs_of, segments_of}
use Rattle.labels.specs.Labels.{AreRungs, end_value, label_at, next_label, start_label}
use Rattle.player_core.specs.Scene.{IsTask, Task}
use Rattle.labels.specs.Frontier.{is_same}
use Rattle.labels.specs.Grid.{IsGrid, Rounding, exact, rounded}
use Rattle.labels.specs.Grown.{grown}
use Rattle.labels.specs.Read.{Chains, best_in, bound_of, end_of_plan, ends_higher, labels_of, leads_to, list_of_plan, list_value, no_label, parent_of, rungs_back}
use Rattle.labels.specs.Covers.{Covers}
use Rattle.labels.proofs.Covered.{covered_value}
use Rattle.labels.proofs.Grown.{from_first, from_next, grown_covers}
use Rattle.labels.proofs.Kept.{same_any}
use Rattle.labels.proofs.Order.{label_total}
use Rattle.labels.proofs.Path.{label_first, label_push}
use Rattle.labels.proofs.Rounds.{exact_fits, round_exact}
use Rattle.labels.proofs.Walks.{at_head, at_tail, find_found, first_or_rest, from_by_rung, in_by_rung, none_at}

-- ---- the greatest end value

z_same : (a b : ℤ) → a ≡ b → a ≤ℤ b
z_same a b h = omega (arith, ints)

higher_true : (a b : ℤ) → int_lt a b ≡ true → a ≤ℤ b
higher_true a b h = grind (arith, ints)

higher_false : (a b : ℤ) → int_lt a b ≡ false → b ≤ℤ a
higher_false a b h = grind (arith, ints)

-- an element of the list, with the greatest end value
abbrev pub IsBest : Task → List (ℕ × Label) → ℕ × Label → Type 0
IsBest g cs r = Contains cs r × ((x : ℕ × Label) → Contains cs x → end_value g x.1 ≤ℤ end_value g r.1)

best_more : (g : Task) (b c next r : ℕ × Label) (cs : List (ℕ × Label)) → Contains (b ∷ c ∷ cs) next → end_value g b.1 ≤ℤ end_value g next.1 → end_value g c.1 ≤ℤ end_value g next.1
    → IsBest g (next ∷ cs) r → IsBest g (b ∷ c ∷ cs) r
best_more g b c next r cs there low least h =
    let up = h.1 next (at_head next cs) in (
      ⊎_elim (λ (e : next ≡ r). subst (Contains (b ∷ c ∷ cs)) e there) (λ rest. at_tail b (c ∷ cs) r (at_tail c cs r rest)) (first_or_rest next cs r h.0),
      λ x k. ⊎_elim (λ (e : b ≡ x). subst (λ (y : ℕ × Label). end_value g y.1 ≤ℤ end_value g r.1) e (≤ℤ_trans _ _ _ low up))
          (λ after. ⊎_elim (λ (e : c ≡ x). subst (λ (y : ℕ × Label). end_value g y.1 ≤ℤ end_value g r.1) e (≤ℤ_trans _ _ _ least up)) (λ rest. h.1 x (at_tail next cs x rest)) (first_or_rest c cs x after))
          (first_or_rest b (c ∷ cs) x k),
    )

best_from : (g : Task) (cs : List (ℕ × Label)) (b : ℕ × Label) → IsBest g (b ∷ cs) (best_of (ends_higher g) b cs)
best_from g [] b = (at_head b [], λ x h. ⊎_elim (λ (e : b ≡ x). z_same _ _ (ap (λ (y : ℕ × Label). end_value g y.1) (sym e))) (λ none. absurd (none_at x none)) (first_or_rest b [] x h))
best_from g (c ∷ cs) b =
    cond_both (ends_higher g c b) c b (λ n. IsBest g (n ∷ cs) (best_of (ends_higher g) n cs) → IsBest g (b ∷ c ∷ cs) (best_of (ends_higher g) n cs))
    (λ yes rest. best_more g b c c _ cs (at_tail b (c ∷ cs) c (at_head c cs)) (higher_true _ _ yes) (z_same _ _ refl) rest)
    (λ no rest. best_more g b c b _ cs (at_head b (c ∷ cs)) (z_same _ _ refl) (higher_false _ _ no) rest) (best_from g cs _)

-- where there is a label, the best of them is one, and no other ends higher
pub best_found : (g : Task) (cs : List (ℕ × Label)) (c : ℕ × Label) → Contains cs c → IsBest g cs (best_in g cs)
best_found g [] c h = absurd (none_at c h)
best_found g (x ∷ xs) c h = best_from g xs x

-- ---- chains that cover all rung lists are not empty

-- chains that cover all rung lists have a label for each segment and rung
pub some_label : (g : Task) (chains : Chains) → IsTask g → Covers g chains → (i : ℕ) → i < segments_of g.film → (q : ℕ) → q < rungs_of g.film → (l : Label) × Contains (chains i q) l
some_label g chains is c zero low q rung = let top = c.starts q rung in (top.0, top.1)
some_label g chains is c (suc i) low q rung =
    let before = some_label g chains is c i (omega arith) q rung in
    let top = c.goes_on i q q (omega arith) rung rung before.0 before.1 in
    (top.0, subst (λ k. Contains (chains k q) top.0) (omega arith) top.1)

-- ---- the list that is read backwards

module _ (d : Rounding) (g : Task) where
  -- each label has a parent
  pub parent_found : (i : ℕ) (c : ℕ × Label) → Contains (labels_of g (grown d g) (suc i)) c
      → Contains (labels_of g (grown d g) i) (parent_of d g (grown d g) i c) × (rounded d (next_label g (suc i) (parent_of d g (grown d g) i c).0 (parent_of d g (grown d g) i c).1 c.0) ≡ c.1)
  parent_found i c h =
      let from = from_next d g i c.0 c.1 (from_by_rung (rungs_of g.film) (grown d g (suc i)) c h).1 in
      let passes : leads_to d g (suc i) from.0 c ≡ true = subst (λ l. is_same (rounded d (next_label g (suc i) from.0.0 from.0.1 c.0)) l ≡ true) from.2 ((eq_by_cmp_equiv label_total).refl (rounded d (next_label g (suc i) from.0.0 from.0.1 c.0))) in
      let found = find_found (λ b. leads_to d g (suc i) b c) (labels_of g (grown d g) i) from.0 from.1 passes in
      let is : found.0 ≡ parent_of d g (grown d g) i c = sym (ap (λ o. unwrap_or o (0, no_label)) found.1) in
      subst (λ (b : ℕ × Label). Contains (labels_of g (grown d g) i) b × (rounded d (next_label g (suc i) b.0 b.1 c.0) ≡ c.1)) is (found.2, same_any _ _ found.3)

  -- from a label of segment 0 its own rung alone is read
  pub back_first : (chains : Chains) (c : ℕ × Label) → rungs_back d g chains 0 c ≡ c.0 ∷ []
  unfolding rungs_back
  back_first chains c = refl

  -- from a label of a later segment the rungs up to its parent are read, and then its own
  pub back_next : (chains : Chains) (i : ℕ) (c : ℕ × Label) → rungs_back d g chains (suc i) c ≡ rungs_back d g chains i (parent_of d g chains i c) ++ c.0 ∷ []
  unfolding rungs_back
  back_next chains i c = refl

  -- the rungs that are read back are the ladder's, one for each segment, and end on the label's
  pub back_fits : (i : ℕ) (c : ℕ × Label) → Contains (labels_of g (grown d g) i) c → AreRungs g (suc i) (rungs_back d g (grown d g) i c) × (slice_index (rungs_back d g (grown d g) i c) i ≡ c.0)
  back_fits zero c h =
      let rung = (from_by_rung (rungs_of g.film) (grown d g 0) c h).0 in
      subst (λ rungs. AreRungs g 1 rungs × (slice_index rungs 0 ≡ c.0)) (sym (back_first (grown d g) c))
      ((refl, All-cons (λ q. q < rungs_of g.film) c.0 [] rung (All-nil (λ q. q < rungs_of g.film))), refl)
  back_fits (suc i) c h =
      let rung = (from_by_rung (rungs_of g.film) (grown d g (suc i)) c h).0 in
      let b = parent_of d g (grown d g) i c in
      let before = back_fits i b (parent_found i c h).0 in
      let rungs = rungs_back d g (grown d g) i b in
      let long = before.0.0 in
      let more = length-append rungs (c.0 ∷ []) in
      subst (λ rs. AreRungs g (suc (suc i)) rs × (slice_index rs (suc i) ≡ c.0)) (sym (back_next (grown d g) i c))
      ((omega (arith, long, more), All-push (λ q. q < rungs_of g.film) rungs c.0 before.0.1 rung), ap (λ n. slice_index (rungs ++ c.0 ∷ []) n) (sym long) ∙ get_or-append_seam rungs c.0 [] 0)

-- on the grid 1, 1 the labels along those rungs lead to the label
pub back_leads : (g : Task) (i : ℕ) (c : ℕ × Label) → Contains (labels_of g (grown exact g) i) c → label_at g (rungs_back exact g (grown exact g) i c) i ≡ c.1
back_leads g zero c h =
    ap (λ rungs. label_at g rungs 0) (back_first exact g (grown exact g) c) ∙ label_first g (c.0 ∷ []) ∙ sym (round_exact (start_label g c.0))
    ∙ from_first exact g c.0 c.1 (from_by_rung (rungs_of g.film) (grown exact g 0) c h).1
back_leads g (suc i) c h =
    let b = parent_of exact g (grown exact g) i c in
    let parent = parent_found exact g i c h in
    let rungs = rungs_back exact g (grown exact g) i b in
    let fits = back_fits exact g i b parent.0 in
    ap (λ rs. label_at g rs (suc i)) (back_next exact g (grown exact g) i c) ∙ label_push g rungs c.0 i fits.0.0
    ∙ ap (λ q. next_label g (suc i) q (label_at g rungs i) c.0) fits.1 ∙ ap (λ l. next_label g (suc i) b.0 l c.0) (back_leads g i b parent.0)
    ∙ sym (round_exact (next_label g (suc i) b.0 b.1 c.0)) ∙ parent.1

-- ---- the plan

module _ (d : Rounding) (g : Task) (grid : IsGrid d) (is : IsTask g) where
  last_is : suc (segments_of g.film - 1) ≡ segments_of g.film
  last_is = let some = is.film.segments.0 in omega (arith, some)

  -- the plan ends in a label of the last segment, and no other ends higher
  pub end_found : IsBest g (labels_of g (grown d g) (segments_of g.film - 1)) (end_of_plan g (grown d g))
  end_found =
      let n = segments_of g.film - 1 in
      let rungs = is.film.rungs.0 in
      let some = some_label g (grown d g) is (grown_covers d g grid) n (let e = last_is in omega (arith, e)) 0 (omega (arith, rungs)) in
      best_found g (labels_of g (grown d g) n) (0, some.0) (in_by_rung (rungs_of g.film) (grown d g n) 0 some.0 (omega (arith, rungs)) some.1)

  -- no label of the last segment ends above the bound
  pub ends_below : (q : ℕ) (l : Label) → q < rungs_of g.film → Contains (grown d g (segments_of g.film - 1) q) l → end_value g l ≤ℤ bound_of g (grown d g)
  ends_below q l low h = end_found.1 (q, l) (in_by_rung (rungs_of g.film) (grown d g (segments_of g.film - 1)) q l low h)

  -- no rung list's labels come to more than the bound
  pub lists_below : (rungs : List ℕ) → AreRungs g (segments_of g.film) rungs → list_value g rungs ≤ℤ bound_of g (grown d g)
  lists_below rungs h = covered_value g (grown d g) is (grown_covers d g grid) (bound_of g (grown d g)) ends_below rungs h

  -- the plan's list is a rung list
  pub list_fits : AreRungs g (segments_of g.film) (list_of_plan d g (grown d g))
  unfolding list_of_plan
  list_fits =
      let n = segments_of g.film - 1 in
      subst (λ m. AreRungs g m (rungs_back d g (grown d g) n (end_of_plan g (grown d g)))) last_is (back_fits d g n (end_of_plan g (grown d g)) end_found.0).0

-- on the grid 1, 1 the labels of the plan's list come to the bound
pub list_scores : (g : Task) → IsTask g → list_value g (list_of_plan exact g (grown exact g)) ≡ bound_of g (grown exact g)
unfolding list_of_plan
list_scores g is = ap (end_value g) (back_leads g (segments_of g.film - 1) (end_of_plan g (grown exact g)) (end_found exact g exact_fits is).0)
