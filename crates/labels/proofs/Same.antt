-- What is read off chains depends on the chains of the film's segments and rungs alone.
use Rattle.std.proofs.Common.{◌≡◌, ◌∙◌, ℕ, zero, suc, ◌+◌, ◌-◌, ◌<◌, ◌≤◌, ⊎_elim, List, [], ◌∷◌, ◌++◌, length, map, true, false, refl, sym, ap, ap₂, arith}
use Rattle.std.specs.Prelude.{nat_lt, unwrap_or}
use Rattle.std.specs.List.{find, flat_map}
use Rattle.std.proofs.lemmas.Bool.{cases_Bool, cond-false, cond-true, ltb-true}
use Rattle.lab_model.specs.declared.label.Label.{Label}
use Rattle.lab_model.specs.Film.{rungs_of, segments_of}
use Rattle.lab_model.specs.Ladder.{rungs_below}
use Rattle.labels.specs.Grid.{Rounding}
use Rattle.player_core.specs.Scene.{IsTask, Task}
use Rattle.labels.specs.Labels.{end_value, next_label, start_label}
use Rattle.labels.specs.Parts.{CertificateParts, ChainParts}
use Rattle.labels.specs.Read.{Chains, best_in, bound_of, certificate_from, chain_list, chain_with_names, end_of_plan, has_table, labels_before, labels_of, leads_to, list_of_plan, list_value, names_of, names_of_label, no_label, parent_of, place_above, rungs_back, starts_of}
use Rattle.labels.proofs.ReadBack.{back_first, back_next}
use Rattle.labels.proofs.Walks.{by_rung_same, flat_map_same, from_rungs, map_same}

-- the chains agree on the film
pub record Agree (g : Task) (a b : Chains) : Type 0 where
  pub same : (i q : ℕ) → i < segments_of g.film → q < rungs_of g.film → a i q ≡ b i q

module _ (d : Rounding) (g : Task) (a b : Chains) (h : Agree g a b) where
  -- a segment has the same labels
  pub labels_same : (i : ℕ) → i < segments_of g.film → labels_of g a i ≡ labels_of g b i
  labels_same i low = by_rung_same (rungs_of g.film) (a i) (b i) (λ q below. h.same i q low below)

  parent_same : (i : ℕ) (c : ℕ × Label) → i < segments_of g.film → parent_of d g a i c ≡ parent_of d g b i c
  parent_same i c low = ap (λ ls. unwrap_or (find (λ x. leads_to d g (suc i) x c) ls) (0, no_label)) (labels_same i low)

  back_same : (i : ℕ) (c : ℕ × Label) → i < segments_of g.film → rungs_back d g a i c ≡ rungs_back d g b i c
  back_same zero c low = back_first d g a c ∙ sym (back_first d g b c)
  back_same (suc i) c low =
      let here : i < segments_of g.film = omega (arith, low) in
      back_next d g a i c ∙ ap (λ x. rungs_back d g a i x ++ c.0 ∷ []) (parent_same i c here) ∙ ap (λ xs. xs ++ c.0 ∷ []) (back_same i (parent_of d g b i c) here) ∙ sym (back_next d g b i c)

  -- as many labels stand before a segment
  pub before_same : (n : ℕ) → n ≤ segments_of g.film → labels_before g a n ≡ labels_before g b n
  unfolding labels_before
  before_same zero low = refl
  before_same (suc i) low = ap₂ (λ (x y : ℕ). x + y) (before_same i (omega (arith, low))) (ap length (labels_same i (omega (arith, low))))

  names_label_same : (i q : ℕ) (l : Label) → suc i < segments_of g.film → names_of_label g a i q l ≡ names_of_label g b i q l
  names_label_same i q l low =
      map_same (λ r. place_above (a (suc i) r) (next_label g (suc i) q l r)) (λ r. place_above (b (suc i) r) (next_label g (suc i) q l r)) (rungs_below (rungs_of g.film))
      (λ r there. ap (λ ls. place_above ls (next_label g (suc i) q l r)) (h.same (suc i) r low (from_rungs (rungs_of g.film) r there)))

  names_same : (i q : ℕ) → i < segments_of g.film → q < rungs_of g.film → names_of g a i q ≡ names_of g b i q
  names_same i q low rung =
      let more = nat_lt (suc i) (segments_of g.film) in
      ⊎_elim
      (λ (yes : more ≡ true).
      cond-true more (flat_map (names_of_label g a i q) (a i q)) [] yes ∙ ap (flat_map (names_of_label g a i q)) (h.same i q low rung)
      ∙ flat_map_same (names_of_label g a i q) (names_of_label g b i q) (b i q) (λ l there. names_label_same i q l (ltb-true (suc i) (segments_of g.film) yes))
      ∙ sym (cond-true more (flat_map (names_of_label g b i q) (b i q)) [] yes))
      (λ (no : more ≡ false). cond-false more (flat_map (names_of_label g a i q) (a i q)) [] no ∙ sym (cond-false more (flat_map (names_of_label g b i q) (b i q)) [] no))
      (cases_Bool more)

  chain_same : (i q : ℕ) → i < segments_of g.film → q < rungs_of g.film → chain_with_names g a i q ≡ chain_with_names g b i q
  chain_same i q low rung = ap₂ (λ (ls : List Label) (ns : List ℕ). record { labels = ls; names = ns }) (h.same i q low rung) (names_same i q low rung)

  -- the chains with their names are equal
  pub chain_list_same : chain_list g a ≡ chain_list g b
  chain_list_same =
      flat_map_same (λ i. map (λ q. chain_with_names g a i q) (rungs_below (rungs_of g.film))) (λ i. map (λ q. chain_with_names g b i q) (rungs_below (rungs_of g.film))) (rungs_below (segments_of g.film))
      (λ i there. map_same (λ q. chain_with_names g a i q) (λ q. chain_with_names g b i q) (rungs_below (rungs_of g.film))
      (λ q below. chain_same i q (from_rungs (segments_of g.film) i there) (from_rungs (rungs_of g.film) q below)))

  module _ (is : IsTask g) where
    last_inside : segments_of g.film - 1 < segments_of g.film
    last_inside = let some = is.film.segments.0 in omega (arith, some)

    -- the plan ends in the same label
    pub end_same : end_of_plan g a ≡ end_of_plan g b
    end_same = ap (best_in g) (labels_same (segments_of g.film - 1) last_inside)

    -- the bound is the same
    pub bound_same : bound_of g a ≡ bound_of g b
    bound_same = ap (λ (c : ℕ × Label). end_value g c.1) end_same

    -- the plan has the same rung list
    pub list_same : list_of_plan d g a ≡ list_of_plan d g b
    unfolding list_of_plan
    list_same = ap (rungs_back d g a (segments_of g.film - 1)) end_same ∙ back_same (segments_of g.film - 1) (end_of_plan g b) last_inside

    -- the starts are equal
    pub starts_same : starts_of g a ≡ starts_of g b
    starts_same =
        map_same (λ q. place_above (a 0 q) (start_label g q)) (λ q. place_above (b 0 q) (start_label g q)) (rungs_below (rungs_of g.film))
        (λ q there. ap (λ ls. place_above ls (start_label g q)) (h.same 0 q (let some = is.film.segments.0 in omega (arith, some)) (from_rungs (rungs_of g.film) q there)))

    -- chains that agree are read alike
    pub certificate_same : certificate_from d g a ≡ certificate_from d g b
    certificate_same =
        let made : List ℕ → List ℕ → List ChainParts → CertificateParts = λ rungs starts chains. record {
          table = has_table g.setup;
          segments = segments_of g.film;
          rungs = rungs_of g.film;
          score = list_value g rungs;
          plan = rungs;
          starts = starts;
          chains = chains;
        } in
        ap (λ rungs. made rungs (starts_of g a) (chain_list g a)) list_same ∙ ap₂ (made (list_of_plan d g b)) starts_same chain_list_same
