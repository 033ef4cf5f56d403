-- The certificate that is read off chains that cover all rung lists is valid.
use Rattle.std.proofs.Common.{◌≡◌, ◌∙◌, ℕ, suc, ◌+◌, ◌-◌, ◌*◌, ◌<◌, ◌≤◌, ⊎_elim, List, [], ◌∷◌, length, get_or, map, take, true, refl, sym, ap, subst, arith, add-one, length-append, lt-ltb}
use Rattle.std.specs.Prelude.{nat_lt, slice_index}
use Rattle.std.specs.List.{Contains, flat_map}
use Rattle.std.proofs.lemmas.Bool.{cases_lt, cond-true, false≢true}
use Rattle.std.proofs.lemmas.List.{length-take-le}
use Rattle.std.proofs.lemmas.List.Concat.{get_or-flat_map}
use Rattle.std.proofs.lemmas.List.Elements.{Contains-get_or}
use Rattle.std.proofs.lemmas.List.FromFn.{get_or-map-range_with_len, get_or-range_with_len, length-map-range_with_len, length-range_with_len}
use Rattle.std.proofs.lemmas.List.Sums.{fails_before_first, passes_at_first}
use Rattle.lab_model.specs.declared.label.Label.{Label}
use Rattle.lab_model.specs.Film.{rungs_of, segments_of}
use Rattle.lab_model.specs.Ladder.{rungs_below}
use Rattle.labels.specs.Labels.{Dominates, dominates, next_label, start_label}
use Rattle.player_core.specs.Scene.{IsTask, Task}
use Rattle.labels.specs.Parts.{CertificateParts, ChainParts}
use Rattle.labels.specs.Grid.{IsGrid, Rounding}
use Rattle.labels.specs.Grown.{grown}
use Rattle.labels.specs.Read.{Chains, bound_of, certificate_from, chain_with_names, names_of_label, no_label, place_above}
use Rattle.labels.specs.Covers.{Covers, HasAbove}
use Rattle.labels.specs.Valid.{IsPlace, IsValid, chain_in, count_in, label_in, name_in, no_chain, start_in}
use Rattle.labels.proofs.Covered.{rung_at}
use Rattle.labels.proofs.Grown.{grown_covers}
use Rattle.labels.proofs.Kept.{dominates_from, dominates_true}
use Rattle.labels.proofs.Reached.{grown_reach, reach_follows}
use Rattle.labels.proofs.ReadBack.{ends_below, list_fits}

-- ---- rows of one length

module _ {X A : Type 0} (f : X → List A) (n : ℕ) (rows : (x : X) → length (f x) ≡ n) where
  rows_length : (xs : List X) → length (flat_map f xs) ≡ length xs * n
  rows_length [] = omega arith
  rows_length (x ∷ xs) =
      let row = rows x in
      let rest = rows_length xs in
      let whole = length-append (f x) (flat_map f xs) in
      omega (arith, row, rest, whole)

  -- the element of a row
  pub row_at : (xs : List X) (i j : ℕ) (e : X) (d : A) → i < length xs → j < n → get_or (flat_map f xs) (i * n + j) d ≡ get_or (f (get_or xs i e)) j d
  row_at xs i j e d low inside =
      let row = rows (get_or xs i e) in
      let before = rows_length (take i xs) in
      let few = length-take-le i xs (omega (arith, low)) in
      let place : length (flat_map f (take i xs)) ≡ i * n = before ∙ ap (λ k. k * n) few in
      ap (λ k. get_or (flat_map f xs) (k + j) d) (sym place) ∙ get_or-flat_map f xs i j e d low (omega (arith, row, inside))

-- the place that stands for a rung is the rung
below_at : (n i d : ℕ) → i < n → get_or (rungs_below n) i d ≡ i
below_at n i d low = let e = get_or-range_with_len 0 n i d low in omega (arith, e)

map_below_at : {A : Type 0} → (f : ℕ → A) (n i : ℕ) (d : A) → i < n → get_or (map f (rungs_below n)) i d ≡ f i
map_below_at f n i d low = get_or-map-range_with_len f 0 n i i d low (omega arith)

map_below_length : {A : Type 0} → (f : ℕ → A) (n : ℕ) → length (map f (rungs_below n)) ≡ n
map_below_length f n = length-map-range_with_len f 0 n

-- ---- the first label that dominates

-- where one dominates, the first that does stands in the chain
pub place_found : (chain : List Label) (l : Label) → HasAbove chain l → (place_above chain l < length chain) × Dominates (get_or chain (place_above chain l) no_label) l
place_found chain l h =
    let test = λ (m : Label). dominates m l in
    let place = place_above chain l in
    let there = h.1 in
    let at = there.0 in
    let inside = there.1 in
    let passes : dominates (get_or chain at h.0) l ≡ true = ap test there.2 ∙ dominates_from h.0 l h.2 in
    let low : place < length chain =
    ⊎_elim (λ (e : place < length chain). e) (λ (e : length chain ≤ place). absurd (false≢true (sym (fails_before_first test chain at h.0 (omega (arith, inside, e))) ∙ passes))) (cases_lt place (length chain)) in
    (low, dominates_true (get_or chain place no_label) l (passes_at_first test chain no_label low))

-- ---- the parts of the certificate

module _ (d : Rounding) (g : Task) (chains : Chains) where
  abbrev c : CertificateParts
  c = certificate_from d g chains

  -- the chain of a segment and a rung is the one given, with its names
  pub chain_at : (i q : ℕ) → i < segments_of g.film → q < rungs_of g.film → chain_in (certificate_from d g chains) i q ≡ chain_with_names g chains i q
  chain_at i q low rung =
      let f = λ (k : ℕ). map (λ r. chain_with_names g chains k r) (rungs_below (rungs_of g.film)) in
      row_at f (rungs_of g.film) (λ k. map_below_length (λ r. chain_with_names g chains k r) (rungs_of g.film)) (rungs_below (segments_of g.film)) i q 0 no_chain
      (let n = length-range_with_len 0 (segments_of g.film) in omega (arith, n, low)) rung
      ∙ ap (λ k. get_or (f k) q no_chain) (below_at (segments_of g.film) i 0 low) ∙ map_below_at (λ r. chain_with_names g chains i r) (rungs_of g.film) q no_chain rung

  -- it has as many labels as the one given
  pub count_at : (i q : ℕ) → i < segments_of g.film → q < rungs_of g.film → count_in (certificate_from d g chains) i q ≡ length (chains i q)
  count_at i q low rung = ap (λ (x : ChainParts). length x.labels) (chain_at i q low rung)

  -- its labels are those of the one given
  pub label_is : (i q k : ℕ) → i < segments_of g.film → q < rungs_of g.film → label_in (certificate_from d g chains) i q k ≡ get_or (chains i q) k no_label
  label_is i q k low rung = ap (λ (x : ChainParts). get_or x.labels k no_label) (chain_at i q low rung)

  -- the start of a rung is the first place in its first chain whose label dominates the rung's start label
  pub start_is : (q : ℕ) → q < rungs_of g.film → start_in (certificate_from d g chains) q ≡ place_above (chains 0 q) (start_label g q)
  start_is q rung = map_below_at (λ r. place_above (chains 0 r) (start_label g r)) (rungs_of g.film) q 0 rung

  -- the name of a label, for a next rung, is the first place there whose label dominates the successor
  pub name_is : (i q k r : ℕ) → suc i < segments_of g.film → q < rungs_of g.film → k < length (chains i q) → r < rungs_of g.film
      → name_in (certificate_from d g chains) i q k r ≡ place_above (chains (suc i) r) (next_label g (suc i) q (get_or (chains i q) k no_label) r)
  name_is i q k r low rung inside next =
      let names = flat_map (names_of_label g chains i q) (chains i q) in
      let more = nat_lt (suc i) (segments_of g.film) in
      ap (λ (x : ChainParts). slice_index x.names (k * rungs_of g.film + r)) (chain_at i q (omega (arith, low)) rung)
      ∙ ap (λ ns. slice_index ns (k * rungs_of g.film + r)) (cond-true more names [] (lt-ltb (suc i) (segments_of g.film) low))
      ∙ row_at (names_of_label g chains i q) (rungs_of g.film) (λ l. map_below_length (λ p. place_above (chains (suc i) p) (next_label g (suc i) q l p)) (rungs_of g.film)) (chains i q) k r no_label 0 inside next
      ∙ map_below_at (λ p. place_above (chains (suc i) p) (next_label g (suc i) q (get_or (chains i q) k no_label) p)) (rungs_of g.film) r 0 next

-- ---- validity

module _ (d : Rounding) (grid : IsGrid d) (g : Task) (is : IsTask g) where
  abbrev made : CertificateParts
  made = certificate_from d g (grown d g)

  covers : Covers g (grown d g)
  covers = grown_covers d g grid

  first_inside : 0 < segments_of g.film
  first_inside = let some = is.film.segments.0 in omega (arith, some)

  above_start : (q : ℕ) → q < rungs_of g.film → (start_in made q < count_in made 0 q) × Dominates (label_in made 0 q (start_in made q)) (start_label g q)
  above_start q rung =
      let chain = grown d g 0 q in
      let found = place_found chain (start_label g q) (covers.starts q rung) in
      let start = start_is d g (grown d g) q rung in
      let count = count_at d g (grown d g) 0 q first_inside rung in
      let low = found.0 in
      let same : get_or chain (place_above chain (start_label g q)) no_label ≡ label_in made 0 q (start_in made q) =
      ap (λ k. get_or chain k no_label) (sym start) ∙ sym (label_is d g (grown d g) 0 q (start_in made q) first_inside rung) in
      (omega (arith, low, start, count), subst (λ l. Dominates l (start_label g q)) same found.1)

  place_inside : (i q k : ℕ) → IsPlace made i q k → k < length (grown d g i q)
  place_inside i q k h = let low = h.label in let count = count_at d g (grown d g) i q h.segment h.rung in omega (arith, low, count)

  label_there : (i q k : ℕ) → IsPlace made i q k → Contains (grown d g i q) (label_in made i q k)
  label_there i q k h =
      subst (Contains (grown d g i q)) (sym (label_is d g (grown d g) i q k h.segment h.rung)) (Contains-get_or (grown d g i q) k no_label (place_inside i q k h))

  above_next : (i q k r : ℕ) → IsPlace made i q k → suc i < segments_of g.film → r < rungs_of g.film
      → (name_in made i q k r < count_in made (suc i) r) × Dominates (label_in made (suc i) r (name_in made i q k r)) (next_label g (suc i) q (label_in made i q k) r)
  above_next i q k r h low rung =
      let chain = grown d g (suc i) r in
      let label = label_is d g (grown d g) i q k h.segment h.rung in
      let next = next_label g (suc i) q (get_or (grown d g i q) k no_label) r in
      let above = covers.goes_on i q r (omega (arith, low)) h.rung rung (get_or (grown d g i q) k no_label) (Contains-get_or (grown d g i q) k no_label (place_inside i q k h)) in
      let found = place_found chain next (subst (λ n. HasAbove (grown d g n r) (next_label g n q (get_or (grown d g i q) k no_label) r)) (add-one i) above) in
      let name = name_is d g (grown d g) i q k r low h.rung (place_inside i q k h) rung in
      let count = count_at d g (grown d g) (suc i) r low rung in
      let inside = found.0 in
      let same : get_or chain (place_above chain next) no_label ≡ label_in made (suc i) r (name_in made i q k r) =
      ap (λ n. get_or chain n no_label) (sym name) ∙ sym (label_is d g (grown d g) (suc i) r (name_in made i q k r) low rung) in (
        omega (arith, inside, name, count),
        subst (λ l. Dominates (label_in made (suc i) r (name_in made i q k r)) (next_label g (suc i) q l r)) (sym label) (subst (λ l. Dominates l next) same found.1),
      )

  -- it is valid with the greatest end value as the bound
  pub accepted : IsValid g made (bound_of g (grown d g))
  accepted = record {
    v1 = record { segments = refl; rungs = refl; table = refl };
    v2 = record {
      plan = λ i low. rung_at g (segments_of g.film) made.plan (list_fits d g grid is) i low;
      starts = λ q rung. (above_start q rung).0;
      times = λ i q k h.
          let few = is.film.segments.1 in
          let low = h.segment in
          let follows = reach_follows i (label_in made i q k) (omega (arith, few, low)) (grown_reach d grid g is i q h.segment h.rung (label_in made i q k) (label_there i q k h)) in
          (follows.time, follows.delay);
      names = λ i q k r h low rung. subst (λ n. name_in made i q k r < count_in made n r) (sym (add-one i)) (above_next i q k r h (omega (arith, low)) rung).0;
    };
    v3 = record { holds = λ q rung. (above_start q rung).1 };
    v4 = record {
      holds = λ i q k r h low rung.
          subst (λ n. Dominates (label_in made n r (name_in made i q k r)) (next_label g n q (label_in made i q k) r)) (sym (add-one i)) (above_next i q k r h (omega (arith, low)) rung).1;
    };
    v5 = record { holds = λ q k h. ends_below d g grid is q (label_in made (segments_of g.film - 1) q k) h.rung (label_there (segments_of g.film - 1) q k h) };
    v6 = record { holds = refl };
  }
