-- The certificate that is read off coarse frontiers has the form of certificates.
use Rattle.std.proofs.Common.{◌≡◌, ◌∙◌, ℕ, zero, suc, ◌+◌, ◌-◌, ◌*◌, ◌/◌, ◌%◌, ◌<◌, ◌≤◌, ◌==◌, ⊎_elim, List, [], ◌∷◌, ◌++◌, length, get_or, map, refl, sym, ap, subst, length-append, lt-ltb, arith, add-one}
use Rattle.std.specs.Prelude.{ℤ, pos, ◌-ℤ◌, nat_lt}
use Rattle.std.specs.List.{All, Contains, flat_map}
use Rattle.std.proofs.Math.Nat.{div-lt_iff_lt-mul, mod-lt, mul-le-mul}
use Rattle.std.proofs.lemmas.Nat.{div-add-mod'}
use Rattle.std.proofs.lemmas.Bool.{cases_lt, cond-true, cond-false, cond_both, le-ltb, ltb-true}
use Rattle.std.proofs.lemmas.Int.{ints}
use Rattle.std.proofs.lemmas.List.Elements.{All-contains_itself, All-nil, All-weaker}
use Rattle.std.proofs.lemmas.List.FromFn.{length-map-range_with_len, length-range_with_len}
use Rattle.std.proofs.lemmas.List.Sums.{prefix_len-le-length}
use Rattle.lab_model.specs.Number.{IsNear}
use Rattle.lab_model.specs.declared.label.Label.{Label}
use Rattle.lab_model.specs.Film.{rungs_of, segments_of}
use Rattle.lab_model.specs.Ladder.{rungs_below}
use Rattle.player_core.specs.Scene.{IsTask, Task}
use Rattle.labels.specs.Grid.{Rounding}
use Rattle.labels.specs.Frontier.{by_rung}
use Rattle.labels.specs.Form.{AreChains, HasDigits, HasSignedDigits, IsCertificate, IsChain, IsSpelled, label_count, names_per, place_digits, rung_digits, score_digits}
use Rattle.labels.specs.Grown.{CanPlan, grown}
use Rattle.labels.specs.Labels.{end_value, label_at, next_label, start_label}
use Rattle.labels.specs.Parts.{ChainParts}
use Rattle.labels.specs.Read.{Chains, bound_of, certificate_from, chain_list, chain_with_names, end_of_plan, labels_before, labels_in, list_of_plan, names_of, names_of_label, place_above, starts_of}
use Rattle.labels.specs.Valid.{no_chain}
use Rattle.labels.proofs.Accepts.{chain_at}
use Rattle.labels.proofs.Counted.{before_more, before_none, by_rung_count, chain_within, list_pushed, rung_pushed}
use Rattle.labels.proofs.Follows.{in_reach}
use Rattle.labels.proofs.Reached.{IsInReach, grown_reach, label_reach}
use Rattle.labels.proofs.ReadBack.{end_found, list_fits}
use Rattle.labels.proofs.Walks.{from_flat_map, from_map, from_rungs}

-- what holds of what a list contains holds of all of it
all_by : {X : Type 0} (P : X → Type 0) (xs : List X) → ((x : X) → Contains xs x → P x) → All P xs
all_by P xs h = All-weaker (Contains xs) P h xs (All-contains_itself xs)

-- ---- numbers

near_end : (most more : ℕ) (v : ℤ) (loss : ℕ) → IsNear most v → loss ≤ more → most + more ≤ 999999999999999999999999 → HasSignedDigits score_digits (v -ℤ pos loss)
near_end most more v loss near few fits = let low = near.low in let high = near.high in (omega (arith, ints, low, few, fits), omega (arith, ints, high, few, fits))

-- an end value has no more digits than a score
end_short : (g : Task) → IsTask g → (i : ℕ) (l : Label) → i < 2000 → IsInReach i l → HasSignedDigits score_digits (end_value g l)
end_short g is i l low h =
    let delay = h.delay in
    let few : l.p ≤ 1000000000000 = omega (arith, delay, low) in
    let loss : g.setup.weights.stall * l.p ≤ 1000000 * 1000000000000 = mul-le-mul is.weights.weights.stall_fits few in
    near_end _ (1000000 * 1000000000000) l.v (g.setup.weights.stall * l.p) h.value loss (omega (arith, low))

-- a label has no more digits than its line allows
label_short : (i : ℕ) (l : Label) → i < 2000 → IsInReach i l → IsSpelled l
label_short i l low h =
    let time = h.time in
    let delay = h.delay in
    let near = h.value in
    let least = near.low in
    let most = near.high in
    record { t = omega (arith, time, low); p = omega (arith, delay, low); v = (omega (arith, ints, least, low), omega (arith, ints, most, low)) }

place_within : (chain : List Label) (l : Label) → place_above chain l ≤ length chain
place_within chain l = prefix_len-le-length _ chain

-- ---- how many labels there are

count_append : (xs ys : List ChainParts) → label_count (xs ++ ys) ≡ label_count xs + label_count ys
count_append [] ys = omega arith
count_append (x ∷ xs) ys = let rest = count_append xs ys in omega (arith, rest)

row_count : (g : Task) (chains : Chains) (i r : ℕ) → label_count (map (λ q. chain_with_names g chains i q) (rungs_below r)) ≡ length (by_rung r (chains i))
row_count g chains i zero = refl
row_count g chains i (suc r) =
    let h = λ (q : ℕ). chain_with_names g chains i q in
    let more : map h (rungs_below r) ++ h r ∷ [] ≡ map h (rungs_below (r + 1)) = rung_pushed [] (map h (rungs_below r)) h r (h r) refl refl in
    let all = ap label_count (sym more) ∙ count_append (map h (rungs_below r)) (h r ∷ []) in
    let old = row_count g chains i r in
    let one = by_rung_count (chains i) r in
    subst (λ n. label_count (map h (rungs_below n)) ≡ length (by_rung n (chains i))) (add-one r) (omega (arith, all, old, one))

list_count : (g : Task) (chains : Chains) (n : ℕ) → label_count (flat_map (λ i. map (λ q. chain_with_names g chains i q) (rungs_below (rungs_of g.film))) (rungs_below n)) ≡ labels_before g chains n
list_count g chains zero = sym (before_none g chains)
list_count g chains (suc n) =
    let h = λ (i : ℕ). map (λ q. chain_with_names g chains i q) (rungs_below (rungs_of g.film)) in
    let all = ap label_count (list_pushed h n) ∙ count_append (flat_map h (rungs_below n)) (h n) in
    let old = list_count g chains n in
    let one = row_count g chains n (rungs_of g.film) in
    let more = before_more g chains n in
    subst (λ m. label_count (flat_map h (rungs_below m)) ≡ labels_before g chains m) (add-one n) (omega (arith, all, old, one, more))

-- ---- rows

rows_length : {X A : Type 0} (f : X → List A) (n : ℕ) → ((x : X) → length (f x) ≡ n) → (xs : List X) → length (flat_map f xs) ≡ length xs * n
rows_length f n rows [] = omega arith
rows_length f n rows (x ∷ xs) =
    let row = rows x in
    let rest = rows_length f n rows xs in
    let whole = length-append (f x) (flat_map f xs) in
    omega (arith, row, rest, whole)

-- chains that have their form at each place
chains_from : (segments rungs number : ℕ) (cs : List ChainParts) → ((j : ℕ) → j < length cs → IsChain (names_per segments rungs ((number + j) / rungs)) (get_or cs j no_chain)) → AreChains segments rungs number cs
chains_from segments rungs number [] h = tt
chains_from segments rungs number (c ∷ cs) h = (
  subst (λ n. IsChain (names_per segments rungs (n / rungs)) c) (omega arith) (h 0 (omega arith)),
  chains_from segments rungs (number + 1) cs (λ j low. subst (λ n. IsChain (names_per segments rungs (n / rungs)) (get_or cs j no_chain)) (omega arith) (h (suc j) (omega (arith, low)))),
)

-- there is a chain for each segment and rung
chains_count : (g : Task) (chains : Chains) → length (chain_list g chains) ≡ segments_of g.film * rungs_of g.film
chains_count g chains =
    let rows = rows_length (λ i. map (λ q. chain_with_names g chains i q) (rungs_below (rungs_of g.film))) (rungs_of g.film) (λ i. length-map-range_with_len (λ q. chain_with_names g chains i q) 0 (rungs_of g.film)) (rungs_below (segments_of g.film)) in
    rows ∙ ap (λ n. n * rungs_of g.film) (length-range_with_len 0 (segments_of g.film))

-- each label has its names
names_count : (g : Task) (chains : Chains) (i q : ℕ) → i < segments_of g.film → length (names_of g chains i q) ≡ length (chains i q) * names_per (segments_of g.film) (rungs_of g.film) i
names_count g chains i q low =
    let all = flat_map (names_of_label g chains i q) (chains i q) in
    let more = nat_lt (suc i) (segments_of g.film) in
    ⊎_elim (λ (inside : suc i < segments_of g.film).
    let per : names_per (segments_of g.film) (rungs_of g.film) i ≡ rungs_of g.film = cond-false (i + 1 == segments_of g.film) 0 (rungs_of g.film) (grind arith) in
    ap length (cond-true more all [] (lt-ltb (suc i) (segments_of g.film) inside))
    ∙ rows_length (names_of_label g chains i q) (rungs_of g.film) (λ l. length-map-range_with_len (λ r. place_above (chains (suc i) r) (next_label g (suc i) q l r)) 0 (rungs_of g.film)) (chains i q)
    ∙ ap (λ n. length (chains i q) * n) (sym per))
    (λ (past : segments_of g.film ≤ suc i).
    let per : names_per (segments_of g.film) (rungs_of g.film) i ≡ 0 = cond-true (i + 1 == segments_of g.film) 0 (rungs_of g.film) (grind arith) in
    ap length (cond-false more all [] (le-ltb (suc i) (segments_of g.film) past)) ∙ sym (ap (λ n. length (chains i q) * n) per ∙ omega arith)) (cases_lt (suc i) (segments_of g.film))

-- ---- the certificate

module _ (d : Rounding) (g : Task) (case : CanPlan d g) (few : labels_in g (grown d g) ≤ 1000000) where
  few_segments : (i : ℕ) → i < segments_of g.film → i < 2000
  few_segments i low = let most = case.task.film.segments.1 in omega (arith, low, most)

  place_small : (i q : ℕ) (l : Label) → i < segments_of g.film → q < rungs_of g.film → HasDigits place_digits (place_above (grown d g i q) l)
  place_small i q l low rung =
      let small = chain_within g (grown d g) i q low rung in
      let within = place_within (grown d g i q) l in
      omega (arith, small, within, few)

  names_small : (i q : ℕ) → i < segments_of g.film → q < rungs_of g.film → All (HasDigits place_digits) (names_of g (grown d g) i q)
  names_small i q low rung =
      cond_both (nat_lt (suc i) (segments_of g.film)) (flat_map (names_of_label g (grown d g) i q) (grown d g i q)) [] (All (HasDigits place_digits))
      (λ next. all_by (HasDigits place_digits) (flat_map (names_of_label g (grown d g) i q) (grown d g i q)) (λ k there.
      let row = from_flat_map (names_of_label g (grown d g) i q) (grown d g i q) k there in
      let one = from_map (λ r. place_above (grown d g (suc i) r) (next_label g (suc i) q row.0 r)) (rungs_below (rungs_of g.film)) k row.2 in
      subst (HasDigits place_digits) one.2 (place_small (suc i) one.0 (next_label g (suc i) q row.0 one.0) (ltb-true (suc i) (segments_of g.film) next) (from_rungs (rungs_of g.film) one.0 one.1))))
      (λ last. All-nil (HasDigits place_digits))

  -- a chain has its form
  chain_form : (i q : ℕ) → i < segments_of g.film → q < rungs_of g.film → IsChain (names_per (segments_of g.film) (rungs_of g.film) i) (chain_with_names g (grown d g) i q)
  chain_form i q low rung = record {
    labels = all_by IsSpelled (grown d g i q) (λ l there. label_short i l (few_segments i low) (grown_reach d case.grid g case.task i q low rung l there));
    whole = names_count g (grown d g) i q low;
    names = names_small i q low rung;
  }

  -- and so has the chain at each place
  form_at : (j : ℕ) → j < length (chain_list g (grown d g)) → IsChain (names_per (segments_of g.film) (rungs_of g.film) ((0 + j) / rungs_of g.film)) (get_or (chain_list g (grown d g)) j no_chain)
  form_at j low =
      let rungs = rungs_of g.film in
      let segments = segments_of g.film in
      let i = j / rungs in
      let q = j % rungs in
      let some = case.task.film.rungs.0 in
      let count = chains_count g (grown d g) in
      let inside : i < segments = (div-lt_iff_lt-mul {k = rungs} {x = j} {y = segments} some).1 (omega (arith, low, count)) in
      let rung : q < rungs = mod-lt j {m = rungs} some in
      let place : i * rungs + q ≡ j = div-add-mod' j rungs in
      let at : get_or (chain_list g (grown d g)) j no_chain ≡ chain_with_names g (grown d g) i q = ap (λ k. get_or (chain_list g (grown d g)) k no_chain) (sym place) ∙ chain_at d g (grown d g) i q inside rung in
      let here : i ≡ (0 + j) / rungs = ap (λ k. k / rungs) (omega arith) in
      subst (λ n. IsChain (names_per segments rungs n) (get_or (chain_list g (grown d g)) j no_chain)) here (subst (IsChain (names_per segments rungs i)) (sym at) (chain_form i q inside rung))

  last_inside : segments_of g.film - 1 < segments_of g.film
  last_inside = let some = case.task.film.segments.0 in omega (arith, some)

  -- the greatest end value has no more digits than a score
  pub bound_short : HasSignedDigits score_digits (bound_of g (grown d g))
  bound_short =
      let n = segments_of g.film - 1 in
      let end = end_of_plan g (grown d g) in
      end_short g case.task n end.1 (few_segments n last_inside) (in_reach d g case n end last_inside (end_found d g case.grid case.task).0).1

  -- and the certificate has its form
  pub certificate_form : IsCertificate (certificate_from d g (grown d g))
  certificate_form =
      let n = segments_of g.film - 1 in
      let rungs = list_of_plan d g (grown d g) in
      let fits = list_fits d g case.grid case.task in
      let most = case.task.film.rungs.1 in
      let some = case.task.film.segments.0 in
      record {
        head = record {
          segments = case.task.film.segments;
          rungs = case.task.film.rungs;
          score = end_short g case.task n (label_at g rungs n) (few_segments n last_inside) (label_reach g case.task rungs fits n last_inside);
          plan = (fits.0, All-weaker (λ q. q < rungs_of g.film) (HasDigits rung_digits) (λ q rung. omega (arith, rung, most)) rungs fits.1);
          starts = (
            length-map-range_with_len (λ q. place_above (grown d g 0 q) (start_label g q)) 0 (rungs_of g.film),
            all_by (HasDigits place_digits) (starts_of g (grown d g)) (λ k there.
                let one = from_map (λ q. place_above (grown d g 0 q) (start_label g q)) (rungs_below (rungs_of g.film)) k there in
                subst (HasDigits place_digits) one.2 (place_small 0 one.0 (start_label g one.0) (omega (arith, some)) (from_rungs (rungs_of g.film) one.0 one.1))),
          );
        };
        count = chains_count g (grown d g);
        chains = chains_from (segments_of g.film) (rungs_of g.film) 0 (chain_list g (grown d g)) form_at;
        labels = let count = list_count g (grown d g) (segments_of g.film) in omega (arith, count, few);
      }
