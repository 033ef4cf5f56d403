-- The layers of a certificate as slices of its chains.
use Rattle.std.proofs.Common.{◌≡◌, ◌∙◌, ℕ, zero, suc, ◌+◌, ◌-◌, ◌*◌, ◌/◌, ◌<◌, ◌≤◌, List, [], ◌∷◌, length, map, take, drop, get_or, sym, ap, subst, arith}
use Rattle.std.proofs.lemmas.List.{drop-map, get_or-drop, get_or-take, length-drop, length-map, length-take-le, take-map}
use Rattle.std.proofs.lemmas.Nat.{div-mul-add, mul-add-lt}
use Rattle.labels.specs.declared.plans.Chain.{Chain}
use Rattle.labels.specs.Parts.{ChainParts, chain_parts}
use Rattle.labels.specs.Valid.{no_chain}
use Rattle.certificate_text.specs.declared.certificate.Certificate.{Certificate}
use Rattle.labels.specs.Form.{AreChains, IsCertificate, IsChain, label_count, names_per}
use Rattle.certificate_text.specs.Form.{certificate_parts}
use Rattle.certificate_check.specs.Clauses.{count_of, chains_by_rung}
use Rattle.certificate_check.specs.Layers.{IsLayer, IsLayerOf}

-- ---- chains in a row

-- the form of the chain at a place
pub form_at : (segments rungs number : ℕ) (cs : List ChainParts) → AreChains segments rungs number cs → (j : ℕ) → j < length cs → IsChain (names_per segments rungs ((number + j) / rungs)) (get_or cs j no_chain)
form_at segments rungs number [] h j low = absurd (omega (arith, low))
form_at segments rungs number (c ∷ cs) h zero low = subst (λ n. IsChain (names_per segments rungs (n / rungs)) c) (omega arith) h.0
form_at segments rungs number (c ∷ cs) h (suc j) low =
    subst (λ n. IsChain (names_per segments rungs (n / rungs)) (get_or cs j no_chain)) (omega arith) (form_at segments rungs (number + 1) cs h.1 j (omega (arith, low)))

-- the number of its labels is one of those that are summed
pub count_at : (cs : List ChainParts) (j : ℕ) → j < length cs → count_of (get_or cs j no_chain) ≤ label_count cs
count_at [] j low = absurd (omega (arith, low))
count_at (c ∷ cs) zero low = omega arith
count_at (c ∷ cs) (suc j) low = let rest = count_at cs j (omega (arith, low)) in omega (arith, rest)

-- ---- a slice of the code's chains

slice_at : (chains : List Chain) (from rungs q : ℕ) → q < rungs → chains_by_rung (take rungs (drop from chains)) q ≡ get_or (map chain_parts chains) (from + q) no_chain
slice_at chains from rungs q low =
    ap (λ xs. get_or xs q no_chain) (sym (take-map chain_parts rungs (drop from chains)) ∙ ap (take rungs) (sym (drop-map chain_parts from chains)))
    ∙ get_or-take rungs (drop from (map chain_parts chains)) q no_chain low ∙ get_or-drop from (map chain_parts chains) q no_chain

module _ (cert : Certificate) (form : IsCertificate (certificate_parts cert)) where
  place_in : (i q : ℕ) → i < cert.segments → q < cert.rungs → i * cert.rungs + q < length (map chain_parts cert.chains.items)
  place_in i q low rung =
      let place = mul-add-lt i cert.rungs q cert.segments low rung in
      let count = form.count in
      let turn : cert.rungs * cert.segments ≡ cert.segments * cert.rungs = omega arith in
      omega (arith, place, count, turn)

  slice_length : (i : ℕ) → i < cert.segments → length (take cert.rungs (drop (i * cert.rungs) cert.chains.items)) ≡ cert.rungs
  slice_length i low =
      let some = form.head.rungs.0 in
      let place = place_in i (cert.rungs - 1) low (omega (arith, some)) in
      let long = length-map cert.chains.items chain_parts in
      let rest = length-drop (i * cert.rungs) cert.chains.items in
      length-take-le cert.rungs (drop (i * cert.rungs) cert.chains.items) (omega (arith, place, long, rest, some))

  -- the slice of a segment is its layer
  pub slice_is : (i : ℕ) → i < cert.segments → IsLayerOf (certificate_parts cert) i (take cert.rungs (drop (i * cert.rungs) cert.chains.items))
  slice_is i low = record { count = slice_length i low; same = λ q rung. slice_at cert.chains.items (i * cert.rungs) cert.rungs q rung }

  -- and has the form of one
  pub slice_form : (i : ℕ) → i < cert.segments → IsLayer (names_per cert.segments cert.rungs i) (take cert.rungs (drop (i * cert.rungs) cert.chains.items))
  slice_form i low =
      let few = form.head.rungs.1 in
      let long = slice_length i low in
      let cs = map chain_parts cert.chains.items in
      let own = λ (q : ℕ) (here : q < length (take cert.rungs (drop (i * cert.rungs) cert.chains.items))). subst (λ n. q < n) long here in
      let at = λ (q : ℕ) (rung : q < cert.rungs). slice_at cert.chains.items (i * cert.rungs) cert.rungs q rung in
      record {
        rungs = omega (arith, few, long);
        chain = λ q here.
            let rung = own q here in
            let before : (0 + (i * cert.rungs + q)) / cert.rungs ≡ i = ap (λ n. n / cert.rungs) (omega arith) ∙ div-mul-add i cert.rungs q rung in
            subst (IsChain (names_per cert.segments cert.rungs i)) (sym (at q rung))
            (subst (λ n. IsChain (names_per cert.segments cert.rungs n) (get_or cs (i * cert.rungs + q) no_chain)) before (form_at cert.segments cert.rungs 0 cs form.chains (i * cert.rungs + q) (place_in i q low rung)));
        count = λ q here.
            let rung = own q here in
            let one = count_at cs (i * cert.rungs + q) (place_in i q low rung) in
            let all = form.labels in
            let e = ap count_of (at q rung) in
            omega (arith, one, all, e);
      }
