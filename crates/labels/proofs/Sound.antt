-- A valid certificate proves what it says.
use Rattle.std.proofs.Common.{◌≡◌, ◌∙◌, ℕ, ◌+◌, ◌-◌, ◌<◌, List, length, sym, ap, refl, subst, arith}
use Rattle.std.specs.Prelude.{ℤ, ◌≤ℤ◌}
use Rattle.std.specs.List.{Contains}
use Rattle.std.proofs.lemmas.List.{get_or_default}
use Rattle.std.proofs.lemmas.List.Elements.{All-from_get_or, Contains-get_or}
use Rattle.lab_model.specs.declared.label.Label.{Label}
use Rattle.lab_model.specs.Film.{rungs_of, segments_of}
use Rattle.labels.specs.Labels.{AreRungs, Dominates, end_value, next_label}
use Rattle.player_core.specs.Scene.{IsTask, Task}
use Rattle.labels.specs.Parts.{CertificateParts}
use Rattle.labels.specs.Frontier.{frontier}
use Rattle.labels.specs.Grid.{IsGrid, Rounding, exact}
use Rattle.labels.specs.Grown.{grown}
use Rattle.labels.specs.Read.{Chains, bound_of, certificate_from, list_of_plan, list_value, no_label}
use Rattle.labels.specs.Covers.{Covers}
use Rattle.labels.specs.Valid.{IsPlace, IsValid, chain_in, label_in, name_in, start_in}
use Rattle.labels.specs.Best.{Settles}
use Rattle.labels.proofs.Accepts.{accepted}
use Rattle.labels.proofs.Covered.{covered_value}
use Rattle.labels.proofs.LabelsAreValues.{labels_are_values}
use Rattle.labels.proofs.Prefixes.{grown_is_frontier}
use Rattle.labels.proofs.ReadBack.{list_fits, list_scores, lists_below}
use Rattle.labels.proofs.Rounds.{exact_fits}
use Rattle.labels.proofs.Same.{Agree, bound_same, certificate_same, list_same}

-- what the labels of a list come to, and the bound of all lists' labels, settle their values
pub settled : (g : Task) → IsTask g → (rungs : List ℕ) (score bound : ℤ) → AreRungs g (segments_of g.film) rungs → list_value g rungs ≡ score
    → ((others : List ℕ) → AreRungs g (segments_of g.film) others → list_value g others ≤ℤ bound) → Settles g rungs score bound
settled g is rungs score bound fits value below = record {
  list = fits;
  value = labels_are_values g is rungs fits ∙ value;
  most = λ others h. subst (λ v. v ≤ℤ bound) (sym (labels_are_values g is others h)) (below others h);
}

-- ---- certificates

module _ (g : Task) (is : IsTask g) (c : CertificateParts) (bound : ℤ) (h : IsValid g c bound) where
  -- the chains of the certificate
  abbrev held : Chains
  held i q = (chain_in c i q).labels

  rung_in : (q : ℕ) → q < rungs_of g.film → q < c.rungs
  rung_in q low = let e = h.v1.rungs in omega (arith, e, low)

  -- a label of a chain stands at a place
  label_place : (i q : ℕ) (l : Label) → (there : Contains (held i q) l) → label_in c i q there.0 ≡ l
  label_place i q l there = get_or_default (held i q) there.0 no_label l there.1 ∙ there.2

  held_covers : Covers g held
  held_covers = record {
    starts = λ q low. let rung = rung_in q low in (label_in c 0 q (start_in c q), Contains-get_or (held 0 q) (start_in c q) no_label (h.v2.starts q rung), h.v3.holds q rung);
    goes_on = λ i q r next low rung l there.
        let k = there.0 in
        let e = h.v1.segments in
        let inside : i + 1 < c.segments = omega (arith, e, next) in
        let place : IsPlace c i q k = record { segment = omega (arith, inside); rung = rung_in q low; label = there.1 } in
        let name = name_in c i q k r in
        let above = h.v4.holds i q k r place inside (rung_in r rung) in (
          label_in c (i + 1) r name,
          Contains-get_or (held (i + 1) r) name no_label (h.v2.names i q k r place inside (rung_in r rung)),
          subst (λ m. Dominates (label_in c (i + 1) r name) (next_label g (i + 1) q m r)) (label_place i q l there) above,
        );
  }

  -- no label of the last segment ends above the bound
  held_below : (q : ℕ) (l : Label) → q < rungs_of g.film → Contains (held (segments_of g.film - 1) q) l → end_value g l ≤ℤ bound
  held_below q l low there =
      let e = h.v1.segments in
      let some = is.film.segments.0 in
      let last : c.segments - 1 ≡ segments_of g.film - 1 = ap (λ n. n - 1) e in
      let stands = subst (λ n. Contains (held n q) l) (sym last) there in
      let place : IsPlace c (c.segments - 1) q stands.0 = record { segment = omega (arith, e, some); rung = rung_in q low; label = stands.1 } in
      subst (λ m. end_value g m ≤ℤ bound) (label_place (c.segments - 1) q l stands) (h.v5.holds q stands.0 place)

  plan_fits : length c.plan ≡ c.segments → AreRungs g (segments_of g.film) c.plan
  plan_fits long =
      let n = h.v1.segments in
      let r = h.v1.rungs in
      (long ∙ n, All-from_get_or (λ q. q < rungs_of g.film) c.plan 0 (λ i low. let rung = h.v2.plan i (omega (arith, long, low)) in omega (arith, rung, r)))

  -- the certificate is sound
  pub sound : length c.plan ≡ c.segments → Settles g c.plan c.score bound
  sound long = settled g is c.plan c.score bound (plan_fits long) h.v6.holds (λ others fits. covered_value g held is held_covers bound held_below others fits)

-- ---- plans

-- the coarse plan
pub coarse_settles : (d : Rounding) → IsGrid d → (g : Task) → IsTask g → Settles g (list_of_plan d g (grown d g)) (list_value g (list_of_plan d g (grown d g))) (bound_of g (grown d g))
coarse_settles d grid g is =
    settled g is (list_of_plan d g (grown d g)) (list_value g (list_of_plan d g (grown d g))) (bound_of g (grown d g)) (list_fits d g grid is) refl (λ others fits. lists_below d g grid is others fits)

-- what grows on the grid 1, 1 agrees with the frontiers
pub exact_agrees : (g : Task) → IsTask g → Agree g (grown exact g) (frontier g)
exact_agrees g is = record { same = λ i q low rung. grown_is_frontier g is i q low rung }

-- the exact plan
pub plan_settles : (g : Task) → IsTask g → Settles g (list_of_plan exact g (frontier g)) (bound_of g (frontier g)) (bound_of g (frontier g))
plan_settles g is =
    let same = list_same exact g (grown exact g) (frontier g) (exact_agrees g is) is in
    let bound = bound_same exact g (grown exact g) (frontier g) (exact_agrees g is) is in
    subst (λ rungs. Settles g rungs (bound_of g (frontier g)) (bound_of g (frontier g))) same
    (subst (λ b. Settles g (list_of_plan exact g (grown exact g)) b b) bound
    (settled g is (list_of_plan exact g (grown exact g)) (bound_of g (grown exact g)) (bound_of g (grown exact g)) (list_fits exact g exact_fits is) (list_scores g is) (λ others fits. lists_below exact g exact_fits is others fits)))

-- the exact plan's certificate
pub plan_accepted : (g : Task) → IsTask g → IsValid g (certificate_from exact g (frontier g)) (certificate_from exact g (frontier g)).score
plan_accepted g is =
    subst (λ c. IsValid g c c.score) (certificate_same exact g (grown exact g) (frontier g) (exact_agrees g is) is)
    (subst (λ b. IsValid g (certificate_from exact g (grown exact g)) b) (sym (list_scores g is)) (accepted exact exact_fits g is))
