-- What the layers so far gave, beside the verdict on the whole certificate.
use Rattle.std.proofs.Common.{◌≡◌, ◌∙◌, ℕ, zero, suc, ◌+◌, ◌-◌, ◌<◌, List, [], length, sym, ap, ap₂, subst, arith}
use Rattle.std.specs.Prelude.{ℤ, slice_index, nat_lt}
use Rattle.lab_model.specs.Film.{rungs_of, segments_of}
use Rattle.labels.specs.declared.plans.Chain.{Chain}
use Rattle.player_core.specs.Scene.{Task}
use Rattle.labels.specs.Labels.{dominates, next_label, start_label}
use Rattle.labels.specs.Parts.{CertificateParts}
use Rattle.labels.specs.Valid.{chain_in}
use Rattle.certificate_check.specs.declared.verdict.Verdict.{Verdict}
use Rattle.certificate_check.specs.declared.verdict.Verdict.TheVariants.{Yes}
use Rattle.labels.specs.Form.{names_per}
use Rattle.certificate_check.specs.declared.checker.Found.{Found}
use Rattle.certificate_check.specs.Scheme.{both, first_no, tested}
use Rattle.certificate_check.specs.Clauses.{Layer, count_of, counts_verdict, end_verdict, ends_verdict, is_near, label_of, chains_by_rung, name_of, name_verdict, names_verdict, plan_verdict, range_verdict, ranges_verdict, score_verdict, starts_held, starts_verdict}
use Rattle.certificate_check.specs.Layers.{AreBoth, IsLayerOf, MayEnd}
use Rattle.certificate_check.specs.Verdict.{claims_up_to, ends_in, names_in, ranges_in, ranges_up_to, verdict_of}
use Rattle.certificate_check.proofs.Scheme.{both-assoc, both_first, both_second, both_none, both_same, first_next, first_none, first_same}
use Rattle.certificate_check.proofs.Verdicts.{all_below, counts_match, per_inside, per_last, plan_in_range}

-- ---- layers that agree give the same verdicts

ranges_agree : (per rungs i : ℕ) (a b x y : Layer) → ((q : ℕ) → q < rungs → a q ≡ b q) → ((r : ℕ) → r < per → x r ≡ y r) → ranges_verdict per rungs i a x ≡ ranges_verdict per rungs i b y
ranges_agree per rungs i a b x y here next =
    first_same (λ q. first_no (range_verdict per i q (a q) x) (count_of (a q))) (λ q. first_no (range_verdict per i q (b q) y) (count_of (b q))) rungs (λ q low.
    ap (λ c. first_no (range_verdict per i q c x) (count_of c)) (here q low)
    ∙ first_same (range_verdict per i q (b q) x) (range_verdict per i q (b q) y) (count_of (b q)) (λ k in_chain.
    ap (both (tested 2 i q k (is_near (label_of (b q) k)))) (first_same (λ r. tested 2 i q k (nat_lt (name_of per (b q) k r) (count_of (x r)))) (λ r. tested 2 i q k (nat_lt (name_of per (b q) k r) (count_of (y r)))) per
    (λ r named. ap (λ c. tested 2 i q k (nat_lt (name_of per (b q) k r) (count_of c))) (next r named)))))

names_agree : (g : Task) (per rungs i : ℕ) (a b x y : Layer) → ((q : ℕ) → q < rungs → a q ≡ b q) → ((r : ℕ) → r < per → x r ≡ y r) → names_verdict g per rungs i a x ≡ names_verdict g per rungs i b y
names_agree g per rungs i a b x y here next =
    first_same (λ q. first_no (name_verdict g per i q (a q) x) (count_of (a q))) (λ q. first_no (name_verdict g per i q (b q) y) (count_of (b q))) rungs (λ q low.
    ap (λ c. first_no (name_verdict g per i q c x) (count_of c)) (here q low)
    ∙ first_same (name_verdict g per i q (b q) x) (name_verdict g per i q (b q) y) (count_of (b q)) (λ k in_chain.
    first_same (λ r. tested 4 i q k (dominates (label_of (x r) (name_of per (b q) k r)) (next_label g (i + 1) q (label_of (b q) k) r))) (λ r. tested 4 i q k (dominates (label_of (y r) (name_of per (b q) k r)) (next_label g (i + 1) q (label_of (b q) k) r))) per
    (λ r named. ap (λ c. tested 4 i q k (dominates (label_of c (name_of per (b q) k r)) (next_label g (i + 1) q (label_of (b q) k) r))) (next r named))))

ends_agree : (g : Task) (bound : ℤ) (rungs i : ℕ) (a b : Layer) → ((q : ℕ) → q < rungs → a q ≡ b q) → ends_verdict g bound rungs i a ≡ ends_verdict g bound rungs i b
ends_agree g bound rungs i a b here =
    first_same (λ q. first_no (end_verdict g bound i q (a q)) (count_of (a q))) (λ q. first_no (end_verdict g bound i q (b q)) (count_of (b q))) rungs (λ q low. ap (λ c. first_no (end_verdict g bound i q c) (count_of c)) (here q low))

starts_agree : (rungs : ℕ) (starts : List ℕ) (a b : Layer) → ((q : ℕ) → q < rungs → a q ≡ b q) → starts_verdict rungs starts a ≡ starts_verdict rungs starts b
starts_agree rungs starts a b here =
    first_same (λ q. tested 2 0 q 0 (nat_lt (slice_index starts q) (count_of (a q)))) (λ q. tested 2 0 q 0 (nat_lt (slice_index starts q) (count_of (b q)))) rungs (λ q low. ap (λ c. tested 2 0 q 0 (nat_lt (slice_index starts q) (count_of c))) (here q low))

held_agree : (g : Task) (rungs : ℕ) (starts : List ℕ) (a b : Layer) → ((q : ℕ) → q < rungs → a q ≡ b q) → starts_held g rungs starts a ≡ starts_held g rungs starts b
held_agree g rungs starts a b here =
    first_same (λ q. tested 3 0 q (slice_index starts q) (dominates (label_of (a q) (slice_index starts q)) (start_label g q))) (λ q. tested 3 0 q (slice_index starts q) (dominates (label_of (b q) (slice_index starts q)) (start_label g q))) rungs
    (λ q low. ap (λ c. tested 3 0 q (slice_index starts q) (dominates (label_of c (slice_index starts q)) (start_label g q))) (here q low))

-- ---- the layers of a certificate

-- what was found stands for so many segments of the certificate, whose next one has come
pub record HasFound (g : Task) (c : CertificateParts) (n : ℕ) (f : Found) : Type 0 where
  pub ranges : f.ranges ≡ ranges_up_to g c n
  pub claims : f.ranges ≡ Yes → f.claims ≡ claims_up_to g c n

ranges_of : (c : CertificateParts) (i : ℕ) (here next : List Chain) → i + 1 < c.segments → IsLayerOf c i here → IsLayerOf c (i + 1) next
    → ranges_verdict (length next) (length here) i (chains_by_rung here) (chains_by_rung next) ≡ ranges_in c i
ranges_of c i here next inside h k =
    let per = per_inside c.segments c.rungs i inside in
    ap₂ (λ p n. ranges_verdict p n i (chains_by_rung here) (chains_by_rung next)) (k.count ∙ sym per) h.count
    ∙ ranges_agree (names_per c.segments c.rungs i) c.rungs i (chains_by_rung here) (chain_in c i) (chains_by_rung next) (chain_in c (i + 1)) h.same (λ r low. k.same r (subst (λ p. r < p) per low))

names_of : (g : Task) (c : CertificateParts) (i : ℕ) (here next : List Chain) → i + 1 < c.segments → IsLayerOf c i here → IsLayerOf c (i + 1) next
    → names_verdict g (length next) (length here) i (chains_by_rung here) (chains_by_rung next) ≡ names_in g c i
names_of g c i here next inside h k =
    let per = per_inside c.segments c.rungs i inside in
    ap₂ (λ p n. names_verdict g p n i (chains_by_rung here) (chains_by_rung next)) (k.count ∙ sym per) h.count
    ∙ names_agree g (names_per c.segments c.rungs i) c.rungs i (chains_by_rung here) (chain_in c i) (chains_by_rung next) (chain_in c (i + 1)) h.same (λ r low. k.same r (subst (λ p. r < p) per low))

last_of : (c : CertificateParts) (i : ℕ) (last : List Chain) → i + 1 ≡ c.segments → IsLayerOf c i last → ranges_verdict 0 (length last) i (chains_by_rung last) (chains_by_rung []) ≡ ranges_in c i
last_of c i last end h =
    let per = per_last c.segments c.rungs i end in
    ap₂ (λ p n. ranges_verdict p n i (chains_by_rung last) (chains_by_rung [])) (sym per) h.count
    ∙ ranges_agree (names_per c.segments c.rungs i) c.rungs i (chains_by_rung last) (chain_in c i) (chains_by_rung []) (chain_in c (i + 1)) h.same (λ r low. absurd (omega (arith, per, low)))

no_names : (g : Task) (c : CertificateParts) (i : ℕ) → i + 1 ≡ c.segments → names_in g c i ≡ Yes
no_names g c i end =
    let per = per_last c.segments c.rungs i end in
    all_none (λ q. first_no (name_verdict g (names_per c.segments c.rungs i) i q (chain_in c i q) (chain_in c (i + 1))) (count_of (chain_in c i q))) c.rungs (λ q.
    all_none (name_verdict g (names_per c.segments c.rungs i) i q (chain_in c i q) (chain_in c (i + 1))) (count_of (chain_in c i q)) (λ k.
    ap (first_no (λ r. tested 4 i q k (dominates (label_of (chain_in c (i + 1) r) (name_of (names_per c.segments c.rungs i) (chain_in c i q) k r)) (next_label g (i + 1) q (label_of (chain_in c i q) k) r)))) per ∙ first_none _))
  where
    all_none : (f : ℕ → Verdict) (n : ℕ) → ((j : ℕ) → f j ≡ Yes) → first_no f n ≡ Yes
    all_none f zero h = first_none f
    all_none f (suc n) h = first_same f (λ j. Yes) (suc n) (λ j low. h j) ∙ yes_all (suc n)
      where
        yes_all : (m : ℕ) → first_no (λ j. Yes) m ≡ Yes
        yes_all zero = first_none (λ j. Yes)
        yes_all (suc m) = ap (first_no (λ j. Yes)) (omega arith) ∙ first_next (λ j. Yes) m ∙ ap (λ v. both v Yes) (yes_all m)

-- ---- how the findings go on

ranges_next : (g : Task) (c : CertificateParts) (n : ℕ) → both (ranges_up_to g c n) (ranges_in c n) ≡ ranges_up_to g c (n + 1)
unfolding ranges_up_to
ranges_next g c n =
    let v1 = counts_verdict g c.table c.segments c.rungs in
    let plan = plan_verdict c.segments c.rungs c.plan in
    let starts = starts_verdict c.rungs c.starts (chain_in c 0) in
    both-assoc v1 (both plan (both starts (first_no (ranges_in c) n))) (ranges_in c n)
    ∙ ap (both v1) (both-assoc plan (both starts (first_no (ranges_in c) n)) (ranges_in c n) ∙ ap (both plan) (both-assoc starts (first_no (ranges_in c) n) (ranges_in c n) ∙ ap (both starts) (sym (first_next (ranges_in c) n))))

claims_next : (g : Task) (c : CertificateParts) (n : ℕ) → both (claims_up_to g c n) (names_in g c n) ≡ claims_up_to g c (n + 1)
unfolding claims_up_to
claims_next g c n =
    let held = starts_held g c.rungs c.starts (chain_in c 0) in
    both-assoc held (first_no (names_in g c) n) (names_in g c n) ∙ ap (both held) (sym (first_next (names_in g c) n))

-- after the first layer
pub stands_first : (g : Task) (c : CertificateParts) (head : Verdict) (first : List Chain) (f : Found) → length c.starts ≡ c.rungs → IsLayerOf c 0 first
    → head ≡ both (counts_verdict g c.table c.segments c.rungs) (plan_verdict c.segments c.rungs c.plan)
    → f.ranges ≡ both head (starts_verdict (length c.starts) c.starts (chains_by_rung first))
    → (f.ranges ≡ Yes → f.claims ≡ starts_held g (length c.starts) c.starts (chains_by_rung first)) → HasFound g c 0 f
unfolding ranges_up_to claims_up_to
stands_first g c head first f long h is ranges claims =
    let v1 = counts_verdict g c.table c.segments c.rungs in
    let plan = plan_verdict c.segments c.rungs c.plan in
    let starts = starts_verdict c.rungs c.starts (chain_in c 0) in
    record {
      ranges = ranges ∙ ap₂ both is (ap (λ n. starts_verdict n c.starts (chains_by_rung first)) long ∙ starts_agree c.rungs c.starts (chains_by_rung first) (chain_in c 0) h.same) ∙ both-assoc v1 plan starts
          ∙ ap (λ v. both v1 (both plan v)) (sym (both_none starts) ∙ ap (both starts) (sym (first_none (ranges_in c))));
      claims = λ yes. claims yes ∙ ap (λ n. starts_held g n c.starts (chains_by_rung first)) long ∙ held_agree g c.rungs c.starts (chains_by_rung first) (chain_in c 0) h.same
          ∙ sym (both_none (starts_held g c.rungs c.starts (chain_in c 0))) ∙ ap (both (starts_held g c.rungs c.starts (chain_in c 0))) (sym (first_none (names_in g c)));
    }

-- after one more
pub stands_more : (g : Task) (c : CertificateParts) (i : ℕ) (here next : List Chain) (f h : Found) → i + 1 < c.segments → IsLayerOf c i here → IsLayerOf c (i + 1) next → HasFound g c i f
    → h.ranges ≡ both f.ranges (ranges_verdict (length next) (length here) i (chains_by_rung here) (chains_by_rung next))
    → (h.ranges ≡ Yes → h.claims ≡ both f.claims (names_verdict g (length next) (length here) i (chains_by_rung here) (chains_by_rung next))) → HasFound g c (i + 1) h
stands_more g c i here next f h inside own more s ranges claims =
    record {
      ranges = ranges ∙ ap₂ both s.ranges (ranges_of c i here next inside own more) ∙ ranges_next g c i;
      claims = λ yes. claims yes ∙ ap₂ both (s.claims (both_first f.ranges _ (sym ranges ∙ yes))) (names_of g c i here next inside own more) ∙ claims_next g c i;
    }

-- after the last
pub stands_last : (g : Task) (c : CertificateParts) (bound : ℤ) (i : ℕ) (last : List Chain) (f : Found) (v : Verdict) → i + 1 ≡ c.segments → IsLayerOf c i last → HasFound g c i f
    → v ≡ both (both f.ranges (ranges_verdict 0 (length last) i (chains_by_rung last) (chains_by_rung []))) (both f.claims (both (ends_verdict g bound (length last) i (chains_by_rung last)) (score_verdict g c.plan c.score)))
    → v ≡ verdict_of g c bound
unfolding verdict_of ends_in
stands_last g c bound i last f v end own s is =
    let before : i ≡ c.segments - 1 = omega (arith, end) in
    let ends : ends_verdict g bound (length last) i (chains_by_rung last) ≡ ends_verdict g bound c.rungs (c.segments - 1) (chain_in c (c.segments - 1)) =
    ap (λ n. ends_verdict g bound n i (chains_by_rung last)) own.count ∙ ends_agree g bound c.rungs i (chains_by_rung last) (chain_in c i) own.same ∙ ap (λ j. ends_verdict g bound c.rungs j (chain_in c j)) before in
    let ranges : both f.ranges (ranges_verdict 0 (length last) i (chains_by_rung last) (chains_by_rung [])) ≡ ranges_up_to g c c.segments =
    ap₂ both s.ranges (last_of c i last end own) ∙ ranges_next g c i ∙ ap (ranges_up_to g c) end in
    let claims = λ (yes : f.ranges ≡ Yes). s.claims yes ∙ sym (both_none (claims_up_to g c i)) ∙ ap (both (claims_up_to g c i)) (sym (no_names g c i end)) ∙ claims_next g c i ∙ ap (claims_up_to g c) end in
    is ∙ both_same (both f.ranges (ranges_verdict 0 (length last) i (chains_by_rung last) (chains_by_rung []))) _ (both (claims_up_to g c c.segments) (ends_in g c bound))
    (λ yes. ap₂ both (claims (both_first f.ranges _ yes)) (ap (λ w. both w (score_verdict g c.plan c.score)) ends))
    ∙ ap (λ w. both w (both (claims_up_to g c c.segments) (ends_in g c bound))) ranges

-- ---- what a Yes so far says

-- the counts are the film's
pub counts_so_far : (g : Task) (c : CertificateParts) (n : ℕ) (f : Found) → HasFound g c n f → f.ranges ≡ Yes → (c.segments ≡ segments_of g.film) × (c.rungs ≡ rungs_of g.film)
unfolding ranges_up_to
counts_so_far g c n f s passed = let h = counts_match g c (both_first (counts_verdict g c.table c.segments c.rungs) _ (sym s.ranges ∙ passed)) in (h.segments, h.rungs)

-- the next two layers may be tested
pub are_both : (g : Task) (c : CertificateParts) (i : ℕ) (here next : List Chain) (f : Found) → i + 1 < c.segments → IsLayerOf c i here → IsLayerOf c (i + 1) next → HasFound g c i f → f.ranges ≡ Yes → AreBoth g i here next
are_both g c i here next f inside own more s passed =
    let h = counts_so_far g c i f s passed in
    let segments = h.0 in
    record { segment = omega (arith, inside, segments); rungs = own.count ∙ h.1; next_rungs = more.count ∙ h.1 }

-- the last layer and the plan may be tested
pub may_end : (g : Task) (c : CertificateParts) (i : ℕ) (last : List Chain) (f : Found) → i + 1 ≡ c.segments → length c.plan ≡ c.segments → IsLayerOf c i last → HasFound g c i f → f.ranges ≡ Yes → MayEnd g i last c.plan
unfolding ranges_up_to
may_end g c i last f end long own s passed =
    let h = counts_so_far g c i f s passed in
    let plan = plan_in_range c.segments c.rungs c.plan (both_first (plan_verdict c.segments c.rungs c.plan) _ (both_second (counts_verdict g c.table c.segments c.rungs) _ (sym s.ranges ∙ passed))) in
    record { segment = end ∙ h.0; rungs = own.count ∙ h.1; list = (long ∙ h.0, all_below c.plan c.segments (rungs_of g.film) long (λ j low. subst (λ r. slice_index c.plan j < r) h.1 (plan j low))) }
