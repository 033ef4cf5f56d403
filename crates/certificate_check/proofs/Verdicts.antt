-- The verdict is a Yes exactly where the certificate is valid.
use Rattle.std.proofs.Common.{◌≡◌, ℕ, ◌+◌, ◌-◌, ◌<◌, ◌≤◌, ⊎_elim, Bool, true, false, not, ◌&&◌, List, length, refl, sym, subst, arith}
use Rattle.std.specs.Prelude.{ℤ, ◌≤ℤ◌, ◌==◌, if◌then◌else◌, int_le, nat_le, nat_lt, slice_index}
use Rattle.std.specs.List.{All}
use Rattle.std.specs.Ordering.{int_eq}
use Rattle.std.proofs.lemmas.Grind.{get_or_default_zero}
use Rattle.std.proofs.lemmas.Bool.{and_from, and_parts, cases_lt, cond-true, cond-false, le-leb, lt-ltb, ltb-true}
use Rattle.std.proofs.lemmas.Int.{ints}
use Rattle.lab_model.specs.Film.{rungs_of, segments_of}
use Rattle.labels.specs.Labels.{Dominates, dominates, end_value, next_label, start_label}
use Rattle.player_core.specs.Scene.{Task}
use Rattle.labels.specs.Near.{farthest_ms}
use Rattle.labels.specs.Parts.{CertificateParts}
use Rattle.labels.specs.Read.{has_table, list_value}
use Rattle.labels.specs.Valid.{CountsMatch, EndsBelow, InRange, IsPlace, IsValid, NamesHold, ScoreHolds, StartsHold, chain_in, count_in, label_in, start_in}
use Rattle.labels.proofs.Kept.{dominates_from, dominates_true}
use Rattle.certificate_check.specs.declared.verdict.Verdict.{Verdict}
use Rattle.certificate_check.specs.declared.verdict.Verdict.TheVariants.{Yes}
use Rattle.labels.specs.Form.{names_per}
use Rattle.certificate_check.specs.Scheme.{first_no, tested}
use Rattle.certificate_check.specs.Clauses.{Layer, count_of, counts_verdict, end_verdict, ends_verdict, is_near, name_of, name_verdict, over_labels, plan_verdict, range_verdict, score_verdict, starts_held, starts_verdict}
use Rattle.certificate_check.specs.Verdict.{claims_up_to, ends_in, names_in, ranges_in, ranges_up_to, verdict_of}
use Rattle.certificate_check.proofs.Scheme.{all_yes, both_first, both_second, both_yes, tested_yes, yes_at, yes_tested}
use Rattle.certificate_check.proofs.InRange.{name_in_range, start_in_range, times_in}

-- ---- tests

eq_true : (a b : ℕ) → (a == b) ≡ true → a ≡ b
eq_true a b h = grind arith

eq_from : (a b : ℕ) → a ≡ b → (a == b) ≡ true
eq_from a b h = grind arith

le_true : (a b : ℤ) → int_le a b ≡ true → a ≤ℤ b
le_true a b h = grind (arith, ints)

le_from : (a b : ℤ) → a ≤ℤ b → int_le a b ≡ true
le_from a b h = grind (arith, ints)

int_eq_true : (a b : ℤ) → int_eq a b ≡ true → a ≡ b
int_eq_true a b h = grind (arith, ints)

int_eq_from : (a b : ℤ) → a ≡ b → int_eq a b ≡ true
int_eq_from a b h = grind (arith, ints)

table_true : (a b : Bool) → (if a then b else not b) ≡ true → a ≡ b
table_true true true h = refl
table_true true false h = cc
table_true false true h = cc
table_true false false h = refl

table_from : (a b : Bool) → a ≡ b → (if a then b else not b) ≡ true
table_from true true h = refl
table_from true false h = cc
table_from false true h = cc
table_from false false h = refl

-- ---- how many names a label has

-- a label before the last segment has a name for each rung
pub per_inside : (segments rungs i : ℕ) → i + 1 < segments → names_per segments rungs i ≡ rungs
per_inside segments rungs i low = cond-false (i + 1 == segments) 0 rungs (grind arith)

-- and one of the last segment has none
pub per_last : (segments rungs i : ℕ) → i + 1 ≡ segments → names_per segments rungs i ≡ 0
per_last segments rungs i last = cond-true (i + 1 == segments) 0 rungs (eq_from (i + 1) segments last)

-- a label that has names stands before the last segment
named_inside : (segments rungs i r : ℕ) → i < segments → r < names_per segments rungs i → i + 1 < segments
named_inside segments rungs i r low named =
    ⊎_elim (λ (inside : i + 1 < segments). inside) (λ (past : segments ≤ i + 1).
    let none = per_last segments rungs i (omega (arith, low, past)) in absurd (omega (arith, none, named))) (cases_lt (i + 1) segments)

-- ---- a test of all labels of a segment

-- where each label passes, all do
pub labels_yes : (rungs : ℕ) (here : Layer) (test : ℕ → ℕ → Verdict) → ((q k : ℕ) → q < rungs → k < count_of (here q) → test q k ≡ Yes) → over_labels rungs here test ≡ Yes
labels_yes rungs here test h = all_yes (λ q. first_no (test q) (count_of (here q))) rungs (λ q low. all_yes (test q) (count_of (here q)) (λ k here_low. h q k low here_low))

-- where all pass, each label does
pub label_yes : (rungs : ℕ) (here : Layer) (test : ℕ → ℕ → Verdict) → over_labels rungs here test ≡ Yes → (q k : ℕ) → q < rungs → k < count_of (here q) → test q k ≡ Yes
label_yes rungs here test h q k low in_chain = yes_at (test q) (count_of (here q)) k (yes_at (λ r. first_no (test r) (count_of (here r))) rungs q h low) in_chain

-- ---- V1

-- a Yes on V1 is V1
pub counts_match : (g : Task) (c : CertificateParts) → counts_verdict g c.table c.segments c.rungs ≡ Yes → CountsMatch g c
counts_match g c h =
    let two = and_parts (c.segments == segments_of g.film && c.rungs == rungs_of g.film) (if c.table then has_table g.setup else not (has_table g.setup)) (yes_tested 1 0 0 0 _ h) in
    let one = and_parts (c.segments == segments_of g.film) (c.rungs == rungs_of g.film) two.0 in
    record { segments = eq_true c.segments (segments_of g.film) one.0; rungs = eq_true c.rungs (rungs_of g.film) one.1; table = table_true c.table (has_table g.setup) two.1 }

-- and V1 gives a Yes
pub counts_yes : (g : Task) (c : CertificateParts) → CountsMatch g c → counts_verdict g c.table c.segments c.rungs ≡ Yes
counts_yes g c h =
    tested_yes 1 0 0 0 _ (and_from (c.segments == segments_of g.film && c.rungs == rungs_of g.film) (if c.table then has_table g.setup else not (has_table g.setup))
    (and_from (c.segments == segments_of g.film) (c.rungs == rungs_of g.film) (eq_from c.segments (segments_of g.film) h.segments) (eq_from c.rungs (rungs_of g.film) h.rungs)) (table_from c.table (has_table g.setup) h.table))

-- ---- V2

-- a Yes on the plan puts each of its rungs in range
pub plan_in_range : (segments rungs : ℕ) (plan : List ℕ) → plan_verdict segments rungs plan ≡ Yes → (i : ℕ) → i < segments → slice_index plan i < rungs
plan_in_range segments rungs plan h i low =
    ltb-true (slice_index plan i) rungs (yes_tested 2 i 0 0 (nat_lt (slice_index plan i) rungs) (yes_at (λ j. tested 2 j 0 0 (nat_lt (slice_index plan j) rungs)) segments i h low))

plan_yes : (segments rungs : ℕ) (plan : List ℕ) → ((i : ℕ) → i < segments → slice_index plan i < rungs) → plan_verdict segments rungs plan ≡ Yes
plan_yes segments rungs plan h = all_yes (λ j. tested 2 j 0 0 (nat_lt (slice_index plan j) rungs)) segments (λ i low. tested_yes 2 i 0 0 (nat_lt (slice_index plan i) rungs) (lt-ltb (slice_index plan i) rungs (h i low)))

starts_yes : (rungs : ℕ) (starts : List ℕ) (first : Layer) → ((q : ℕ) → q < rungs → slice_index starts q < count_of (first q)) → starts_verdict rungs starts first ≡ Yes
starts_yes rungs starts first h =
    all_yes (λ q. tested 2 0 q 0 (nat_lt (slice_index starts q) (count_of (first q)))) rungs (λ q low. tested_yes 2 0 q 0 (nat_lt (slice_index starts q) (count_of (first q))) (lt-ltb (slice_index starts q) (count_of (first q)) (h q low)))

range_at : (c : CertificateParts) → first_no (ranges_in c) c.segments ≡ Yes → (i q k : ℕ) → IsPlace c i q k → range_verdict (names_per c.segments c.rungs i) i q (chain_in c i q) (chain_in c (i + 1)) k ≡ Yes
range_at c h i q k place =
    label_yes c.rungs (chain_in c i) (λ r. range_verdict (names_per c.segments c.rungs i) i r (chain_in c i r) (chain_in c (i + 1))) (yes_at (ranges_in c) c.segments i h place.segment) q k place.rung place.label

-- a Yes on ranges is V1 and V2
pub in_range : (g : Task) (c : CertificateParts) → ranges_up_to g c c.segments ≡ Yes → CountsMatch g c × InRange c
unfolding ranges_up_to
in_range g c h =
    let counts = both_first (counts_verdict g c.table c.segments c.rungs) _ h in
    let one = both_second (counts_verdict g c.table c.segments c.rungs) _ h in
    let plan = both_first (plan_verdict c.segments c.rungs c.plan) _ one in
    let two = both_second (plan_verdict c.segments c.rungs c.plan) _ one in
    let starts = both_first (starts_verdict c.rungs c.starts (chain_in c 0)) _ two in
    let labels = both_second (starts_verdict c.rungs c.starts (chain_in c 0)) _ two in (
      counts_match g c counts,
      record {
        plan = plan_in_range c.segments c.rungs c.plan plan;
        starts = start_in_range c.rungs c.starts (chain_in c 0) starts;
        times = λ i q k place. times_in (names_per c.segments c.rungs i) i q (chain_in c i q) (chain_in c (i + 1)) k (range_at c labels i q k place);
        names = λ i q k r place inside rung.
            let per = per_inside c.segments c.rungs i inside in
            subst (λ p. name_of p (chain_in c i q) k r < count_in c (i + 1) r) per (name_in_range (names_per c.segments c.rungs i) i q (chain_in c i q) (chain_in c (i + 1)) k (range_at c labels i q k place) r (subst (λ p. r < p) (sym per) rung));
      },
    )

range_yes : (c : CertificateParts) → InRange c → (i q k : ℕ) → IsPlace c i q k → range_verdict (names_per c.segments c.rungs i) i q (chain_in c i q) (chain_in c (i + 1)) k ≡ Yes
range_yes c h i q k place =
    let times = h.times i q k place in
    let per = names_per c.segments c.rungs i in
    both_yes _ _ (tested_yes 2 i q k (is_near (label_in c i q k)) (and_from (nat_le (label_in c i q k).t farthest_ms) (nat_le (label_in c i q k).p farthest_ms) (le-leb (label_in c i q k).t farthest_ms times.0) (le-leb (label_in c i q k).p farthest_ms times.1)))
    (all_yes (λ r. tested 2 i q k (nat_lt (name_of per (chain_in c i q) k r) (count_in c (i + 1) r))) per (λ r low.
    let inside = named_inside c.segments c.rungs i r place.segment low in
    let same = per_inside c.segments c.rungs i inside in
    let named = h.names i q k r place inside (subst (λ p. r < p) same low) in
    tested_yes 2 i q k (nat_lt (name_of per (chain_in c i q) k r) (count_in c (i + 1) r)) (lt-ltb (name_of per (chain_in c i q) k r) (count_in c (i + 1) r) (subst (λ p. name_of p (chain_in c i q) k r < count_in c (i + 1) r) (sym same) named))))

ranges_yes : (g : Task) (c : CertificateParts) → CountsMatch g c → InRange c → ranges_up_to g c c.segments ≡ Yes
unfolding ranges_up_to
ranges_yes g c counts h =
    both_yes _ _ (counts_yes g c counts) (both_yes _ _ (plan_yes c.segments c.rungs c.plan h.plan) (both_yes _ _ (starts_yes c.rungs c.starts (chain_in c 0) h.starts)
    (all_yes (ranges_in c) c.segments (λ i low. labels_yes c.rungs (chain_in c i) (λ q. range_verdict (names_per c.segments c.rungs i) i q (chain_in c i q) (chain_in c (i + 1)))
    (λ q k rung label. range_yes c h i q k (record { segment = low; rung = rung; label = label }))))))

-- ---- V3 and V4

-- a Yes on V3 and V4 is these two
pub claims_hold : (g : Task) (c : CertificateParts) → claims_up_to g c c.segments ≡ Yes → StartsHold g c × NamesHold g c
unfolding claims_up_to
claims_hold g c h =
    let starts = both_first (starts_held g c.rungs c.starts (chain_in c 0)) _ h in
    let names = both_second (starts_held g c.rungs c.starts (chain_in c 0)) _ h in (
      record {
        holds = λ q low. dominates_true (label_in c 0 q (start_in c q)) (start_label g q) (yes_tested 3 0 q (start_in c q) (dominates (label_in c 0 q (start_in c q)) (start_label g q))
            (yes_at (λ r. tested 3 0 r (start_in c r) (dominates (label_in c 0 r (start_in c r)) (start_label g r))) c.rungs q starts low));
      },
      record {
        holds = λ i q k r place inside rung.
            let per = per_inside c.segments c.rungs i inside in
            let here = label_yes c.rungs (chain_in c i) (λ s. name_verdict g (names_per c.segments c.rungs i) i s (chain_in c i s) (chain_in c (i + 1))) (yes_at (names_in g c) c.segments i names place.segment) q k place.rung place.label in
            let next = next_label g (i + 1) q (label_in c i q k) in
            subst (λ p. Dominates (label_in c (i + 1) r (name_of p (chain_in c i q) k r)) (next r)) per
            (dominates_true (label_in c (i + 1) r (name_of (names_per c.segments c.rungs i) (chain_in c i q) k r)) (next r) (yes_tested 4 i q k _
            (yes_at (λ s. tested 4 i q k (dominates (label_in c (i + 1) s (name_of (names_per c.segments c.rungs i) (chain_in c i q) k s)) (next s))) (names_per c.segments c.rungs i) r here (subst (λ p. r < p) (sym per) rung))));
      },
    )

claims_yes : (g : Task) (c : CertificateParts) → StartsHold g c → NamesHold g c → claims_up_to g c c.segments ≡ Yes
unfolding claims_up_to
claims_yes g c starts names =
    both_yes _ _ (all_yes (λ q. tested 3 0 q (start_in c q) (dominates (label_in c 0 q (start_in c q)) (start_label g q))) c.rungs
    (λ q low. tested_yes 3 0 q (start_in c q) (dominates (label_in c 0 q (start_in c q)) (start_label g q)) (dominates_from (label_in c 0 q (start_in c q)) (start_label g q) (starts.holds q low))))
    (all_yes (names_in g c) c.segments (λ i low. labels_yes c.rungs (chain_in c i) (λ q. name_verdict g (names_per c.segments c.rungs i) i q (chain_in c i q) (chain_in c (i + 1))) (λ q k rung label.
    let per = names_per c.segments c.rungs i in
    let next = next_label g (i + 1) q (label_in c i q k) in
    all_yes (λ r. tested 4 i q k (dominates (label_in c (i + 1) r (name_of per (chain_in c i q) k r)) (next r))) per (λ r named.
    let inside = named_inside c.segments c.rungs i r low named in
    let same = per_inside c.segments c.rungs i inside in
    tested_yes 4 i q k (dominates (label_in c (i + 1) r (name_of per (chain_in c i q) k r)) (next r)) (dominates_from (label_in c (i + 1) r (name_of per (chain_in c i q) k r)) (next r)
    (subst (λ p. Dominates (label_in c (i + 1) r (name_of p (chain_in c i q) k r)) (next r)) (sym same) (names.holds i q k r (record { segment = low; rung = rung; label = label }) inside (subst (λ p. r < p) same named))))))))

-- ---- V5 and V6

ends_hold : (g : Task) (c : CertificateParts) (bound : ℤ) → ends_in g c bound ≡ Yes → EndsBelow g c bound × ScoreHolds g c
unfolding ends_in
ends_hold g c bound h =
    let last = c.segments - 1 in
    let ends = both_first (ends_verdict g bound c.rungs last (chain_in c last)) (score_verdict g c.plan c.score) h in
    let score = both_second (ends_verdict g bound c.rungs last (chain_in c last)) (score_verdict g c.plan c.score) h in (
      record {
        holds = λ q k place. le_true (end_value g (label_in c last q k)) bound (yes_tested 5 last q k (int_le (end_value g (label_in c last q k)) bound)
            (label_yes c.rungs (chain_in c last) (λ r. end_verdict g bound last r (chain_in c last r)) ends q k place.rung place.label));
      },
      record { holds = int_eq_true (list_value g c.plan) c.score (yes_tested 6 0 0 0 (int_eq (list_value g c.plan) c.score) score) },
    )

ends_yes : (g : Task) (c : CertificateParts) (bound : ℤ) → 1 ≤ c.segments → EndsBelow g c bound → ScoreHolds g c → ends_in g c bound ≡ Yes
unfolding ends_in
ends_yes g c bound some ends score =
    let last = c.segments - 1 in
    both_yes _ _ (labels_yes c.rungs (chain_in c last) (λ q. end_verdict g bound last q (chain_in c last q))
    (λ q k rung label. tested_yes 5 last q k (int_le (end_value g (label_in c last q k)) bound) (le_from (end_value g (label_in c last q k)) bound (ends.holds q k (record { segment = omega (arith, some); rung = rung; label = label })))))
    (tested_yes 6 0 0 0 (int_eq (list_value g c.plan) c.score) (int_eq_from (list_value g c.plan) c.score score.holds))

-- the rungs of a list that are below a number at each place
pub all_below : (xs : List ℕ) (n bound : ℕ) → length xs ≡ n → ((i : ℕ) → i < n → slice_index xs i < bound) → All (λ q. q < bound) xs
all_below xs n bound long h = λ j d low. let e = get_or_default_zero xs j d low in let own = h j (omega (arith, long, low)) in omega (arith, e, own)

-- ---- the whole

-- a Yes is said to valid certificates alone
pub yes_valid : (g : Task) (c : CertificateParts) (bound : ℤ) → verdict_of g c bound ≡ Yes → IsValid g c bound
unfolding verdict_of
yes_valid g c bound h =
    let ranges = in_range g c (both_first (ranges_up_to g c c.segments) _ h) in
    let rest = both_second (ranges_up_to g c c.segments) _ h in
    let claims = claims_hold g c (both_first (claims_up_to g c c.segments) (ends_in g c bound) rest) in
    let ends = ends_hold g c bound (both_second (claims_up_to g c c.segments) (ends_in g c bound) rest) in
    record { v1 = ranges.0; v2 = ranges.1; v3 = claims.0; v4 = claims.1; v5 = ends.0; v6 = ends.1 }

-- and to each of them
pub valid_yes : (g : Task) (c : CertificateParts) (bound : ℤ) → 1 ≤ c.segments → IsValid g c bound → verdict_of g c bound ≡ Yes
unfolding verdict_of
valid_yes g c bound some h =
    both_yes _ _ (ranges_yes g c h.v1 h.v2) (both_yes _ _ (claims_yes g c h.v3 h.v4) (ends_yes g c bound some h.v5 h.v6))
