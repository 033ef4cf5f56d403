-- What a Yes on ranges says of labels and names.
use Rattle.std.proofs.Common.{◌≡◌, ℕ, ◌<◌, ◌≤◌, true, List, arith}
use Rattle.std.specs.Prelude.{ℤ, nat_le, nat_lt, slice_index}
use Rattle.std.proofs.lemmas.Bool.{and_parts, leb-true, ltb-true}
use Rattle.std.proofs.lemmas.Int.{ints}
use Rattle.lab_model.specs.Number.{IsNear}
use Rattle.lab_model.specs.declared.label.Label.{Label}
use Rattle.labels.specs.Near.{CanFollow, farthest_ms}
use Rattle.labels.specs.Parts.{ChainParts}
use Rattle.labels.specs.Read.{no_label}
use Rattle.certificate_check.specs.declared.verdict.Verdict.TheVariants.{Yes}
use Rattle.labels.specs.Form.{HasSignedDigits, IsChain}
use Rattle.certificate_check.specs.Scheme.{tested}
use Rattle.certificate_check.specs.Clauses.{Layer, count_of, is_near, label_of, name_of, name_ranges, range_verdict, starts_verdict}
use Rattle.certificate_check.proofs.Scheme.{both_first, both_second, yes_at, yes_tested}

-- what the test of a label's times says
pub near_times : (l : Label) → is_near l ≡ true → (l.t ≤ farthest_ms) × (l.p ≤ farthest_ms)
near_times l h = let r = and_parts (nat_le l.t farthest_ms) (nat_le l.p farthest_ms) h in (leb-true l.t farthest_ms r.0, leb-true l.p farthest_ms r.1)

-- the times of a label are in range
pub times_in : (per i q : ℕ) (chain : ChainParts) (next : Layer) (k : ℕ) → range_verdict per i q chain next k ≡ Yes
    → ((label_of chain k).t ≤ farthest_ms) × ((label_of chain k).p ≤ farthest_ms)
times_in per i q chain next k h =
    near_times (label_of chain k) (yes_tested 2 i q k (is_near (label_of chain k)) (both_first (tested 2 i q k (is_near (label_of chain k))) (name_ranges per i q chain next k) h))

-- a name is a place of the named chain
pub name_in_range : (per i q : ℕ) (chain : ChainParts) (next : Layer) (k : ℕ) → range_verdict per i q chain next k ≡ Yes
    → (r : ℕ) → r < per → name_of per chain k r < count_of (next r)
name_in_range per i q chain next k h r low =
    ltb-true (name_of per chain k r) (count_of (next r)) (yes_tested 2 i q k (nat_lt (name_of per chain k r) (count_of (next r)))
    (yes_at (λ s. tested 2 i q k (nat_lt (name_of per chain k s) (count_of (next s)))) per r (both_second (tested 2 i q k (is_near (label_of chain k))) (name_ranges per i q chain next k) h) low))

-- a start is a place of its rung's chain
pub start_in_range : (rungs : ℕ) (starts : List ℕ) (first : Layer) → starts_verdict rungs starts first ≡ Yes → (q : ℕ) → q < rungs → slice_index starts q < count_of (first q)
start_in_range rungs starts first h q low =
    ltb-true (slice_index starts q) (count_of (first q)) (yes_tested 2 0 q 0 (nat_lt (slice_index starts q) (count_of (first q))) (yes_at (λ s. tested 2 0 s 0 (nat_lt (slice_index starts s) (count_of (first s)))) rungs q h low))

near_value : (v : ℤ) → HasSignedDigits 18 v → IsNear 1000000000000000000 v
near_value v h = let low = h.0 in let high = h.1 in record { low = omega (arith, ints, low); high = omega (arith, ints, high) }

-- a label in range may be followed
pub follows : (per i q : ℕ) (chain : ChainParts) (next : Layer) (k : ℕ) → IsChain per chain → k < count_of chain → range_verdict per i q chain next k ≡ Yes → CanFollow (label_of chain k)
follows per i q chain next k form low h =
    let times = times_in per i q chain next k h in
    record { time = times.0; delay = times.1; value = near_value (label_of chain k).v (form.labels k no_label low).v }
