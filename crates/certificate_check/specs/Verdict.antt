-- The verdict on a certificate: the first failing clause, each over the whole certificate, with the first place where it fails.
use Rattle.std.specs.Prelude.{◌≡◌, ◌↔◌, ℕ, ◌+◌, ◌-◌, ℤ, List, Result, Ok}
use Rattle.lab_model.specs.Steps.{◌>>=◌}
use Rattle.lab_model.specs.declared.fault.Refusal.{Refusal}
use Rattle.player_core.specs.Scene.{Task}
use Rattle.labels.specs.Parts.{CertificateParts}
use Rattle.labels.specs.Valid.{IsValid, chain_in}
use Rattle.certificate_check.specs.declared.verdict.Verdict.{Verdict}
use Rattle.certificate_check.specs.declared.verdict.Verdict.TheVariants.{Yes}
use Rattle.labels.specs.Form.{names_per}
use Rattle.certificate_text.specs.Form.{GapParts}
use Rattle.certificate_text.specs.Reading.{certificate_of, gap_of}
use Rattle.certificate_check.specs.Scheme.{both, first_no}
use Rattle.certificate_check.specs.Clauses.{counts_verdict, ends_verdict, names_verdict, plan_verdict, ranges_verdict, score_verdict, starts_held, starts_verdict}

-- V2 of the labels of a segment of a certificate
abbrev pub ranges_in : CertificateParts → ℕ → Verdict
ranges_in c i = ranges_verdict (names_per c.segments c.rungs i) c.rungs i (chain_in c i) (chain_in c (i + 1))

-- V4 of the labels of a segment of a certificate
abbrev pub names_in : Task → CertificateParts → ℕ → Verdict
names_in g c i = names_verdict g (names_per c.segments c.rungs i) c.rungs i (chain_in c i) (chain_in c (i + 1))

-- V1, V2 of plan and starts, and V2 of the labels of so many segments
unfoldable pub ranges_up_to : Task → CertificateParts → ℕ → Verdict
ranges_up_to g c n =
    both (counts_verdict g c.table c.segments c.rungs)
    (both (plan_verdict c.segments c.rungs c.plan) (both (starts_verdict c.rungs c.starts (chain_in c 0)) (first_no (ranges_in c) n)))

-- V3, and V4 of the labels of so many segments
unfoldable pub claims_up_to : Task → CertificateParts → ℕ → Verdict
claims_up_to g c n = both (starts_held g c.rungs c.starts (chain_in c 0)) (first_no (names_in g c) n)

-- V5 and V6
unfoldable pub ends_in : Task → CertificateParts → ℤ → Verdict
ends_in g c bound = both (ends_verdict g bound c.rungs (c.segments - 1) (chain_in c (c.segments - 1))) (score_verdict g c.plan c.score)

-- the verdict, with this bound in V5
unfoldable pub verdict_of : Task → CertificateParts → ℤ → Verdict
verdict_of g c bound = both (ranges_up_to g c c.segments) (both (claims_up_to g c c.segments) (ends_in g c bound))

-- the verdict on a certificate that was read, with this bound, or the refusal
abbrev pub verdict_on : Task → ℤ → Result CertificateParts Refusal → Result Verdict Refusal
verdict_on g bound read = do
  c ← read
  Ok (verdict_of g c bound)

-- the verdict on the certificate that the bytes spell, with this bound, or their first bad line
abbrev pub bounded_verdict : Task → List ℕ → ℤ → Result Verdict Refusal
bounded_verdict g bytes bound = do
  c ← certificate_of bytes
  Ok (verdict_of g c bound)

-- the same with the certificate's own score as the bound
abbrev pub lines_verdict : Task → List ℕ → Result Verdict Refusal
lines_verdict g bytes = do
  c ← certificate_of bytes
  Ok (verdict_of g c c.score)

-- a verdict on the certificate that the bytes spell is a yes exactly where it is valid
abbrev pub SaysValid : Task → List ℕ → ℤ → Verdict → Type 0
SaysValid g bytes bound v = (c : CertificateParts) → certificate_of bytes ≡ Ok c → (v ≡ Yes) ↔ IsValid g c bound

-- the verdict, with this bound, on the certificate in the gap certificate that the bytes spell, or their first bad line
abbrev pub gap_verdict : Task → List ℕ → ℤ → Result Verdict Refusal
gap_verdict g bytes bound = do
  c ← gap_of bytes
  Ok (verdict_of g c.inner bound)

-- such a verdict is a yes exactly where that certificate is valid
abbrev pub SaysGapValid : Task → List ℕ → ℤ → Verdict → Type 0
SaysGapValid g bytes bound v = (c : GapParts) → gap_of bytes ≡ Ok c → (v ≡ Yes) ↔ IsValid g c.inner bound
