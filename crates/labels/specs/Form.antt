-- The form of certificates: the counts, and the digits that their text allows.
use Rattle.std.specs.Prelude.{◌≡◌, ℕ, ◌+◌, ◌*◌, ◌/◌, ◌^◌, ◌<◌, ◌≤◌, ◌==◌, List, [], ◌∷◌, length, ℤ, pos, ◌-ℤ◌, ◌<ℤ◌, if◌then◌else◌}
use Rattle.std.specs.List.{All}
use Rattle.lab_model.specs.declared.label.Label.{Label}
use Rattle.lab_model.specs.Film.{IsWithin, most_rungs, most_segments}
use Rattle.labels.specs.Parts.{CertificateParts, ChainParts}

-- the digits of a number that names a place, or counts
abbrev pub place_digits : ℕ
place_digits = 7

-- the digits of a label's numbers
abbrev pub label_digits : ℕ
label_digits = 18

-- the digits of a score
abbrev pub score_digits : ℕ
score_digits = 24

-- the digits of a rung
abbrev pub rung_digits : ℕ
rung_digits = 2

-- the most labels of all chains together
abbrev pub most_labels : ℕ
most_labels = 1000000

-- a number of at most so many digits
abbrev pub HasDigits : ℕ → ℕ → Type 0
HasDigits digits n = n < 10 ^ digits

-- the same behind a `-`, too
abbrev pub HasSignedDigits : ℕ → ℤ → Type 0
HasSignedDigits digits z = ((pos 0 -ℤ pos (10 ^ digits)) <ℤ z) × (z <ℤ pos (10 ^ digits))

-- a label whose numbers have no more digits than its line allows
pub record IsSpelled (l : Label) : Type 0 where
  pub t : HasDigits label_digits l.t
  pub p : HasDigits label_digits l.p
  pub v : HasSignedDigits label_digits l.v

-- how many names stand behind each label of a segment: one for each rung of the next
abbrev pub names_per : ℕ → ℕ → ℕ → ℕ
names_per segments rungs segment = if segment + 1 == segments then 0 else rungs

-- a chain of labels, each with so many names
pub record IsChain (per : ℕ) (c : ChainParts) : Type 0 where
  pub labels : All IsSpelled c.labels
  pub whole : length c.names ≡ length c.labels * per
  pub names : All (HasDigits place_digits) c.names

-- the chains from the one with this number on, by segment, then rung
abbrev pub AreChains : ℕ → ℕ → ℕ → List ChainParts → Type 0
AreChains segments rungs number [] = Unit {0}
AreChains segments rungs number (c ∷ cs) = IsChain (names_per segments rungs (number / rungs)) c × AreChains segments rungs (number + 1) cs

-- the number of labels of all chains
abbrev pub label_count : List ChainParts → ℕ
label_count [] = 0
label_count (c ∷ cs) = length c.labels + label_count cs

-- the counts, the score, the rung list and the starts of a certificate that has a text
pub record IsHead (c : CertificateParts) : Type 0 where
  pub segments : IsWithin 1 most_segments c.segments
  pub rungs : IsWithin 1 most_rungs c.rungs
  pub score : HasSignedDigits score_digits c.score
  pub plan : (length c.plan ≡ c.segments) × All (HasDigits rung_digits) c.plan
  pub starts : (length c.starts ≡ c.rungs) × All (HasDigits place_digits) c.starts

-- a certificate that has a text
pub record IsCertificate (c : CertificateParts) : Type 0 where
  pub head : IsHead c
  pub count : length c.chains ≡ c.segments * c.rungs
  pub chains : AreChains c.segments c.rungs 0 c.chains
  pub labels : label_count c.chains ≤ most_labels
