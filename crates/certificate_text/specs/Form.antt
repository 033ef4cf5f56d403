-- A certificate without where its parts lie in memory.
use Rattle.std.specs.Prelude.{map, ℤ}
use Rattle.labels.specs.Parts.{CertificateParts, chain_parts}
use Rattle.labels.specs.Form.{HasSignedDigits, IsCertificate, score_digits}
use Rattle.certificate_text.specs.declared.certificate.Certificate.{Certificate}
use Rattle.certificate_text.specs.declared.certificate.GapCertificate.{GapCertificate}

-- the parts of a certificate
abbrev pub certificate_parts : Certificate → CertificateParts
certificate_parts c = record {
  table = c.table;
  segments = c.segments;
  rungs = c.rungs;
  score = c.score;
  plan = c.plan.items;
  starts = c.starts.items;
  chains = map chain_parts c.chains.items;
}

-- all that a gap certificate says: its bound, and the certificate behind it
pub record GapParts : Type 0 where
  pub bound : ℤ
  pub inner : CertificateParts

-- the parts of a gap certificate
abbrev pub gap_parts : GapCertificate → GapParts
gap_parts c = record { bound = c.bound; inner = certificate_parts c.inner }

-- a gap certificate that has a text
pub record IsGapCertificate (c : GapParts) : Type 0 where
  pub bound : HasSignedDigits score_digits c.bound
  pub inner : IsCertificate c.inner
