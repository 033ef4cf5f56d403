-- What a certificate claims, plain or with a gap: a rung list with its score, and a bound for all rung lists.
use Rattle.std.specs.Prelude.{Bool, true, false, Result, if◌then◌else◌}
use Rattle.lab_io.specs.Sink.{Text}
use Rattle.lab_model.specs.declared.fault.Refusal.{Refusal}
use Rattle.lab_model.specs.Steps.{map_ok}
use Rattle.labels.specs.Parts.{CertificateParts}
use Rattle.certificate_text.specs.Form.{GapParts}
use Rattle.certificate_text.specs.Reading.{certificate_of, gap_of}
use Rattle.certificate_text.specs.Spelling.{gap_spelling, spelling}
use Rattle.certificate_text.specs.Walk.{Walk, begun, begun_gap}

-- a certificate whose own score is the bound
abbrev pub own_bound : CertificateParts → GapParts
own_bound c = record { bound = c.score; inner = c }

-- what the bytes of a certificate claim, or those of a gap certificate, or their first bad line
abbrev pub claim_of : Bool → Text → Result GapParts Refusal
claim_of false bytes = map_ok own_bound (certificate_of bytes)
claim_of true bytes = gap_of bytes

-- its text
abbrev pub claim_text : Bool → GapParts → Text
claim_text false c = spelling c.inner
claim_text true c = gap_spelling c

-- the walk that begins at its first line
abbrev pub claim_begun : Bool → Text → Result Walk Refusal
claim_begun gap bytes = if gap then begun_gap bytes else begun bytes
