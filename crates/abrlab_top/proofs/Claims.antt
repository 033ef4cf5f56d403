-- Claims: what is claimed has a form and a text, which a file may hold, and the text claims just this.
use Rattle.std.proofs.Common.{◌≡◌, ◌∙◌, ◌≤◌, Bool, true, false, Ok, length, ap, sym, refl}
use Rattle.lab_io.specs.Sink.{Text}
use Rattle.lab_model.proofs.Steps.{map_ok-ok}
use Rattle.lab_model.specs.Steps.{map_ok}
use Rattle.labels.specs.Form.{IsCertificate}
use Rattle.certificate_text.specs.Form.{GapParts, IsGapCertificate}
use Rattle.certificate_text.specs.Reading.{certificate_of}
use Rattle.certificate_text.proofs.GapLaws.{gap_again, gap_takes}
use Rattle.certificate_text.proofs.HeadLaws.{certificate_again, certificate_takes}
use Rattle.certificate_text.proofs.Length.{gap_fits, spelling_fits}
use Rattle.abrlab_top.specs.Claim.{claim_of, claim_text, own_bound}

-- what is claimed has the form of certificates
pub claim_form : (gap : Bool) (bytes : Text) (k : GapParts) → claim_of gap bytes ≡ Ok k → IsCertificate k.inner
claim_form false bytes k e = let x = map_ok-ok own_bound (certificate_of bytes) k e in rw (sym (ap (λ (q : GapParts). q.inner) x.2)) (certificate_takes bytes x.0 x.1).0
claim_form true bytes k e = (gap_takes bytes k e).0.inner

-- without a gap the bound is the score
pub own_claim : (gap : Bool) (bytes : Text) (k : GapParts) → gap ≡ false → claim_of gap bytes ≡ Ok k → k.bound ≡ k.inner.score
own_claim false bytes k none e = let x = map_ok-ok own_bound (certificate_of bytes) k e in sym (ap (λ (q : GapParts). q.bound) x.2) ∙ ap (λ (q : GapParts). q.inner.score) x.2
own_claim true bytes k none e = absurd cc

-- its text is one that a file may hold
pub claim_fits : (gap : Bool) (k : GapParts) → IsGapCertificate k → length (claim_text gap k) ≤ 536870912
claim_fits false k form = spelling_fits k.inner form.inner
claim_fits true k form = gap_fits k form

-- and claims just this, where without a gap the bound is the score
pub claim_again : (gap : Bool) (k : GapParts) → IsGapCertificate k → (gap ≡ false → k.bound ≡ k.inner.score) → claim_of gap (claim_text gap k) ≡ Ok k
claim_again false k form own = ap (map_ok own_bound) (certificate_again k.inner form.inner) ∙ ap (λ b. Ok (record { bound = b; inner = k.inner })) (sym (own refl))
claim_again true k form own = gap_again k form
