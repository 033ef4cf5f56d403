-- Gap certificates: what is read is of the form and spelled so, and what is of the form is read from its spelling.
use Rattle.std.proofs.Common.{◌≡◌, ◌∙◌, ◌++◌, ◌^◌, ◌<◌, ℤ, [], Result, Ok, Err, refl, sym, ap, subst, append_assoc, append-nil, lit<, lit≤}
use Rattle.std.specs.Prelude.{IfOk}
use Rattle.lab_model.proofs.Steps.{then_ok}
use Rattle.lab_model.specs.Steps.{◌>>=◌}
use Rattle.lab_model.specs.declared.fault.InputFault.{InputFault}
use Rattle.lab_model.specs.Reading.{Gives}
use Rattle.lab_io.specs.Sink.{Text}
use Rattle.lab_io.specs.Piece.{fields_line}
use Rattle.labels.specs.Form.{HasSignedDigits, score_digits}
use Rattle.labels.specs.Parts.{CertificateParts}
use Rattle.certificate_text.specs.declared.certificate.GapCertificate.{GapCertificate}
use Rattle.certificate_text.specs.Line.{fields_of, read_line}
use Rattle.certificate_text.specs.Grammar.{gap_bound_line, gap_line}
use Rattle.certificate_text.specs.Form.{GapParts, IsGapCertificate, gap_parts}
use Rattle.certificate_text.specs.Reading.{certificate_behind, gap_heading, gap_of, read_bound}
use Rattle.certificate_text.specs.Spelling.{gap_lines, gap_spelling, lines_text, spelling}
use Rattle.certificate_text.proofs.Loops.{ok_is}
use Rattle.certificate_text.proofs.LineLaws.{IsSpellable, line_again, line_takes}
use Rattle.certificate_text.proofs.HeadLaws.{behind_again, behind_takes}

can_gap : IsSpellable gap_line
can_gap = (refl, (refl, tt))

-- the bound has a line
pub can_bound : IsSpellable gap_bound_line
can_bound = (refl, ((lit≤ tt, lit≤ tt), tt))

-- the two lines and what stands behind them
gap_text : (bound : ℤ) (rest : Text) → lines_text (gap_lines bound) ++ rest ≡ fields_line (fields_of gap_line tt) ++ (fields_line (fields_of gap_bound_line (bound, tt)) ++ rest)
gap_text bound rest =
    let first = fields_line (fields_of gap_line tt) in
    let second = fields_line (fields_of gap_bound_line (bound, tt)) in
    append_assoc first (second ++ []) rest ∙ ap (λ (w : Text). first ++ (w ++ rest)) (append-nil second)

-- a bound that was read is of the form, and its lines spell it
bound_takes : (bytes : Text) (x : ℤ × Text) → read_bound bytes ≡ Ok x → (bytes ≡ lines_text (gap_lines x.0) ++ x.1) × HasSignedDigits score_digits x.0
unfolding read_bound
bound_takes bytes x h =
    let a = then_ok (read_line 1 gap_line bytes) (λ gap. read_line 2 gap_bound_line gap.1 >>= λ bound. Ok (bound.0.0, bound.1)) x h in
    let b = then_ok (read_line 2 gap_bound_line a.0.1) (λ bound. Ok (bound.0.0, bound.1)) x a.2 in
    let ta = line_takes 1 gap_line bytes a.0 can_gap (lit≤ tt) a.1 in
    let tb = line_takes 2 gap_bound_line a.0.1 b.0 can_bound (lit≤ tt) b.1 in
    subst (λ (y : ℤ × Text). (bytes ≡ lines_text (gap_lines y.0) ++ y.1) × HasSignedDigits score_digits y.0) (ok_is (b.0.0.0, b.0.1) x b.2)
    (ta.text ∙ ap (λ (w : Text). fields_line (fields_of gap_line tt) ++ w) tb.text ∙ sym (gap_text b.0.0.0 b.0.1), tb.holds.0)

-- a bound of the form is read from its lines
bound_again : (bound : ℤ) (rest : Text) → HasSignedDigits score_digits bound → read_bound (lines_text (gap_lines bound) ++ rest) ≡ Ok (bound, rest)
unfolding read_bound
bound_again bound rest short =
    ap read_bound (gap_text bound rest)
    ∙ rw (
      line_again 1 gap_line tt (fields_line (fields_of gap_bound_line (bound, tt)) ++ rest) can_gap (lit≤ tt) (one_digit, tt),
      line_again 2 gap_bound_line (bound, tt) rest can_bound (lit≤ tt) (short, tt),
    ) refl
  where
    one_digit : 1 < 10 ^ 7
    one_digit = lit< tt

-- a gap certificate of these parts
abbrev made : ℤ → CertificateParts → GapParts
made bound inner = record { bound = bound; inner = inner }

-- what was read is of the form, and the bytes are its spelling
pub gap_takes : (bytes : Text) (c : GapParts) → gap_of bytes ≡ Ok c → IsGapCertificate c × (bytes ≡ gap_spelling c)
unfolding gap_of
gap_takes bytes c h =
    let a = then_ok (read_bound bytes) (λ bound. certificate_behind gap_heading bound.1 >>= λ inner. Ok (made bound.0 inner)) c h in
    let b = then_ok (certificate_behind gap_heading a.0.1) (λ inner. Ok (made a.0.0 inner)) c a.2 in
    let ta = bound_takes bytes a.0 a.1 in
    let tb = behind_takes gap_heading a.0.1 b.0 b.1 in
    subst (λ (y : GapParts). IsGapCertificate y × (bytes ≡ gap_spelling y)) (ok_is (made a.0.0 b.0) c b.2)
    (record { bound = ta.1; inner = tb.0 }, ta.0 ∙ ap (λ (w : Text). lines_text (gap_lines a.0.0) ++ w) tb.1)

-- what is of the form is read from its spelling
pub gap_again : (c : GapParts) → IsGapCertificate c → gap_of (gap_spelling c) ≡ Ok c
unfolding gap_of
gap_again c form = rw (bound_again c.bound (spelling c.inner) form.bound, behind_again gap_heading c.inner form.inner) refl

-- gap certificates of the form with equal spellings are equal
pub same_gap : (c d : GapParts) → IsGapCertificate c → IsGapCertificate d → gap_spelling c ≡ gap_spelling d → c ≡ d
same_gap c d form other e = ok_is c d (sym (gap_again c form) ∙ ap gap_of e ∙ gap_again d other)

-- the same of what a call gave
pub gap_found : (bytes : Text) (answer : Result GapCertificate InputFault) → Gives gap_parts answer (gap_of bytes)
    → IfOk answer (λ c. IsGapCertificate (gap_parts c) × (bytes ≡ gap_spelling (gap_parts c)))
gap_found bytes (Ok c) h = gap_takes bytes (gap_parts c) h
gap_found bytes (Err fault) h = tt
