-- The three kinds of certificates have different first lines.
use Rattle.std.proofs.Common.{◌≡◌, ◌∙◌, ◌++◌, ℕ, [], ◌∷◌, true, false, Err, codes, ap, refl}
use Rattle.std.specs.Fmt.{decimal}
use Rattle.std.specs.Str.{bytes_eq}
use Rattle.lab_io.specs.Sink.{Text}
use Rattle.lab_io.specs.Piece.{fields_line}
use Rattle.labels.specs.Parts.{CertificateParts}
use Rattle.certificate_text.specs.Fields.{line_refusal, read_word}
use Rattle.certificate_text.specs.Line.{Line, ends, fields_of, known, read_line, stop_of, within, word}
use Rattle.certificate_text.specs.Grammar.{end_line, gap_bound_line, plan_line, rungs_line, score_line, segments_line, start_line}
use Rattle.certificate_text.specs.Form.{GapParts}
use Rattle.certificate_text.specs.Reading.{certificate_behind, certificate_of, gap_of, read_bound, read_counts, read_head, read_version}
use Rattle.certificate_text.specs.Spelling.{chains_lines, gap_spelling, lines_text, spelling, table_lines, version_number}
use Rattle.certificate_text.proofs.FieldLaws.{field_again, is_free, word_again}
use Rattle.price_bounds.specs.Verdict.{PriceParts}
use Rattle.price_text.specs.Reading.{counts_at, head_at, prices_of}
use Rattle.price_text.specs.Spelling.{prices_text, value_lines, window_lines}

-- another word is refused
word_refused : (row : ℕ) (own other : Text) (stop : ℕ) (rest : Text) → is_free stop other ≡ true → bytes_eq other own ≡ false → read_word row own stop (other ++ stop ∷ rest) ≡ Err (line_refusal row)
unfolding read_word
word_refused row own other stop rest free differs = rw (field_again row stop other rest free, differs) refl

-- a first line with another second word
abbrev begun : Text → Text → Text
begun other rest = codes "abrlab" ++ 32 ∷ (other ++ 32 ∷ rest)

-- it is refused
first_refused : (own other : Text) (more : Line) (rest : Text) → stop_of more ≡ 32 → is_free 32 other ≡ true → bytes_eq other own ≡ false → read_line 1 (word (codes "abrlab") (word own more)) (begun other rest) ≡ Err (line_refusal 1)
unfolding read_line
first_refused own other more rest stop free differs = rw (word_again 1 (codes "abrlab") 32 (other ++ 32 ∷ rest) refl, stop, word_refused 1 own other 32 rest free differs) refl

-- what stands behind the second word of a certificate by prices
abbrev behind_prices : PriceParts → Text
behind_prices c =
    (decimal 1 ++ 10 ∷ [])
    ++ lines_text ((fields_of segments_line (c.segments, tt) ∷ fields_of rungs_line (c.rungs, tt) ∷ []) ++ (value_lines c ++ (window_lines c.windows ++ (fields_of end_line tt ∷ []))))

prices_begun : (c : PriceParts) → prices_text c ≡ begun (codes "prices") (behind_prices c)
unfolding prices_text
prices_begun c = refl

-- of a plain one
abbrev behind_certificate : CertificateParts → Text
behind_certificate c =
    (decimal (version_number c.table) ++ 10 ∷ [])
    ++ lines_text (((fields_of segments_line (c.segments, tt) ∷ fields_of rungs_line (c.rungs, tt) ∷ [])
    ++ (table_lines c.table ++ (fields_of score_line (c.score, tt) ∷ fields_of (plan_line c.segments) c.plan ∷ fields_of (start_line c.rungs) c.starts ∷ [])))
    ++ (chains_lines c.segments c.rungs 0 c.chains ++ (fields_of end_line tt ∷ [])))

certificate_begun : (c : CertificateParts) → spelling c ≡ begun (codes "certificate") (behind_certificate c)
unfolding spelling
certificate_begun c = refl

-- of a gap certificate
abbrev behind_gap : GapParts → Text
behind_gap c = ((decimal 1 ++ 10 ∷ []) ++ (fields_line (fields_of gap_bound_line (c.bound, tt)) ++ [])) ++ spelling c.inner

gap_begun : (c : GapParts) → gap_spelling c ≡ begun (codes "gap") (behind_gap c)
gap_begun c = refl

-- a plain certificate's reader refuses the first line of one by prices
pub not_plain : (c : PriceParts) → certificate_of (prices_text c) ≡ Err (line_refusal 1)
unfolding certificate_behind read_head read_counts read_version
not_plain c = ap certificate_of (prices_begun c) ∙ rw (first_refused (codes "certificate") (codes "prices") (within 1 2 ends) (behind_prices c) refl refl refl) refl

-- that of a gap certificate does
pub not_gap : (c : PriceParts) → gap_of (prices_text c) ≡ Err (line_refusal 1)
unfolding gap_of read_bound
not_gap c = ap gap_of (prices_begun c) ∙ rw (first_refused (codes "gap") (codes "prices") (known 1 ends) (behind_prices c) refl refl refl) refl

-- the reader of one by prices refuses that of a plain one
pub not_of_plain : (c : CertificateParts) → prices_of (spelling c) ≡ Err (line_refusal 1)
unfolding prices_of head_at counts_at
not_of_plain c = ap prices_of (certificate_begun c) ∙ rw (first_refused (codes "prices") (codes "certificate") (known 1 ends) (behind_certificate c) refl refl refl) refl

-- and that of a gap certificate
pub not_of_gap : (c : GapParts) → prices_of (gap_spelling c) ≡ Err (line_refusal 1)
unfolding prices_of head_at counts_at
not_of_gap c = ap prices_of (gap_begun c) ∙ rw (first_refused (codes "prices") (codes "gap") (known 1 ends) (behind_gap c) refl refl refl) refl
