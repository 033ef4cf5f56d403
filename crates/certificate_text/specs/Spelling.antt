-- The text of a certificate: its lines, each with its fields.
use Rattle.std.specs.Prelude.{ℕ, ◌+◌, ◌/◌, ◌%◌, Bool, List, [], ◌∷◌, ◌++◌, length, take, drop, if◌then◌else◌, ℤ}
use Rattle.std.specs.List.{flat_map}
use Rattle.lab_model.specs.declared.label.Label.{Label}
use Rattle.lab_io.specs.Sink.{Text}
use Rattle.lab_io.specs.Piece.{fields_line}
use Rattle.labels.specs.Parts.{CertificateParts, ChainParts}
use Rattle.certificate_text.specs.Line.{fields_of}
use Rattle.certificate_text.specs.Grammar.{end_line, gap_bound_line, gap_line, label_line, layer_line, plan_line, rungs_line, score_line, segments_line, start_line, table_line, version_line}
use Rattle.labels.specs.Form.{names_per}
use Rattle.certificate_text.specs.Form.{GapParts}

-- the number of the version: 2 for a setup with a utility table
abbrev pub version_number : Bool → ℕ
version_number table = if table then 2 else 1

-- the first line
abbrev pub version_fields : Bool → List Text
version_fields table = fields_of version_line (version_number table, tt)

-- the line of version 2
abbrev pub table_lines : Bool → List (List Text)
table_lines table = if table then (fields_of table_line tt ∷ []) else []

-- the lines before the chains
abbrev pub head_lines : CertificateParts → List (List Text)
head_lines c =
    (version_fields c.table ∷ fields_of segments_line (c.segments, tt) ∷ fields_of rungs_line (c.rungs, tt) ∷ [])
    ++ (table_lines c.table
    ++ (fields_of score_line (c.score, tt) ∷ fields_of (plan_line c.segments) c.plan ∷ fields_of (start_line c.rungs) c.starts ∷ []))

-- the line of a label with its names
abbrev pub label_fields : Label → List ℕ → List Text
label_fields l names = fields_of (label_line (length names)) (l.t, (l.p, (l.v, names)))

-- the lines of the labels, each with so many of the names
abbrev pub label_lines : ℕ → List Label → List ℕ → List (List Text)
label_lines per [] names = []
label_lines per (l ∷ ls) names = label_fields l (take per names) ∷ label_lines per ls (drop per names)

-- the line before the labels of a chain
abbrev pub layer_fields : ℕ → ℕ → ℕ → List Text
layer_fields segment rung count = fields_of (layer_line segment rung) (count, tt)

-- the lines of the chain of a segment and rung, whose labels have so many names each
abbrev pub chain_lines : ℕ → ℕ → ℕ → ChainParts → List (List Text)
chain_lines per segment rung c = layer_fields segment rung (length c.labels) ∷ label_lines per c.labels c.names

-- the lines of the chains from the one with this number on, by segment, then rung
abbrev pub chains_lines : ℕ → ℕ → ℕ → List ChainParts → List (List Text)
chains_lines segments rungs number [] = []
chains_lines segments rungs number (c ∷ cs) =
    chain_lines (names_per segments rungs (number / rungs)) (number / rungs) (number % rungs) c ++ chains_lines segments rungs (number + 1) cs

-- all lines of a certificate
abbrev pub cert_lines : CertificateParts → List (List Text)
cert_lines c = head_lines c ++ (chains_lines c.segments c.rungs 0 c.chains ++ (fields_of end_line tt ∷ []))

-- the lines, one after the other
abbrev pub lines_text : List (List Text) → Text
lines_text = flat_map fields_line

-- the text of a certificate
unfoldable pub spelling : CertificateParts → Text
spelling c = lines_text (cert_lines c)

-- the two lines that stand before the others in a gap certificate
abbrev pub gap_lines : ℤ → List (List Text)
gap_lines bound = fields_of gap_line tt ∷ fields_of gap_bound_line (bound, tt) ∷ []

-- the text of a gap certificate: these lines, and the spelling of the certificate behind them
abbrev pub gap_spelling : GapParts → Text
gap_spelling c = lines_text (gap_lines c.bound) ++ spelling c.inner
