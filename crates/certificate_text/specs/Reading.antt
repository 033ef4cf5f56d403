-- What the bytes of a certificate stand for, or their first bad line.
use Rattle.std.specs.Prelude.{◌≡◌, ℕ, zero, suc, ◌+◌, ◌-◌, ◌*◌, ◌/◌, ◌%◌, ◌==◌, Bool, List, [], ◌∷◌, ◌++◌, Result, Ok, Err, if◌then◌else◌, nat_le, ℤ}
use Rattle.lab_model.specs.Steps.{◌>>=◌}
use Rattle.lab_model.specs.declared.fault.Refusal.{Refusal}
use Rattle.lab_io.specs.Sink.{Text}
use Rattle.labels.specs.Parts.{CertificateParts, ChainParts}
use Rattle.certificate_text.specs.declared.places.Spot.{Spot}
use Rattle.certificate_text.specs.declared.places.Counts as places
use Rattle.labels.specs.Form.{names_per, most_labels}
use Rattle.certificate_text.specs.Fields.{Read, line_refusal, value_if}
use Rattle.certificate_text.specs.Line.{read_line}
use Rattle.certificate_text.specs.Form.{GapParts}
use Rattle.certificate_text.specs.Grammar.{end_line, gap_bound_line, gap_line, label_line, layer_line, plan_line, rungs_line, score_line, segments_line, start_line, table_line, version_line}

-- where a reader stands: the number of the next line, how many labels may still come, and the bytes that are left
pub record Place : Type 0 where
  pub row : ℕ
  pub left : ℕ
  pub rest : Text

-- what was read and where its reader then stands, or the refusal
abbrev pub Walks : Type 0 → Type 0
Walks X = Result (X × Place) Refusal

-- where the code's reader stands
abbrev pub place_of : Spot → Place
place_of spot = record { row = spot.row; left = spot.left; rest = spot.rest.now }

-- the code's reader stands so many chains further in its certificate
pub record IsFurther (count : ℕ) (old new : Spot) : Type 0 where
  pub counts : new.counts ≡ old.counts
  pub number : new.number ≡ old.number + count

-- ---- the lines before the chains, behind so many lines of a heading

-- whether the version is that of a setup with a utility table
unfoldable pub read_version : ℕ → Text → Read Bool
read_version row bytes = do
  version ← read_line row version_line bytes
  Ok (version.0.0 == 2, version.1)

-- the line of version 2
unfoldable pub read_table : ℕ → Bool → Text → Read (Unit {0})
read_table row table bytes = if table then read_line row table_line bytes else Ok (tt, bytes)

-- version and counts
pub record Counts : Type 0 where
  pub table : Bool
  pub segments : ℕ
  pub rungs : ℕ

-- the same of the code's
abbrev pub counts_of : places.Counts → Counts
counts_of c = record { table = c.table; segments = c.segments; rungs = c.rungs }

-- the lines of version and counts
unfoldable pub read_counts : ℕ → Text → Read Counts
read_counts heading bytes = do
  table ← read_version (heading + 1) bytes
  segments ← read_line (heading + 2) segments_line table.1
  rungs ← read_line (heading + 3) rungs_line segments.1
  rest ← read_table (heading + 4) table.0 rungs.1
  Ok (record { table = table.0; segments = segments.0.0; rungs = rungs.0.0 }, rest.1)

-- the number of the line of the score
abbrev pub score_row : ℕ → Bool → ℕ
score_row heading table = heading + (if table then 5 else 4)

-- what stands before the chains, and where these begin
unfoldable pub read_head : ℕ → Text → Walks CertificateParts
read_head heading bytes = do
  counts ← read_counts heading bytes
  score ← read_line (score_row heading counts.0.table) score_line counts.1
  plan ← read_line (score_row heading counts.0.table + 1) (plan_line counts.0.segments) score.1
  starts ← read_line (score_row heading counts.0.table + 2) (start_line counts.0.rungs) plan.1
  Ok (
    record { table = counts.0.table; segments = counts.0.segments; rungs = counts.0.rungs; score = score.0.0; plan = plan.0; starts = starts.0; chains = [] },
    record { row = score_row heading counts.0.table + 3; left = most_labels; rest = starts.1 },
  )

-- ---- the chains

-- labels, and then more of them
abbrev pub joined : ChainParts → ChainParts → ChainParts
joined c d = record { labels = c.labels ++ d.labels; names = c.names ++ d.names }

-- labels that were read before, and then those that are read
abbrev pub behind : ChainParts → Read ChainParts → Read ChainParts
behind c read = read >>= λ d. Ok (joined c d.0, d.1)

-- the line of a label with so many names: a chain of this label alone
unfoldable pub read_label : ℕ → ℕ → Text → Read ChainParts
read_label row per bytes = do
  label ← read_line row (label_line per) bytes
  Ok (record { labels = (record { t = label.0.0; p = label.0.1.0; v = label.0.1.1.0 }) ∷ []; names = label.0.1.1.1 }, label.1)

-- the lines of so many labels
unfoldable pub read_labels : ℕ → ℕ → ℕ → Text → Read ChainParts
read_labels row per zero bytes = Ok (record { labels = []; names = [] }, bytes)
read_labels row per (suc more) bytes = do
  one ← read_label row per bytes
  others ← read_labels (row + 1) per more one.1
  Ok (joined one.0 others.0, others.1)

-- the line before the labels of a chain: how many they are, which may be no more than are left
unfoldable pub read_label_count : ℕ → ℕ → ℕ → ℕ → Text → Read ℕ
read_label_count row segment rung left bytes = do
  count ← read_line row (layer_line segment rung) bytes
  value_if row (nat_le count.0.0 left) (count.0.0, count.1)

-- the chain of a segment and rung, whose labels have so many names each
unfoldable pub read_chain : ℕ → ℕ → ℕ → Place → Walks ChainParts
read_chain per segment rung p = do
  count ← read_label_count p.row segment rung p.left p.rest
  chain ← read_labels (p.row + 1) per count.0 count.1
  Ok (chain.0, record { row = p.row + 1 + count.0; left = p.left - count.0; rest = chain.1 })

-- so many chains from the one with this number on
unfoldable pub read_chains : ℕ → ℕ → ℕ → ℕ → Place → Walks (List ChainParts)
read_chains segments rungs number zero p = Ok ([], p)
read_chains segments rungs number (suc more) p = do
  chain ← read_chain (names_per segments rungs (number / rungs)) (number / rungs) (number % rungs) p
  others ← read_chains segments rungs (number + 1) more chain.1
  Ok (chain.0 ∷ others.0, others.1)

-- ---- the whole

-- the bytes behind the last line: there are none
abbrev pub read_nothing : ℕ → Text → Result (Unit {0}) Refusal
read_nothing row [] = Ok tt
read_nothing row (b ∷ bytes) = Err (line_refusal row)

-- the last line, which has this number
unfoldable pub read_last : ℕ → Text → Result (Unit {0}) Refusal
read_last row bytes = do
  rest ← read_line row end_line bytes
  read_nothing (row + 1) rest.1

-- the last line, where a reader stands
abbrev pub read_end : Place → Result (Unit {0}) Refusal
read_end p = read_last p.row p.rest

-- the certificate that the bytes spell behind so many lines of a heading, or the first bad line, counted with these
unfoldable pub certificate_behind : ℕ → Text → Result CertificateParts Refusal
certificate_behind heading bytes = do
  head ← read_head heading bytes
  chains ← read_chains head.0.segments head.0.rungs 0 (head.0.segments * head.0.rungs) head.1
  done ← read_end chains.1
  Ok (record head.0 { chains = chains.0 })

-- the certificate that the bytes spell, or the first bad line
abbrev pub certificate_of : Text → Result CertificateParts Refusal
certificate_of bytes = certificate_behind 0 bytes

-- ---- gap certificates

-- how many lines stand before the certificate in a gap certificate
abbrev pub gap_heading : ℕ
gap_heading = 2

-- these lines: the bound
unfoldable pub read_bound : Text → Read ℤ
read_bound bytes = do
  gap ← read_line 1 gap_line bytes
  bound ← read_line 2 gap_bound_line gap.1
  Ok (bound.0.0, bound.1)

-- the gap certificate that the bytes spell, or the first bad line over the whole text
unfoldable pub gap_of : Text → Result GapParts Refusal
gap_of bytes = do
  bound ← read_bound bytes
  inner ← certificate_behind gap_heading bound.1
  Ok (record { bound = bound.0; inner = inner })
