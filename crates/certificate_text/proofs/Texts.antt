-- The text of a certificate, part by part, and how the writer's loops go through it.
use Rattle.std.proofs.Common.{◌≡◌, ◌∙◌, ◌+◌, ◌/◌, ◌%◌, ◌<◌, ◌≤◌, ℕ, List, [], ◌∷◌, ◌++◌, Bool, drop, get_or, length, map, take, refl, sym, ap, suc, add-one, append_assoc, append-nil, drop-cons}
use Rattle.std.specs.Fmt.{decimal}
use Rattle.std.proofs.lemmas.List.{drop_all}
use Rattle.std.proofs.lemmas.List.Concat.{flat_map-append}
use Rattle.lab_model.specs.declared.label.Label.{Label}
use Rattle.lab_io.specs.Sink.{Text}
use Rattle.lab_io.specs.Piece.{fields_line, later_fields}
use Rattle.labels.specs.declared.plans.Chain.{Chain}
use Rattle.labels.specs.Parts.{CertificateParts, ChainParts, chain_parts}
use Rattle.labels.specs.Form.{names_per}
use Rattle.certificate_text.specs.Line.{fields_of}
use Rattle.certificate_text.specs.Grammar.{end_line, plan_line, rungs_line, score_line, segments_line, start_line}
use Rattle.certificate_text.specs.Spelling.{chain_lines, chains_lines, head_lines, label_fields, label_lines, lines_text, spelling, table_lines, version_fields}

-- ---- the parts

-- the first lines
abbrev pub counts_text : Bool → ℕ → ℕ → Text
counts_text table segments rungs =
    fields_line (version_fields table)
    ++ (fields_line (fields_of segments_line (segments, tt))
    ++ (fields_line (fields_of rungs_line (rungs, tt)) ++ lines_text (table_lines table)))

-- score, rung list and starts
abbrev pub lists_text : CertificateParts → Text
lists_text c =
    fields_line (fields_of score_line (c.score, tt))
    ++ (fields_line (fields_of (plan_line c.segments) c.plan) ++ fields_line (fields_of (start_line c.rungs) c.starts))

-- the text of the head in two parts
pub head_text : (c : CertificateParts) → lines_text (head_lines c) ≡ counts_text c.table c.segments c.rungs ++ lists_text c
head_text c =
    let version = fields_line (version_fields c.table) in
    let segments = fields_line (fields_of segments_line (c.segments, tt)) in
    let rungs = fields_line (fields_of rungs_line (c.rungs, tt)) in
    let table = lines_text (table_lines c.table) in
    let later : List (List Text) = fields_of score_line (c.score, tt) ∷ fields_of (plan_line c.segments) c.plan ∷ fields_of (start_line c.rungs) c.starts ∷ [] in
    let last : lines_text later ≡ lists_text c = ap (λ (t : Text). fields_line (fields_of score_line (c.score, tt)) ++ (fields_line (fields_of (plan_line c.segments) c.plan) ++ t)) (append-nil (fields_line (fields_of (start_line c.rungs) c.starts))) in
    let parted : lines_text (table_lines c.table ++ later) ≡ table ++ lists_text c = flat_map-append fields_line (table_lines c.table) later ∙ ap (λ (t : Text). table ++ t) last in
    ap (λ (t : Text). version ++ (segments ++ (rungs ++ t))) parted
    ∙ sym (append_assoc version (segments ++ (rungs ++ table)) (lists_text c)
    ∙ ap (λ (t : Text). version ++ t) (append_assoc segments (rungs ++ table) (lists_text c) ∙ ap (λ (t : Text). segments ++ t) (append_assoc rungs table (lists_text c))))

-- a spelling in its parts
pub spelling_parts : (c : CertificateParts) → spelling c ≡ lines_text (head_lines c) ++ (lines_text (chains_lines c.segments c.rungs 0 c.chains) ++ fields_line (fields_of end_line tt))
unfolding spelling
spelling_parts c =
    let chains = chains_lines c.segments c.rungs 0 c.chains in
    let last : List (List Text) = fields_of end_line tt ∷ [] in
    flat_map-append fields_line (head_lines c) (chains ++ last)
    ∙ ap (λ (t : Text). lines_text (head_lines c) ++ t) (flat_map-append fields_line chains last)

-- ---- the loops

-- the text of the numbers from one on
pub numbers_from : (ns : List ℕ) (i d : ℕ) → i < length ns → later_fields (map decimal (drop i ns)) ≡ (32 ∷ decimal (get_or ns i d)) ++ later_fields (map decimal (drop (i + 1) ns))
numbers_from ns i d lt = rw (add-one, drop-cons ns i d) refl

-- behind the last number the line ends
pub numbers_end : (ns : List ℕ) (i : ℕ) → length ns ≤ i → later_fields (map decimal (drop i ns)) ≡ 10 ∷ []
numbers_end ns i h = rw (drop_all i ns h) refl

-- the text of the labels from one on
pub labels_from : (per : ℕ) (ls : List Label) (names : List ℕ) (i : ℕ) (d : Label) → i < length ls
    → lines_text (label_lines per (drop i ls) names) ≡ fields_line (label_fields (get_or ls i d) (take per names)) ++ lines_text (label_lines per (drop (i + 1) ls) (drop per names))
labels_from per ls names i d lt = rw (add-one, drop-cons ls i d) refl

-- behind the last label is nothing
pub labels_end : (per : ℕ) (ls : List Label) (names : List ℕ) (i : ℕ) → length ls ≤ i → lines_text (label_lines per (drop i ls) names) ≡ []
labels_end per ls names i h = rw (drop_all i ls h) refl

chains_cut : (cs : List Chain) (i : ℕ) (c : Chain) → i < length cs → c ≡ get_or cs i c → drop i cs ≡ c ∷ drop (i + 1) cs
chains_cut cs i c lt is = rw add-one (drop-cons cs i c lt ∙ ap (λ (d : Chain). d ∷ drop (suc i) cs) (sym is))

-- the text of the chains from one on
pub chains_from : (segments rungs per : ℕ) (cs : List Chain) (i : ℕ) (c : Chain) → i < length cs → c ≡ get_or cs i c → per ≡ names_per segments rungs (i / rungs)
    → lines_text (chain_lines per (i / rungs) (i % rungs) (chain_parts c)) ++ lines_text (chains_lines segments rungs (i + 1) (map chain_parts (drop (i + 1) cs)))
    ≡ lines_text (chains_lines segments rungs i (map chain_parts (drop i cs)))
chains_from segments rungs per cs i c lt is e =
    let later = chains_lines segments rungs (i + 1) (map chain_parts (drop (i + 1) cs)) in
    let cut : chain_parts c ∷ map chain_parts (drop (i + 1) cs) ≡ map chain_parts (drop i cs) = sym (ap (map chain_parts) (chains_cut cs i c lt is)) in
    ap (λ (n : ℕ). lines_text (chain_lines n (i / rungs) (i % rungs) (chain_parts c)) ++ lines_text later) e
    ∙ sym (flat_map-append fields_line (chain_lines (names_per segments rungs (i / rungs)) (i / rungs) (i % rungs) (chain_parts c)) later)
    ∙ ap (λ (rest : List ChainParts). lines_text (chains_lines segments rungs i rest)) cut

-- behind the last chain is nothing
pub chains_end : (segments rungs : ℕ) (cs : List Chain) (i : ℕ) → length cs ≤ i → lines_text (chains_lines segments rungs i (map chain_parts (drop i cs))) ≡ []
chains_end segments rungs cs i h = rw (drop_all i cs h) refl
