-- How long the text of a certificate may be.
use Rattle.std.proofs.Common.{◌≡◌, ◌+◌, ◌*◌, ◌/◌, ◌%◌, ◌^◌, ◌<◌, ◌≤◌, ◌++◌, ◌==◌, ℕ, suc, List, [], ◌∷◌, Bool, true, false, codes, drop, length, length-append, map, take, ap, arith, if◌then◌else◌, lit≤}
use Rattle.std.specs.Prelude.{ℤ, pos, negsuc}
use Rattle.std.specs.List.{All}
use Rattle.std.specs.Fmt.{decimal, signed_decimal}
use Rattle.std.proofs.lemmas.Fmt.{length-decimal-le_wide}
use Rattle.std.proofs.lemmas.Int.{ints}
use Rattle.std.proofs.lemmas.List.{length-take}
use Rattle.std.proofs.lemmas.List.Elements.{All-drop, All-head, All-tail, All-take}
use Rattle.std.proofs.Math.Nat.{div-le_self, mod-lt, pow-le-pow_right}
use Rattle.lab_model.specs.declared.label.Label.{Label}
use Rattle.lab_io.specs.Sink.{Text}
use Rattle.lab_io.specs.Piece.{fields_line, later_fields}
use Rattle.labels.specs.Parts.{CertificateParts, ChainParts}
use Rattle.certificate_text.specs.Form.{GapParts, IsGapCertificate}
use Rattle.labels.specs.Form.{HasDigits, HasSignedDigits, AreChains, IsCertificate, IsHead, IsSpelled, label_count, names_per}
use Rattle.certificate_text.specs.Line.{fields_of}
use Rattle.certificate_text.specs.Grammar.{end_line, gap_bound_line, gap_line, plan_line, rungs_line, score_line, segments_line, start_line}
use Rattle.certificate_text.specs.Spelling.{chain_lines, chains_lines, gap_lines, gap_spelling, head_lines, label_fields, label_lines, layer_fields, lines_text, spelling, table_lines, version_fields, version_number}
use Rattle.certificate_text.proofs.Texts.{spelling_parts}

-- the most bytes of a certificate's text that a program has to take
abbrev pub most_bytes : ℕ
most_bytes = 536870912

-- ---- numbers

-- a number of so many digits is no longer
pub digits_short : (k n : ℕ) → 1 ≤ k → k ≤ 24 → HasDigits k n → length (decimal n) ≤ k
digits_short k n some few low = length-decimal-le_wide k n some low (wide k few low)
  where
    wide : (k : ℕ) → k ≤ 24 → n < 10 ^ k → n < 10 ^ 64
    wide k few low = let more : 10 ^ k ≤ 10 ^ 64 = pow-le-pow_right (omega arith) {i = k} {j = 64} (omega (arith, few)) in omega (arith, low, more)

-- the same behind a sign
pub signed_short : (k : ℕ) (z : ℤ) → 1 ≤ k → k ≤ 24 → HasSignedDigits k z → length (signed_decimal z) ≤ k + 1
signed_short k (pos n) some few h = let low : n < 10 ^ k = grind (arith, ints, h.1) in let l = digits_short k n some few low in omega (arith, l)
signed_short k (negsuc n) some few h = let low : suc n < 10 ^ k = grind (arith, ints, h.0) in let l = digits_short k (suc n) some few low in omega (arith, l)

-- ---- lines

-- a field that follows takes a space and its bytes
pub one_field : (f : Text) (fs : List Text) → length (later_fields (f ∷ fs)) ≡ 1 + length f + length (later_fields fs)
one_field f fs = let e = length-append f (later_fields fs) in omega (arith, e)

-- the first field takes its bytes
pub first_field : (f : Text) (fs : List Text) → length (fields_line (f ∷ fs)) ≡ length f + length (later_fields fs)
first_field f fs = length-append f (later_fields fs)

numbers_short : (k : ℕ) (ns : List ℕ) → 1 ≤ k → k ≤ 24 → All (HasDigits k) ns → length (later_fields (map decimal ns)) ≤ 1 + length ns * (k + 1)
numbers_short k [] some few h = omega arith
numbers_short k (n ∷ ns) some few h =
    let own = digits_short k n some few (All-head (HasDigits k) n ns h) in
    let rest = numbers_short k ns some few (All-tail (HasDigits k) n ns h) in
    let e = one_field (decimal n) (map decimal ns) in
    omega (arith, own, rest, e)

-- a line more
pub lines_more : (l : List Text) (ls : List (List Text)) → length (lines_text (l ∷ ls)) ≡ length (fields_line l) + length (lines_text ls)
lines_more l ls = length-append (fields_line l) (lines_text ls)

-- lines and those behind them
pub lines_both : (ls ms : List (List Text)) → length (lines_text (ls ++ ms)) ≡ length (lines_text ls) + length (lines_text ms)
lines_both [] ms = omega arith
lines_both (l ∷ ls) ms =
    let one = lines_more l (ls ++ ms) in
    let own = lines_more l ls in
    let rest = lines_both ls ms in
    omega (arith, one, own, rest)

-- ---- labels

label_short : (l : Label) (names : List ℕ) → IsSpelled l → length names ≤ 16 → All (HasDigits 7) names → length (fields_line (label_fields l names)) ≤ 186
label_short l names h few digits =
    let t = digits_short 18 l.t (omega arith) (omega arith) h.t in
    let p = digits_short 18 l.p (omega arith) (omega arith) h.p in
    let v = signed_short 18 l.v (omega arith) (omega arith) h.v in
    let ns = numbers_short 7 names (omega arith) (omega arith) digits in
    let a = first_field (decimal l.t) (decimal l.p ∷ signed_decimal l.v ∷ map decimal names) in
    let b = one_field (decimal l.p) (signed_decimal l.v ∷ map decimal names) in
    let c = one_field (signed_decimal l.v) (map decimal names) in
    omega (arith, t, p, v, ns, a, b, c, few)

labels_short : (per : ℕ) (ls : List Label) (names : List ℕ) → per ≤ 16 → All IsSpelled ls → All (HasDigits 7) names → length (lines_text (label_lines per ls names)) ≤ length ls * 186
labels_short per [] names few spelled digits = omega arith
labels_short per (l ∷ ls) names few spelled digits =
    let count = length-take per names in
    let own = label_short l (take per names) (All-head IsSpelled l ls spelled) (omega (arith, count, few)) (All-take (HasDigits 7) per names digits) in
    let rest = labels_short per ls (drop per names) few (All-tail IsSpelled l ls spelled) (All-drop (HasDigits 7) per names digits) in
    let e = lines_more (label_fields l (take per names)) (label_lines per ls (drop per names)) in
    omega (arith, own, rest, e)

-- ---- chains

layer_short : (segment rung count : ℕ) → HasDigits 7 segment → HasDigits 7 rung → HasDigits 7 count → length (fields_line (layer_fields segment rung count)) ≤ 30
layer_short segment rung count s r n =
    let x = digits_short 7 segment (omega arith) (omega arith) s in
    let y = digits_short 7 rung (omega arith) (omega arith) r in
    let z = digits_short 7 count (omega arith) (omega arith) n in
    let a = first_field (codes "layer") (decimal segment ∷ decimal rung ∷ decimal count ∷ []) in
    let b = one_field (decimal segment) (decimal rung ∷ decimal count ∷ []) in
    let c = one_field (decimal rung) (decimal count ∷ []) in
    let d = one_field (decimal count) [] in
    omega (arith, x, y, z, a, b, c, d)

names_few : (segments rungs i : ℕ) → rungs ≤ 16 → names_per segments rungs i ≤ 16
names_few segments rungs i few = by_last (i + 1 == segments)
  where
    by_last : (b : Bool) → (if b then 0 else rungs) ≤ 16
    by_last true = omega arith
    by_last false = few

chains_short : (segments rungs number : ℕ) (cs : List ChainParts) → 1 ≤ rungs → rungs ≤ 16 → number + length cs ≤ 32000 → AreChains segments rungs number cs → label_count cs ≤ 1000000
    → length (lines_text (chains_lines segments rungs number cs)) ≤ length cs * 30 + label_count cs * 186
chains_short segments rungs number [] some few far form fits = omega arith
chains_short segments rungs number (c ∷ cs) some few far form fits =
    let i = number / rungs in
    let q = number % rungs in
    let per = names_per segments rungs i in
    let up = div-le_self number rungs in
    let low = mod-lt number {m = rungs} some in
    let layer = layer_short i q (length c.labels) (omega (arith, up, far)) (omega (arith, low, few)) (omega (arith, fits)) in
    let labels = labels_short per c.labels c.names (names_few segments rungs i few) form.0.labels form.0.names in
    let rest = chains_short segments rungs (number + 1) cs some few (omega (arith, far)) form.1 (omega (arith, fits)) in
    let own = lines_more (layer_fields i q (length c.labels)) (label_lines per c.labels c.names) in
    let both = lines_both (chain_lines per i q c) (chains_lines segments rungs (number + 1) cs) in
    omega (arith, layer, labels, rest, own, both)

-- ---- the whole

version_short : (table : Bool) → length (fields_line (version_fields table)) ≤ 27
version_short table =
    let d = digits_short 7 (version_number table) (omega arith) (omega arith) (low table) in
    let a = first_field (codes "abrlab") (codes "certificate" ∷ decimal (version_number table) ∷ []) in
    let b = one_field (codes "certificate") (decimal (version_number table) ∷ []) in
    let e = one_field (decimal (version_number table)) [] in
    omega (arith, d, a, b, e)
  where
    low : (table : Bool) → HasDigits 7 (version_number table)
    low true = lit≤ tt
    low false = lit≤ tt

table_short : (table : Bool) → length (lines_text (table_lines table)) ≤ 16
table_short true = omega arith
table_short false = omega arith

-- the line of a count
pub count_short : (word : Text) (n : ℕ) → HasDigits 7 n → length (fields_line (word ∷ decimal n ∷ [])) ≤ length word + 9
count_short word n h =
    let d = digits_short 7 n (omega arith) (omega arith) h in
    let a = first_field word (decimal n ∷ []) in
    let b = one_field (decimal n) [] in
    omega (arith, d, a, b)

-- the line of a score
pub score_short : (z : ℤ) → HasSignedDigits 24 z → length (fields_line (codes "score" ∷ signed_decimal z ∷ [])) ≤ 32
score_short z h =
    let d = signed_short 24 z (omega arith) (omega arith) h in
    let a = first_field (codes "score") (signed_decimal z ∷ []) in
    let b = one_field (signed_decimal z) [] in
    omega (arith, d, a, b)

-- the line of a list of numbers
pub list_short : (word : Text) (k : ℕ) (ns : List ℕ) → 1 ≤ k → k ≤ 24 → All (HasDigits k) ns → length (fields_line (word ∷ map decimal ns)) ≤ length word + 1 + length ns * (k + 1)
list_short word k ns some few h =
    let d = numbers_short k ns some few h in
    let a = first_field word (map decimal ns) in
    omega (arith, d, a)

head_short : (c : CertificateParts) → IsHead c → length (lines_text (head_lines c)) ≤ 7000
head_short c h =
    let segments = fields_of segments_line (c.segments, tt) in
    let rungs = fields_of rungs_line (c.rungs, tt) in
    let counts = version_fields c.table ∷ segments ∷ rungs ∷ [] in
    let score = fields_of score_line (c.score, tt) in
    let plan = fields_of (plan_line c.segments) c.plan in
    let starts = fields_of (start_line c.rungs) c.starts in
    let many = h.segments.1 in
    let high = h.rungs.1 in
    let long = h.plan.0 in
    let wide = h.starts.0 in
    let a = version_short c.table in
    let b = count_short (codes "segments") c.segments (omega (arith, many)) in
    let d = count_short (codes "rungs") c.rungs (omega (arith, high)) in
    let e = table_short c.table in
    let f = score_short c.score h.score in
    let p = list_short (codes "plan") 2 c.plan (omega arith) (omega arith) h.plan.1 in
    let s = list_short (codes "start") 7 c.starts (omega arith) (omega arith) h.starts.1 in
    let one = lines_both counts (table_lines c.table ++ (score ∷ plan ∷ starts ∷ [])) in
    let two = lines_both (table_lines c.table) (score ∷ plan ∷ starts ∷ []) in
    let x = lines_more (version_fields c.table) (segments ∷ rungs ∷ []) in
    let y = lines_more segments (rungs ∷ []) in
    let z = lines_more rungs [] in
    let u = lines_more score (plan ∷ starts ∷ []) in
    let v = lines_more plan (starts ∷ []) in
    let w = lines_more starts [] in
    omega (arith, many, high, long, wide, a, b, d, e, f, p, s, one, two, x, y, z, u, v, w)

-- the text of a certificate is well within that
spelling_short : (c : CertificateParts) → IsCertificate c → length (spelling c) ≤ 500000000
spelling_short c form =
    let head = lines_text (head_lines c) in
    let chains = lines_text (chains_lines c.segments c.rungs 0 c.chains) in
    let few = at_most c.segments c.rungs form.head.segments.1 form.head.rungs.1 in
    let count = form.count in
    let a = head_short c form.head in
    let b = chains_short c.segments c.rungs 0 c.chains form.head.rungs.0 form.head.rungs.1 (omega (arith, count, few)) form.chains form.labels in
    let whole = ap length (spelling_parts c) in
    let one = length-append head (chains ++ fields_line (fields_of end_line tt)) in
    let two = length-append chains (fields_line (fields_of end_line tt)) in
    let labels = form.labels in
    omega (arith, few, count, a, b, whole, one, two, labels)
  where
    at_most : (n r : ℕ) → n ≤ 2000 → r ≤ 16 → n * r ≤ 32000
    at_most n r a b = grind (arith, a, b)

-- so the text of a certificate is within that
pub spelling_fits : (c : CertificateParts) → IsCertificate c → length (spelling c) ≤ most_bytes
spelling_fits c form = let l = spelling_short c form in omega (arith, l)

-- the line of a bound
pub bound_short : (z : ℤ) → HasSignedDigits 24 z → length (fields_line (fields_of gap_bound_line (z, tt))) ≤ 32
bound_short z h =
    let d = signed_short 24 z (omega arith) (omega arith) h in
    let a = first_field (codes "bound") (signed_decimal z ∷ []) in
    let b = one_field (signed_decimal z) [] in
    omega (arith, d, a, b)

-- and so is that of a gap certificate
pub gap_fits : (c : GapParts) → IsGapCertificate c → length (gap_spelling c) ≤ most_bytes
gap_fits c form =
    let bound = fields_of gap_bound_line (c.bound, tt) in
    let l = spelling_short c.inner form.inner in
    let b = bound_short c.bound form.bound in
    let whole = length-append (lines_text (gap_lines c.bound)) (spelling c.inner) in
    let x = lines_more (fields_of gap_line tt) (bound ∷ []) in
    let y = lines_more bound [] in
    let first : length (fields_line (fields_of gap_line tt)) ≤ 27 = gap_short in
    omega (arith, l, b, whole, x, y, first)
  where
    gap_short : length (fields_line (fields_of gap_line tt)) ≤ 27
    gap_short =
        let d = digits_short 7 1 (omega arith) (omega arith) (lit≤ tt) in
        let a = first_field (codes "abrlab") (codes "gap" ∷ decimal 1 ∷ []) in
        let e = one_field (codes "gap") (decimal 1 ∷ []) in
        let f = one_field (decimal 1) [] in
        omega (arith, d, a, e, f)
