-- The lines before the chains: what is read is of the form and spelled so, and what is of the form is read from its spelling.
use Rattle.std.proofs.Common.{◌≡◌, ◌∙◌, ◌+◌, ◌*◌, ◌≤◌, ◌==◌, ◌++◌, ℕ, zero, suc, List, [], ◌∷◌, Bool, true, false, Result, Ok, Err, codes, length, refl, sym, ap, subst, ℤ, append_assoc, append-nil, arith, lit≤}
use Rattle.std.specs.Prelude.{IfOk}
use Rattle.lab_model.proofs.Steps.{then_ok}
use Rattle.lab_model.specs.Steps.{◌>>=◌}
use Rattle.lab_model.specs.declared.fault.InputFault.{InputFault}
use Rattle.lab_model.specs.Reading.{Gives}
use Rattle.lab_model.specs.Film.{IsWithin}
use Rattle.lab_io.specs.Sink.{Text}
use Rattle.lab_io.specs.Piece.{fields_line}
use Rattle.labels.specs.Parts.{CertificateParts}
use Rattle.certificate_text.specs.declared.certificate.Certificate.{Certificate}
use Rattle.labels.specs.Form.{place_digits, most_labels, rung_digits, IsCertificate, IsHead}
use Rattle.certificate_text.specs.Line.{Holds, fields_of, read_line}
use Rattle.certificate_text.specs.Grammar.{end_line, list_line, plan_line, rungs_line, score_line, segments_line, start_line, table_line, version_line}
use Rattle.certificate_text.specs.Form.{certificate_parts}
use Rattle.certificate_text.specs.Reading.{Counts, Place, certificate_behind, certificate_of, read_chains, read_counts, read_end, read_head, read_last, read_nothing, read_table, read_version, score_row}
use Rattle.certificate_text.specs.Walk.{without_chains}
use Rattle.certificate_text.specs.Spelling.{chains_lines, head_lines, lines_text, spelling, table_lines, version_fields, version_number}
use Rattle.certificate_text.proofs.Loops.{ok_is}
use Rattle.certificate_text.proofs.FieldLaws.{is_free}
use Rattle.certificate_text.proofs.LineLaws.{IsSpellable, line_again, line_takes}
use Rattle.certificate_text.proofs.CertificateLaws.{chains_again, chains_take}
use Rattle.certificate_text.proofs.Texts.{counts_text, head_text, lists_text, spelling_parts}

-- ---- the lines

word_and_numbers : (text : Text) (count digits : ℕ) → is_free 32 text ≡ true → 1 ≤ count → (1 ≤ digits) × (digits ≤ 64) → IsSpellable (list_line text count digits)
word_and_numbers text zero digits free some short = absurd (omega arith)
word_and_numbers text (suc more) digits free some short = (free, short)

short_number : (1 ≤ place_digits) × (place_digits ≤ 64)
short_number = (lit≤ tt, lit≤ tt)

can_version : IsSpellable version_line
can_version = (refl, (refl, (lit≤ tt, tt)))

-- the counts have lines
pub can_segments : IsSpellable segments_line
can_segments = (refl, (lit≤ tt, tt))

pub can_rungs : IsSpellable rungs_line
can_rungs = (refl, (lit≤ tt, tt))

can_table : IsSpellable table_line
can_table = (refl, (refl, tt))

-- the score has a line
pub can_score : IsSpellable score_line
can_score = (refl, ((lit≤ tt, lit≤ tt), tt))

can_end : IsSpellable end_line
can_end = (refl, tt)

-- a rung list has a line
pub can_plan : (segments : ℕ) → 1 ≤ segments → IsSpellable (plan_line segments)
can_plan segments some = word_and_numbers (codes "plan") segments rung_digits refl some (lit≤ tt, lit≤ tt)

can_start : (rungs : ℕ) → 1 ≤ rungs → IsSpellable (start_line rungs)
can_start rungs some = word_and_numbers (codes "start") rungs place_digits refl some short_number

-- ---- the first line

one_or_two : (n : ℕ) → IsWithin 1 2 n → n ≡ version_number (n == 2)
one_or_two zero h = absurd (omega (arith, h.0))
one_or_two (suc zero) h = refl
one_or_two (suc (suc zero)) h = refl
one_or_two (suc (suc (suc n))) h = absurd (omega (arith, h.1))

version_takes : (row : ℕ) (bytes : Text) (x : Bool × Text) → read_version row bytes ≡ Ok x → bytes ≡ fields_line (version_fields x.0) ++ x.1
unfolding read_version
version_takes row bytes x h =
    let v = then_ok (read_line row version_line bytes) (λ version. Ok (version.0.0 == 2, version.1)) x h in
    let t = line_takes row version_line bytes v.0 can_version (lit≤ tt) v.1 in
    let number : v.0.0.0 ≡ version_number (v.0.0.0 == 2) = one_or_two v.0.0.0 t.holds.0 in
    subst (λ (y : Bool × Text). bytes ≡ fields_line (version_fields y.0) ++ y.1) (ok_is (v.0.0.0 == 2, v.0.1) x v.2)
    (t.text ∙ ap (λ (n : ℕ). fields_line (fields_of version_line (n, tt)) ++ v.0.1) number)

version_again : (row : ℕ) (t : Bool) (rest : Text) → read_version row (fields_line (version_fields t) ++ rest) ≡ Ok (t, rest)
unfolding read_version
version_again row true rest = rw (line_again row version_line (2, tt) rest can_version (lit≤ tt) ((lit≤ tt, lit≤ tt), tt)) refl
version_again row false rest = rw (line_again row version_line (1, tt) rest can_version (lit≤ tt) ((lit≤ tt, lit≤ tt), tt)) refl

-- ---- the line of version 2

table_takes : (row : ℕ) (t : Bool) (bytes : Text) (x : Unit {0} × Text) → read_table row t bytes ≡ Ok x → bytes ≡ lines_text (table_lines t) ++ x.1
unfolding read_table
table_takes row true bytes x h =
    (line_takes row table_line bytes x can_table (lit≤ tt) h).text ∙ ap (λ (w : Text). w ++ x.1) (sym (append-nil (fields_line (fields_of table_line tt))))
table_takes row false bytes x h = ap (λ (y : Unit {0} × Text). y.1) (ok_is (tt, bytes) x h)

table_again : (row : ℕ) (t : Bool) (rest : Text) → read_table row t (lines_text (table_lines t) ++ rest) ≡ Ok (tt, rest)
unfolding read_table
table_again row true rest =
    ap (λ (w : Text). read_line row table_line (w ++ rest)) (append-nil (fields_line (fields_of table_line tt))) ∙ line_again row table_line tt rest can_table (lit≤ tt) tt
table_again row false rest = refl

-- ---- version and counts

-- version and counts
abbrev counts : Bool → ℕ → ℕ → Counts
counts table segments rungs = record { table = table; segments = segments; rungs = rungs }

counts_line : (t : Bool) (n r : ℕ) (rest : Text) → counts_text t n r ++ rest
    ≡ fields_line (version_fields t) ++ (fields_line (fields_of segments_line (n, tt)) ++ (fields_line (fields_of rungs_line (r, tt)) ++ (lines_text (table_lines t) ++ rest)))
counts_line t n r rest =
    let version = fields_line (version_fields t) in
    let segments = fields_line (fields_of segments_line (n, tt)) in
    let rungs = fields_line (fields_of rungs_line (r, tt)) in
    let table = lines_text (table_lines t) in
    append_assoc version (segments ++ (rungs ++ table)) rest
    ∙ ap (λ (w : Text). version ++ w) (append_assoc segments (rungs ++ table) rest ∙ ap (λ (w : Text). segments ++ w) (append_assoc rungs table rest))

-- what was read as version and counts
record TakesCounts (bytes : Text) (x : Counts × Text) : Type 0 where
  text : bytes ≡ counts_text x.0.table x.0.segments x.0.rungs ++ x.1
  segments : Holds segments_line (x.0.segments, tt)
  rungs : Holds rungs_line (x.0.rungs, tt)

counts_take : (heading : ℕ) (bytes : Text) (x : Counts × Text) → read_counts heading bytes ≡ Ok x → TakesCounts bytes x
unfolding read_counts
counts_take heading bytes x h =
    let v = then_ok (read_version (heading + 1) bytes) (λ table. read_line (heading + 2) segments_line table.1 >>= λ segments. read_line (heading + 3) rungs_line segments.1 >>= λ rungs. read_table (heading + 4) table.0 rungs.1 >>= λ rest. Ok (counts table.0 segments.0.0 rungs.0.0, rest.1)) x h in
    let n = then_ok (read_line (heading + 2) segments_line v.0.1) (λ segments. read_line (heading + 3) rungs_line segments.1 >>= λ rungs. read_table (heading + 4) v.0.0 rungs.1 >>= λ rest. Ok (counts v.0.0 segments.0.0 rungs.0.0, rest.1)) x v.2 in
    let r = then_ok (read_line (heading + 3) rungs_line n.0.1) (λ rungs. read_table (heading + 4) v.0.0 rungs.1 >>= λ rest. Ok (counts v.0.0 n.0.0.0 rungs.0.0, rest.1)) x n.2 in
    let t = then_ok (read_table (heading + 4) v.0.0 r.0.1) (λ rest. Ok (counts v.0.0 n.0.0.0 r.0.0.0, rest.1)) x r.2 in
    let tv = version_takes (heading + 1) bytes v.0 v.1 in
    let tn = line_takes (heading + 2) segments_line v.0.1 n.0 can_segments (lit≤ tt) n.1 in
    let tr = line_takes (heading + 3) rungs_line n.0.1 r.0 can_rungs (lit≤ tt) r.1 in
    let tb = table_takes (heading + 4) v.0.0 r.0.1 t.0 t.1 in
    subst (λ (y : Counts × Text). TakesCounts bytes y) (ok_is (counts v.0.0 n.0.0.0 r.0.0.0, t.0.1) x t.2) (record {
      text = tv ∙ ap (λ (w : Text). fields_line (version_fields v.0.0) ++ w) (tn.text
          ∙ ap (λ (w : Text). fields_line (fields_of segments_line n.0.0) ++ w) (tr.text
          ∙ ap (λ (w : Text). fields_line (fields_of rungs_line r.0.0) ++ w) tb))
          ∙ sym (counts_line v.0.0 n.0.0.0 r.0.0.0 t.0.1);
      segments = tn.holds;
      rungs = tr.holds;
    })

counts_again : (heading : ℕ) (t : Bool) (n r : ℕ) (rest : Text) → Holds segments_line (n, tt) → Holds rungs_line (r, tt) → read_counts heading (counts_text t n r ++ rest) ≡ Ok (counts t n r, rest)
unfolding read_counts
counts_again heading t n r rest a b =
    ap (read_counts heading) (counts_line t n r rest)
    ∙ rw (
      version_again (heading + 1) t (fields_line (fields_of segments_line (n, tt)) ++ (fields_line (fields_of rungs_line (r, tt)) ++ (lines_text (table_lines t) ++ rest))),
      line_again (heading + 2) segments_line (n, tt) (fields_line (fields_of rungs_line (r, tt)) ++ (lines_text (table_lines t) ++ rest)) can_segments (lit≤ tt) a,
      line_again (heading + 3) rungs_line (r, tt) (lines_text (table_lines t) ++ rest) can_rungs (lit≤ tt) b,
      table_again (heading + 4) t rest,
    ) refl

-- ---- the head

-- the parts of a head
abbrev made_head : Counts → ℤ → List ℕ → List ℕ → CertificateParts
made_head counts score plan starts = record { table = counts.table; segments = counts.segments; rungs = counts.rungs; score = score; plan = plan; starts = starts; chains = [] }

-- where the chains begin
abbrev first_place : ℕ → Bool → Text → Place
first_place heading table rest = record { row = score_row heading table + 3; left = most_labels; rest = rest }

lists_line : (c : CertificateParts) (rest : Text) → lists_text c ++ rest
    ≡ fields_line (fields_of score_line (c.score, tt)) ++ (fields_line (fields_of (plan_line c.segments) c.plan) ++ (fields_line (fields_of (start_line c.rungs) c.starts) ++ rest))
lists_line c rest =
    append_assoc (fields_line (fields_of score_line (c.score, tt))) (fields_line (fields_of (plan_line c.segments) c.plan) ++ fields_line (fields_of (start_line c.rungs) c.starts)) rest
    ∙ ap (λ (w : Text). fields_line (fields_of score_line (c.score, tt)) ++ w) (append_assoc (fields_line (fields_of (plan_line c.segments) c.plan)) (fields_line (fields_of (start_line c.rungs) c.starts)) rest)

head_line : (c : CertificateParts) (rest : Text) → lines_text (head_lines c) ++ rest ≡ counts_text c.table c.segments c.rungs ++ (lists_text c ++ rest)
head_line c rest = ap (λ (w : Text). w ++ rest) (head_text c) ∙ append_assoc (counts_text c.table c.segments c.rungs) (lists_text c) rest

-- what was read before the chains
pub record TakesHead (bytes : Text) (x : CertificateParts × Place) : Type 0 where
  pub text : bytes ≡ lines_text (head_lines x.0) ++ x.1.rest
  pub head : IsHead x.0
  pub left : x.1.left ≡ most_labels
  pub none : x.0.chains ≡ []

-- a head that was read is of the form and spelled so
pub head_takes : (heading : ℕ) (bytes : Text) (x : CertificateParts × Place) → read_head heading bytes ≡ Ok x → TakesHead bytes x
unfolding read_head
head_takes heading bytes x h =
    let k = then_ok (read_counts heading bytes) (λ counts. read_line (score_row heading counts.0.table) score_line counts.1 >>= λ score. read_line (score_row heading counts.0.table + 1) (plan_line counts.0.segments) score.1 >>= λ plan. read_line (score_row heading counts.0.table + 2) (start_line counts.0.rungs) plan.1 >>= λ starts. Ok (made_head counts.0 score.0.0 plan.0 starts.0, first_place heading counts.0.table starts.1)) x h in
    let z = then_ok (read_line (score_row heading k.0.0.table) score_line k.0.1) (λ score. read_line (score_row heading k.0.0.table + 1) (plan_line k.0.0.segments) score.1 >>= λ plan. read_line (score_row heading k.0.0.table + 2) (start_line k.0.0.rungs) plan.1 >>= λ starts. Ok (made_head k.0.0 score.0.0 plan.0 starts.0, first_place heading k.0.0.table starts.1)) x k.2 in
    let p = then_ok (read_line (score_row heading k.0.0.table + 1) (plan_line k.0.0.segments) z.0.1) (λ plan. read_line (score_row heading k.0.0.table + 2) (start_line k.0.0.rungs) plan.1 >>= λ starts. Ok (made_head k.0.0 z.0.0.0 plan.0 starts.0, first_place heading k.0.0.table starts.1)) x z.2 in
    let s = then_ok (read_line (score_row heading k.0.0.table + 2) (start_line k.0.0.rungs) p.0.1) (λ starts. Ok (made_head k.0.0 z.0.0.0 p.0.0 starts.0, first_place heading k.0.0.table starts.1)) x p.2 in
    let tk = counts_take heading bytes k.0 k.1 in
    let tz = line_takes (score_row heading k.0.0.table) score_line k.0.1 z.0 can_score (lit≤ tt) z.1 in
    let tp = line_takes (score_row heading k.0.0.table + 1) (plan_line k.0.0.segments) z.0.1 p.0 (can_plan k.0.0.segments tk.segments.0.0) (omega arith) p.1 in
    let ts = line_takes (score_row heading k.0.0.table + 2) (start_line k.0.0.rungs) p.0.1 s.0 (can_start k.0.0.rungs tk.rungs.0.0) (omega arith) s.1 in
    let c = made_head k.0.0 z.0.0.0 p.0.0 s.0.0 in
    subst (λ (y : CertificateParts × Place). TakesHead bytes y) (ok_is (c, first_place heading k.0.0.table s.0.1) x s.2) (record {
      text = tk.text ∙ ap (λ (w : Text). counts_text k.0.0.table k.0.0.segments k.0.0.rungs ++ w) (tz.text
          ∙ ap (λ (w : Text). fields_line (fields_of score_line z.0.0) ++ w) (tp.text
          ∙ ap (λ (w : Text). fields_line (fields_of (plan_line k.0.0.segments) p.0.0) ++ w) ts.text)
          ∙ sym (lists_line c s.0.1))
          ∙ sym (head_line c s.0.1);
      head = record { segments = tk.segments.0; rungs = tk.rungs.0; score = tz.holds.0; plan = tp.holds; starts = ts.holds };
      left = refl;
      none = refl;
    })

-- a head of the form is read from its spelling
pub head_again : (heading : ℕ) (c : CertificateParts) (rest : Text) → IsHead c → read_head heading (lines_text (head_lines c) ++ rest) ≡ Ok (without_chains c, first_place heading c.table rest)
unfolding read_head
head_again heading c rest form =
    let plan = fields_line (fields_of (plan_line c.segments) c.plan) in
    let start = fields_line (fields_of (start_line c.rungs) c.starts) in
    ap (read_head heading) (head_line c rest)
    ∙ rw (
      counts_again heading c.table c.segments c.rungs (lists_text c ++ rest) (form.segments, tt) (form.rungs, tt),
      lists_line c rest,
      line_again (score_row heading c.table) score_line (c.score, tt) (plan ++ (start ++ rest)) can_score (lit≤ tt) (form.score, tt),
      line_again (score_row heading c.table + 1) (plan_line c.segments) c.plan (start ++ rest) (can_plan c.segments form.segments.0) (omega arith) form.plan,
      line_again (score_row heading c.table + 2) (start_line c.rungs) c.starts rest (can_start c.rungs form.rungs.0) (omega arith) form.starts,
    ) refl

-- ---- the end

nothing_takes : (row : ℕ) (bytes : Text) (u : Unit {0}) → read_nothing row bytes ≡ Ok u → bytes ≡ []
nothing_takes row [] u h = refl
nothing_takes row (b ∷ bytes) u h = absurd cc

-- the last line that was read is all that was left
pub last_takes : (row : ℕ) (bytes : Text) (u : Unit {0}) → read_last row bytes ≡ Ok u → bytes ≡ fields_line (fields_of end_line tt)
unfolding read_last
last_takes row bytes u h =
    let w = then_ok (read_line row end_line bytes) (λ rest. read_nothing (row + 1) rest.1) u h in
    (line_takes row end_line bytes w.0 can_end (lit≤ tt) w.1).text
    ∙ ap (λ (t : Text). fields_line (fields_of end_line tt) ++ t) (nothing_takes (row + 1) w.0.1 u w.2) ∙ append-nil (fields_line (fields_of end_line tt))

-- the last line is read where it is all that is left
pub last_again : (row : ℕ) → read_last row (fields_line (fields_of end_line tt)) ≡ Ok tt
unfolding read_last
last_again row =
    let text = fields_line (fields_of end_line tt) in
    let last : read_line row end_line text ≡ Ok (tt, []) = ap (read_line row end_line) (sym (append-nil text)) ∙ line_again row end_line tt [] can_end (lit≤ tt) tt in
    rw last refl

end_takes : (p : Place) (u : Unit {0}) → read_end p ≡ Ok u → p.rest ≡ fields_line (fields_of end_line tt)
end_takes p u h = last_takes p.row p.rest u h

end_again : (p : Place) → p.rest ≡ fields_line (fields_of end_line tt) → read_end p ≡ Ok tt
end_again p e = ap (read_last p.row) e ∙ last_again p.row

-- ---- the whole

-- what was read is of the form, and the bytes are its spelling
pub behind_takes : (heading : ℕ) (bytes : Text) (c : CertificateParts) → certificate_behind heading bytes ≡ Ok c → IsCertificate c × (bytes ≡ spelling c)
unfolding certificate_behind
behind_takes heading bytes c h =
    let a = then_ok (read_head heading bytes) (λ head. read_chains head.0.segments head.0.rungs 0 (head.0.segments * head.0.rungs) head.1 >>= λ chains. read_end chains.1 >>= λ done. Ok (record head.0 { chains = chains.0 })) c h in
    let b = then_ok (read_chains a.0.0.segments a.0.0.rungs 0 (a.0.0.segments * a.0.0.rungs) a.0.1) (λ chains. read_end chains.1 >>= λ done. Ok (record a.0.0 { chains = chains.0 })) c a.2 in
    let d = then_ok (read_end b.0.1) (λ done. Ok (record a.0.0 { chains = b.0.0 })) c b.2 in
    let ta = head_takes heading bytes a.0 a.1 in
    let tb = chains_take a.0.0.segments a.0.0.rungs 0 (a.0.0.segments * a.0.0.rungs) a.0.1 b.0 b.1 in
    let td = end_takes b.0.1 d.0 d.1 in
    let made : CertificateParts = record a.0.0 { chains = b.0.0 } in
    subst (λ (y : CertificateParts). IsCertificate y × (bytes ≡ spelling y)) (ok_is made c d.2) (
      record {
        head = record { segments = ta.head.segments; rungs = ta.head.rungs; score = ta.head.score; plan = ta.head.plan; starts = ta.head.starts };
        count = tb.count_is;
        chains = tb.chains;
        labels = omega (arith, tb.left, ta.left);
      },
      ta.text ∙ ap (λ (w : Text). lines_text (head_lines a.0.0) ++ w) (tb.text ∙ ap (λ (w : Text). lines_text (chains_lines a.0.0.segments a.0.0.rungs 0 b.0.0) ++ w) td) ∙ sym (spelling_parts made),
    )

-- the same without a heading
pub certificate_takes : (bytes : Text) (c : CertificateParts) → certificate_of bytes ≡ Ok c → IsCertificate c × (bytes ≡ spelling c)
certificate_takes bytes c h = behind_takes 0 bytes c h

-- what is of the form is read from its spelling
pub behind_again : (heading : ℕ) (c : CertificateParts) → IsCertificate c → certificate_behind heading (spelling c) ≡ Ok c
unfolding certificate_behind
behind_again heading c form =
    let later = lines_text (chains_lines c.segments c.rungs 0 c.chains) ++ fields_line (fields_of end_line tt) in
    let few = at_most c.segments c.rungs form.head.segments.1 form.head.rungs.1 in
    let far : length c.chains ≤ 32000 = omega (arith, form.count, few) in
    let q = chains_again c.segments c.rungs 0 c.chains (first_place heading c.table later) (fields_line (fields_of end_line tt)) form.head.rungs.0 form.head.rungs.1 (omega (arith, far)) refl form.chains form.labels (omega arith) in
    let chains : read_chains c.segments c.rungs 0 (c.segments * c.rungs) (first_place heading c.table later) ≡ Ok (c.chains, q.0) = subst (λ (k : ℕ). read_chains c.segments c.rungs 0 k (first_place heading c.table later) ≡ Ok (c.chains, q.0)) form.count q.1 in
    ap (certificate_behind heading) (spelling_parts c) ∙ rw (head_again heading c later form.head, chains, end_again q.0 q.2) refl
  where
    at_most : (n r : ℕ) → n ≤ 2000 → r ≤ 16 → n * r ≤ 32000
    at_most n r a b = grind (arith, a, b)

-- the same without a heading
pub certificate_again : (c : CertificateParts) → IsCertificate c → certificate_of (spelling c) ≡ Ok c
certificate_again c form = behind_again 0 c form

-- certificates of the form with equal spellings are equal
pub same_spelling : (c d : CertificateParts) → IsCertificate c → IsCertificate d → spelling c ≡ spelling d → c ≡ d
same_spelling c d form other e = ok_is c d (sym (certificate_again c form) ∙ ap certificate_of e ∙ certificate_again d other)

-- the same of what a call gave
pub is_found : (bytes : Text) (answer : Result Certificate InputFault) → Gives certificate_parts answer (certificate_of bytes)
    → IfOk answer (λ c. IsCertificate (certificate_parts c) × (bytes ≡ spelling (certificate_parts c)))
is_found bytes (Ok c) h = certificate_takes bytes (certificate_parts c) h
is_found bytes (Err fault) h = tt
