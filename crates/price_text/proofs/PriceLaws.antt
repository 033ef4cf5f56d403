-- Certificates by prices: what is read is of the form and spelled so, and what is of the form is read from its spelling.
use Rattle.std.proofs.Common.{◌≡◌, ◌∙◌, ◌+◌, ◌<◌, ◌^◌, ◌++◌, ℕ, ℤ, zero, suc, List, [], ◌∷◌, Result, Ok, Err, length, map, refl, sym, ap, subst, append_assoc, arith, lit<, lit≤}
use Rattle.std.specs.Prelude.{IfOk}
use Rattle.std.specs.List.{All}
use Rattle.std.proofs.lemmas.List.Elements.{All-cons, All-head, All-nil, All-tail}
use Rattle.lab_model.proofs.Steps.{then_ok}
use Rattle.lab_model.specs.Steps.{◌>>=◌}
use Rattle.lab_model.specs.declared.fault.InputFault.{InputFault}
use Rattle.lab_model.specs.Reading.{Gives}
use Rattle.lab_io.specs.Sink.{Text}
use Rattle.lab_io.specs.Piece.{fields_line}
use Rattle.certificate_text.specs.Line.{Holds, Values, fields_of, read_line}
use Rattle.certificate_text.specs.Grammar.{gap_bound_line, plan_line, rungs_line, score_line, segments_line}
use Rattle.certificate_text.specs.Reading.{read_last}
use Rattle.certificate_text.specs.Spelling.{lines_text}
use Rattle.certificate_text.proofs.Loops.{ok_is}
use Rattle.certificate_text.proofs.LineLaws.{IsSpellable, line_again, line_takes}
use Rattle.certificate_text.proofs.HeadLaws.{can_plan, can_rungs, can_score, can_segments, last_again, last_takes}
use Rattle.certificate_text.proofs.GapLaws.{can_bound}
use Rattle.price_bounds.specs.declared.certificate.PriceCertificate.{PriceCertificate}
use Rattle.price_bounds.specs.declared.window.Window.{Window}
use Rattle.price_bounds.specs.Verdict.{PriceParts, price_parts}
use Rattle.price_text.specs.Form.{IsPriceHead, IsPrices, IsSpelledWindow}
use Rattle.price_text.specs.Grammar.{prices_line, window_line, windows_line}
use Rattle.price_text.specs.Reading.{Counts, counts_at, head_at, prices_of, window_at, windows_at, windows_row}
use Rattle.price_text.specs.Spelling.{count_lines, prices_text, value_lines, window_fields, window_lines}
use Rattle.price_text.proofs.Texts.{last_text, prices_parts, three_lines}

-- ---- the lines

can_first : IsSpellable prices_line
can_first = (refl, (refl, tt))

can_windows : IsSpellable windows_line
can_windows = (refl, (lit< tt, tt))

can_window : IsSpellable window_line
can_window = ((lit≤ tt, lit≤ tt), ((lit≤ tt, lit≤ tt), ((lit≤ tt, lit≤ tt), tt)))

-- three lines and what stands behind them
three_behind : (a b c : List Text) (rest : Text) → lines_text (a ∷ b ∷ c ∷ []) ++ rest ≡ fields_line a ++ (fields_line b ++ (fields_line c ++ rest))
three_behind a b c rest =
    let second = fields_line b in
    let third = fields_line c in
    ap (λ (t : Text). t ++ rest) (three_lines a b c) ∙ append_assoc (fields_line a) (second ++ third) rest ∙ ap (λ (t : Text). fields_line a ++ t) (append_assoc second third rest)

-- ---- the first lines

-- segments and rungs
abbrev counts : ℕ → ℕ → Counts
counts segments rungs = record { segments = segments; rungs = rungs }

-- the text of the first lines
abbrev counts_text : ℕ → ℕ → Text
counts_text segments rungs = lines_text (fields_of prices_line tt ∷ fields_of segments_line (segments, tt) ∷ fields_of rungs_line (rungs, tt) ∷ [])

-- what was read as the first lines
record TakesCounts (bytes : Text) (x : Counts × Text) : Type 0 where
  text : bytes ≡ counts_text x.0.segments x.0.rungs ++ x.1
  segments : Holds segments_line (x.0.segments, tt)
  rungs : Holds rungs_line (x.0.rungs, tt)

counts_take : (bytes : Text) (x : Counts × Text) → counts_at bytes ≡ Ok x → TakesCounts bytes x
unfolding counts_at
counts_take bytes x h =
    let f = then_ok (read_line 1 prices_line bytes) (λ first. read_line 2 segments_line first.1 >>= λ segments. read_line 3 rungs_line segments.1 >>= λ rungs. Ok (counts segments.0.0 rungs.0.0, rungs.1)) x h in
    let n = then_ok (read_line 2 segments_line f.0.1) (λ segments. read_line 3 rungs_line segments.1 >>= λ rungs. Ok (counts segments.0.0 rungs.0.0, rungs.1)) x f.2 in
    let r = then_ok (read_line 3 rungs_line n.0.1) (λ rungs. Ok (counts n.0.0.0 rungs.0.0, rungs.1)) x n.2 in
    let tf = line_takes 1 prices_line bytes f.0 can_first (lit≤ tt) f.1 in
    let tn = line_takes 2 segments_line f.0.1 n.0 can_segments (lit≤ tt) n.1 in
    let tr = line_takes 3 rungs_line n.0.1 r.0 can_rungs (lit≤ tt) r.1 in
    subst (λ (y : Counts × Text). TakesCounts bytes y) (ok_is (counts n.0.0.0 r.0.0.0, r.0.1) x r.2) (record {
      text = tf.text ∙ ap (λ (w : Text). fields_line (fields_of prices_line tt) ++ w) (tn.text
          ∙ ap (λ (w : Text). fields_line (fields_of segments_line n.0.0) ++ w) tr.text)
          ∙ sym (three_behind (fields_of prices_line tt) (fields_of segments_line n.0.0) (fields_of rungs_line r.0.0) r.0.1);
      segments = tn.holds;
      rungs = tr.holds;
    })

counts_again : (n r : ℕ) (rest : Text) → Holds segments_line (n, tt) → Holds rungs_line (r, tt) → counts_at (counts_text n r ++ rest) ≡ Ok (counts n r, rest)
unfolding counts_at
counts_again n r rest a b =
    ap counts_at (three_behind (fields_of prices_line tt) (fields_of segments_line (n, tt)) (fields_of rungs_line (r, tt)) rest)
    ∙ rw (
      line_again 1 prices_line tt (fields_line (fields_of segments_line (n, tt)) ++ (fields_line (fields_of rungs_line (r, tt)) ++ rest)) can_first (lit≤ tt) (one_digit, tt),
      line_again 2 segments_line (n, tt) (fields_line (fields_of rungs_line (r, tt)) ++ rest) can_segments (lit≤ tt) a,
      line_again 3 rungs_line (r, tt) rest can_rungs (lit≤ tt) b,
    ) refl
  where
    one_digit : 1 < 10 ^ 7
    one_digit = lit< tt

-- ---- the lines before the windows

-- a certificate without windows
abbrev made : Counts → ℤ → ℤ → List ℕ → PriceParts
made counts score bound plan = record { segments = counts.segments; rungs = counts.rungs; score = score; bound = bound; plan = plan; windows = [] }

-- what was read before the windows
record TakesHead (bytes : Text) (x : PriceParts × Text) : Type 0 where
  text : bytes ≡ lines_text (count_lines x.0) ++ (lines_text (value_lines x.0) ++ x.1)
  head : IsPriceHead x.0

head_takes : (bytes : Text) (x : PriceParts × Text) → head_at bytes ≡ Ok x → TakesHead bytes x
unfolding head_at
head_takes bytes x h =
    let k = then_ok (counts_at bytes) (λ counts. read_line 4 score_line counts.1 >>= λ score. read_line 5 gap_bound_line score.1 >>= λ bound. read_line 6 (plan_line counts.0.segments) bound.1 >>= λ plan. Ok (made counts.0 score.0.0 bound.0.0 plan.0, plan.1)) x h in
    let z = then_ok (read_line 4 score_line k.0.1) (λ score. read_line 5 gap_bound_line score.1 >>= λ bound. read_line 6 (plan_line k.0.0.segments) bound.1 >>= λ plan. Ok (made k.0.0 score.0.0 bound.0.0 plan.0, plan.1)) x k.2 in
    let b = then_ok (read_line 5 gap_bound_line z.0.1) (λ bound. read_line 6 (plan_line k.0.0.segments) bound.1 >>= λ plan. Ok (made k.0.0 z.0.0.0 bound.0.0 plan.0, plan.1)) x z.2 in
    let p = then_ok (read_line 6 (plan_line k.0.0.segments) b.0.1) (λ plan. Ok (made k.0.0 z.0.0.0 b.0.0.0 plan.0, plan.1)) x b.2 in
    let tk = counts_take bytes k.0 k.1 in
    let tz = line_takes 4 score_line k.0.1 z.0 can_score (lit≤ tt) z.1 in
    let tb = line_takes 5 gap_bound_line z.0.1 b.0 can_bound (lit≤ tt) b.1 in
    let tp = line_takes 6 (plan_line k.0.0.segments) b.0.1 p.0 (can_plan k.0.0.segments tk.segments.0.0) (omega arith) p.1 in
    let c = made k.0.0 z.0.0.0 b.0.0.0 p.0.0 in
    subst (λ (y : PriceParts × Text). TakesHead bytes y) (ok_is (c, p.0.1) x p.2) (record {
      text = tk.text ∙ ap (λ (w : Text). lines_text (count_lines c) ++ w) (tz.text
          ∙ ap (λ (w : Text). fields_line (fields_of score_line z.0.0) ++ w) (tb.text
          ∙ ap (λ (w : Text). fields_line (fields_of gap_bound_line b.0.0) ++ w) tp.text)
          ∙ sym (three_behind (fields_of score_line z.0.0) (fields_of gap_bound_line b.0.0) (fields_of (plan_line k.0.0.segments) p.0.0) p.0.1));
      head = record { segments = tk.segments.0; rungs = tk.rungs.0; score = tz.holds.0; bound = tb.holds.0; plan = tp.holds };
    })

-- a certificate without its windows
abbrev without_windows : PriceParts → PriceParts
without_windows c = record c { windows = [] }

head_again : (c : PriceParts) (rest : Text) → IsPriceHead c → head_at (lines_text (count_lines c) ++ (lines_text (value_lines c) ++ rest)) ≡ Ok (without_windows c, rest)
unfolding head_at
head_again c rest form =
    let bound = fields_line (fields_of gap_bound_line (c.bound, tt)) in
    let plan = fields_line (fields_of (plan_line c.segments) c.plan) in
    rw (
      counts_again c.segments c.rungs (lines_text (value_lines c) ++ rest) (form.segments, tt) (form.rungs, tt),
      three_behind (fields_of score_line (c.score, tt)) (fields_of gap_bound_line (c.bound, tt)) (fields_of (plan_line c.segments) c.plan) rest,
      line_again 4 score_line (c.score, tt) (bound ++ (plan ++ rest)) can_score (lit≤ tt) (form.score, tt),
      line_again 5 gap_bound_line (c.bound, tt) (plan ++ rest) can_bound (lit≤ tt) (form.bound, tt),
      line_again 6 (plan_line c.segments) c.plan rest (can_plan c.segments form.segments.0) (omega arith) form.plan,
    ) refl

-- ---- a window

-- the window of a line's values
abbrev window_of : Values window_line → Window
window_of values = record { first = values.0; last = values.1.0; price = values.1.1.0 }

window_takes : (row : ℕ) (bytes : Text) (x : Window × Text) → window_at row bytes ≡ Ok x → (bytes ≡ fields_line (window_fields x.0) ++ x.1) × IsSpelledWindow x.0
unfolding window_at
window_takes row bytes x h =
    let v = then_ok (read_line row window_line bytes) (λ values. Ok (window_of values.0, values.1)) x h in
    let t = line_takes row window_line bytes v.0 can_window (lit≤ tt) v.1 in
    subst (λ (y : Window × Text). (bytes ≡ fields_line (window_fields y.0) ++ y.1) × IsSpelledWindow y.0) (ok_is (window_of v.0.0, v.0.1) x v.2)
    (t.text, record { first = t.holds.0; last = t.holds.1.0; price = t.holds.1.1.0 })

window_again : (row : ℕ) (w : Window) (rest : Text) → IsSpelledWindow w → window_at row (fields_line (window_fields w) ++ rest) ≡ Ok (w, rest)
unfolding window_at
window_again row w rest s = rw (line_again row window_line (w.first, (w.last, (w.price, tt))) rest can_window (lit≤ tt) (s.first, (s.last, (s.price, tt)))) refl

-- ---- windows

-- what was read as so many windows
record TakesWindows (count : ℕ) (bytes : Text) (x : List Window × Text) : Type 0 where
  text : bytes ≡ lines_text (map window_fields x.0) ++ x.1
  count_is : length x.0 ≡ count
  windows : All IsSpelledWindow x.0

windows_take : (row count : ℕ) (bytes : Text) (x : List Window × Text) → windows_at row count bytes ≡ Ok x → TakesWindows count bytes x
unfolding windows_at
windows_take row zero bytes x h =
    subst (λ (y : List Window × Text). TakesWindows 0 bytes y) (ok_is ([], bytes) x h) (record { text = refl; count_is = refl; windows = All-nil IsSpelledWindow })
windows_take row (suc more) bytes x h =
    let one = then_ok (window_at row bytes) (λ one. windows_at (row + 1) more one.1 >>= λ others. Ok (one.0 ∷ others.0, others.1)) x h in
    let others = then_ok (windows_at (row + 1) more one.0.1) (λ others. Ok (one.0.0 ∷ others.0, others.1)) x one.2 in
    let t = window_takes row bytes one.0 one.1 in
    let ts = windows_take (row + 1) more one.0.1 others.0 others.1 in
    let first = fields_line (window_fields one.0.0) in
    subst (λ (y : List Window × Text). TakesWindows (suc more) bytes y) (ok_is (one.0.0 ∷ others.0.0, others.0.1) x others.2) (record {
      text = t.0 ∙ ap (λ (w : Text). first ++ w) ts.text ∙ sym (append_assoc first (lines_text (map window_fields others.0.0)) others.0.1);
      count_is = ap suc ts.count_is;
      windows = All-cons IsSpelledWindow one.0.0 others.0.0 t.1 ts.windows;
    })

windows_again : (row : ℕ) (ws : List Window) (rest : Text) → All IsSpelledWindow ws → windows_at row (length ws) (lines_text (map window_fields ws) ++ rest) ≡ Ok (ws, rest)
unfolding windows_at
windows_again row [] rest spelled = refl
windows_again row (w ∷ ws) rest spelled =
    let later = lines_text (map window_fields ws) in
    rw (
      append_assoc (fields_line (window_fields w)) later rest,
      window_again row w (later ++ rest) (All-head IsSpelledWindow w ws spelled),
      windows_again (row + 1) ws rest (All-tail IsSpelledWindow w ws spelled),
    ) refl

-- ---- the whole

-- the lines of the windows and what stands behind them
counted : (ws : List Window) (rest : Text) → lines_text (window_lines ws) ++ rest ≡ fields_line (fields_of windows_line (length ws, tt)) ++ (lines_text (map window_fields ws) ++ rest)
counted ws rest = append_assoc (fields_line (fields_of windows_line (length ws, tt))) (lines_text (map window_fields ws)) rest

-- what was read is of the form, and the bytes are its spelling
pub prices_take : (bytes : Text) (c : PriceParts) → prices_of bytes ≡ Ok c → IsPrices c × (bytes ≡ prices_text c)
unfolding prices_of
prices_take bytes c h =
    let a = then_ok (head_at bytes) (λ head. read_line windows_row windows_line head.1 >>= λ count. windows_at (windows_row + 1) count.0.0 count.1 >>= λ windows. read_last (windows_row + 1 + count.0.0) windows.1 >>= λ done. Ok (record head.0 { windows = windows.0 })) c h in
    let n = then_ok (read_line windows_row windows_line a.0.1) (λ count. windows_at (windows_row + 1) count.0.0 count.1 >>= λ windows. read_last (windows_row + 1 + count.0.0) windows.1 >>= λ done. Ok (record a.0.0 { windows = windows.0 })) c a.2 in
    let w = then_ok (windows_at (windows_row + 1) n.0.0.0 n.0.1) (λ windows. read_last (windows_row + 1 + n.0.0.0) windows.1 >>= λ done. Ok (record a.0.0 { windows = windows.0 })) c n.2 in
    let d = then_ok (read_last (windows_row + 1 + n.0.0.0) w.0.1) (λ done. Ok (record a.0.0 { windows = w.0.0 })) c w.2 in
    let ta = head_takes bytes a.0 a.1 in
    let tn = line_takes windows_row windows_line a.0.1 n.0 can_windows (lit≤ tt) n.1 in
    let tw = windows_take (windows_row + 1) n.0.0.0 n.0.1 w.0 w.1 in
    let td = last_takes (windows_row + 1 + n.0.0.0) w.0.1 d.0 d.1 in
    let whole : PriceParts = record a.0.0 { windows = w.0.0 } in
    let windows : a.0.1 ≡ lines_text (window_lines w.0.0) ++ last_text =
    tn.text ∙ ap (λ (t : Text). fields_line (fields_of windows_line n.0.0) ++ t) (tw.text ∙ ap (λ (t : Text). lines_text (map window_fields w.0.0) ++ t) td)
    ∙ ap (λ (k : ℕ). fields_line (fields_of windows_line (k, tt)) ++ (lines_text (map window_fields w.0.0) ++ last_text)) (sym tw.count_is)
    ∙ sym (counted w.0.0 last_text) in
    subst (λ (y : PriceParts). IsPrices y × (bytes ≡ prices_text y)) (ok_is whole c d.2) (
      record {
        head = record { segments = ta.head.segments; rungs = ta.head.rungs; score = ta.head.score; bound = ta.head.bound; plan = ta.head.plan };
        few = omega (arith, tw.count_is, tn.holds.0.1);
        windows = tw.windows;
      },
      ta.text ∙ ap (λ (t : Text). lines_text (count_lines a.0.0) ++ (lines_text (value_lines a.0.0) ++ t)) windows ∙ sym (prices_parts whole),
    )

-- what is of the form is read from its spelling
pub prices_again : (c : PriceParts) → IsPrices c → prices_of (prices_text c) ≡ Ok c
unfolding prices_of
prices_again c form =
    let windows = lines_text (map window_fields c.windows) in
    ap prices_of (prices_parts c)
    ∙ rw (
      head_again c (lines_text (window_lines c.windows) ++ last_text) form.head,
      counted c.windows last_text,
      line_again windows_row windows_line (length c.windows, tt) (windows ++ last_text) can_windows (lit≤ tt) ((omega arith, form.few), tt),
      windows_again (windows_row + 1) c.windows last_text form.windows,
      last_again (windows_row + 1 + length c.windows),
    ) refl

-- certificates of the form with equal spellings are equal
pub same_prices : (c d : PriceParts) → IsPrices c → IsPrices d → prices_text c ≡ prices_text d → c ≡ d
same_prices c d form other e = ok_is c d (sym (prices_again c form) ∙ ap prices_of e ∙ prices_again d other)

-- what is of the form is read of what a call gave
pub prices_found : (bytes : Text) (answer : Result PriceCertificate InputFault) → Gives price_parts answer (prices_of bytes)
    → IfOk answer (λ c. IsPrices (price_parts c) × (bytes ≡ prices_text (price_parts c)))
prices_found bytes (Ok c) h = prices_take bytes (price_parts c) h
prices_found bytes (Err fault) h = tt
