-- How long the text of a certificate by prices may be.
use Rattle.std.proofs.Common.{◌*◌, ◌≤◌, ◌++◌, List, [], ◌∷◌, codes, length, map, arith, lit≤}
use Rattle.std.specs.List.{All}
use Rattle.std.specs.Fmt.{decimal}
use Rattle.std.proofs.lemmas.List.Elements.{All-head, All-tail}
use Rattle.lab_io.specs.Piece.{fields_line}
use Rattle.certificate_text.specs.Line.{fields_of}
use Rattle.certificate_text.specs.Grammar.{end_line, gap_bound_line, plan_line, rungs_line, score_line, segments_line}
use Rattle.certificate_text.specs.Spelling.{lines_text}
use Rattle.certificate_text.proofs.Length.{bound_short, count_short, digits_short, first_field, lines_both, lines_more, list_short, one_field, score_short}
use Rattle.price_bounds.specs.declared.window.Window.{Window}
use Rattle.price_bounds.specs.Verdict.{PriceParts}
use Rattle.price_text.specs.Form.{IsPrices, IsSpelledWindow, most_bytes}
use Rattle.price_text.specs.Grammar.{prices_line, windows_line}
use Rattle.price_text.specs.Spelling.{count_lines, prices_text, value_lines, window_fields, window_lines}

window_short : (w : Window) → IsSpelledWindow w → length (fields_line (window_fields w)) ≤ 25
window_short w h =
    let x = digits_short 4 w.first (omega arith) (omega arith) h.first in
    let y = digits_short 4 w.last (omega arith) (omega arith) h.last in
    let z = digits_short 13 w.price (omega arith) (omega arith) h.price in
    let a = first_field (decimal w.first) (decimal w.last ∷ decimal w.price ∷ []) in
    let b = one_field (decimal w.last) (decimal w.price ∷ []) in
    let c = one_field (decimal w.price) [] in
    omega (arith, x, y, z, a, b, c)

windows_short : (ws : List Window) → All IsSpelledWindow ws → length (lines_text (map window_fields ws)) ≤ length ws * 25
windows_short [] h = omega arith
windows_short (w ∷ ws) h =
    let own = window_short w (All-head IsSpelledWindow w ws h) in
    let rest = windows_short ws (All-tail IsSpelledWindow w ws h) in
    let e = lines_more (window_fields w) (map window_fields ws) in
    omega (arith, own, rest, e)

first_short : length (fields_line (fields_of prices_line tt)) ≤ 27
first_short =
    let d = digits_short 7 1 (omega arith) (omega arith) (lit≤ tt) in
    let a = first_field (codes "abrlab") (codes "prices" ∷ decimal 1 ∷ []) in
    let e = one_field (codes "prices") (decimal 1 ∷ []) in
    let f = one_field (decimal 1) [] in
    omega (arith, d, a, e, f)

counts_short : (c : PriceParts) → IsPrices c → length (lines_text (count_lines c)) ≤ 70
counts_short c h =
    let segments = fields_of segments_line (c.segments, tt) in
    let rungs = fields_of rungs_line (c.rungs, tt) in
    let many = h.head.segments.1 in
    let high = h.head.rungs.1 in
    let a = first_short in
    let b = count_short (codes "segments") c.segments (omega (arith, many)) in
    let d = count_short (codes "rungs") c.rungs (omega (arith, high)) in
    let x = lines_more (fields_of prices_line tt) (segments ∷ rungs ∷ []) in
    let y = lines_more segments (rungs ∷ []) in
    let z = lines_more rungs [] in
    omega (arith, a, b, d, x, y, z)

values_short : (c : PriceParts) → IsPrices c → length (lines_text (value_lines c)) ≤ 6100
values_short c h =
    let score = fields_of score_line (c.score, tt) in
    let bound = fields_of gap_bound_line (c.bound, tt) in
    let plan = fields_of (plan_line c.segments) c.plan in
    let many = h.head.segments.1 in
    let long = h.head.plan.0 in
    let a = score_short c.score h.head.score in
    let b = bound_short c.bound h.head.bound in
    let p = list_short (codes "plan") 2 c.plan (omega arith) (omega arith) h.head.plan.1 in
    let x = lines_more score (bound ∷ plan ∷ []) in
    let y = lines_more bound (plan ∷ []) in
    let z = lines_more plan [] in
    omega (arith, many, long, a, b, p, x, y, z)

behind_short : (ws : List Window) → length ws ≤ 4000 → All IsSpelledWindow ws → length (lines_text (window_lines ws)) ≤ 100020
behind_short ws few h =
    let a = count_short (codes "windows") (length ws) (omega (arith, few)) in
    let b = windows_short ws h in
    let e = lines_more (fields_of windows_line (length ws, tt)) (map window_fields ws) in
    omega (arith, few, a, b, e)

-- the text of a certificate by prices is within that
pub prices_fit : (c : PriceParts) → IsPrices c → length (prices_text c) ≤ most_bytes
unfolding prices_text
prices_fit c h =
    let end = fields_of end_line tt ∷ [] in
    let counts = counts_short c h in
    let values = values_short c h in
    let windows = behind_short c.windows h.few h.windows in
    let one = lines_both (count_lines c) (value_lines c ++ (window_lines c.windows ++ end)) in
    let two = lines_both (value_lines c) (window_lines c.windows ++ end) in
    let three = lines_both (window_lines c.windows) end in
    let last = lines_more (fields_of end_line tt) [] in
    let word = first_field (codes "end") [] in
    omega (arith, counts, values, windows, one, two, three, last, word)
