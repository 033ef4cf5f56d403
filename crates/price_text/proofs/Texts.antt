-- The text of a certificate by prices, part by part, and how the writer's loop goes through it.
use Rattle.std.proofs.Common.{◌≡◌, ◌∙◌, ◌+◌, ◌<◌, ◌≤◌, ℕ, List, [], ◌∷◌, ◌++◌, drop, get_or, length, map, refl, ap, add-one, append-nil, drop-cons}
use Rattle.std.proofs.lemmas.List.{drop_all}
use Rattle.std.proofs.lemmas.List.Concat.{flat_map-append}
use Rattle.lab_io.specs.Sink.{Text}
use Rattle.lab_io.specs.Piece.{fields_line}
use Rattle.certificate_text.specs.Line.{fields_of}
use Rattle.certificate_text.specs.Grammar.{end_line}
use Rattle.certificate_text.specs.Spelling.{lines_text}
use Rattle.price_bounds.specs.declared.window.Window.{Window}
use Rattle.price_bounds.specs.Verdict.{PriceParts}
use Rattle.price_text.specs.Spelling.{count_lines, prices_text, value_lines, window_fields, window_lines}

-- ---- the parts

-- the last line
abbrev pub last_text : Text
last_text = fields_line (fields_of end_line tt)

-- the text of three lines
pub three_lines : (a b c : List Text) → lines_text (a ∷ b ∷ c ∷ []) ≡ fields_line a ++ (fields_line b ++ fields_line c)
three_lines a b c = ap (λ (t : Text). fields_line a ++ (fields_line b ++ t)) (append-nil (fields_line c))

-- the text in its parts
pub prices_parts : (c : PriceParts) → prices_text c ≡ lines_text (count_lines c) ++ (lines_text (value_lines c) ++ (lines_text (window_lines c.windows) ++ last_text))
unfolding prices_text
prices_parts c =
    let last : List (List Text) = fields_of end_line tt ∷ [] in
    let windows = window_lines c.windows in
    flat_map-append fields_line (count_lines c) (value_lines c ++ (windows ++ last))
    ∙ ap (λ (t : Text). lines_text (count_lines c) ++ t) (flat_map-append fields_line (value_lines c) (windows ++ last)
    ∙ ap (λ (t : Text). lines_text (value_lines c) ++ t) (flat_map-append fields_line windows last
    ∙ ap (λ (t : Text). lines_text windows ++ t) (append-nil last_text)))

-- ---- the loop

-- the text of the windows from one on
pub windows_from : (ws : List Window) (i : ℕ) (d : Window) → i < length ws
    → lines_text (map window_fields (drop i ws)) ≡ fields_line (window_fields (get_or ws i d)) ++ lines_text (map window_fields (drop (i + 1) ws))
windows_from ws i d lt = rw (add-one, drop-cons ws i d) refl

-- behind the last window is nothing
pub windows_end : (ws : List Window) (i : ℕ) → length ws ≤ i → lines_text (map window_fields (drop i ws)) ≡ []
windows_end ws i h = rw (drop_all i ws h) refl
