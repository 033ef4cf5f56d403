-- The last rates of a history that grows.
use Rattle.std.proofs.Common.{◌≡◌, ◌∙◌, ℕ, ◌+◌, ◌-◌, List, [], ◌∷◌, ◌++◌, length, drop, ap, sym, length-append, arith}
use Rattle.std.proofs.lemmas.List.{drop-append-le, drop-drop, length-drop}
use Rattle.lab_model.specs.Rates.{last_of}

-- what keeps the last rates needs no more of the history to keep them with the next one
pub last_of_push : (w : ℕ) (history : List ℕ) (c : ℕ) → last_of w (last_of w history ++ c ∷ []) ≡ last_of w (history ++ c ∷ [])
last_of_push w history c =
    let n = length history in
    let kept = last_of w history in
    let left = length-drop (n - w) history in
    let more = length-append kept (c ∷ []) in
    let all = length-append history (c ∷ []) in
    let seam : kept ++ c ∷ [] ≡ drop (n - w) (history ++ c ∷ []) = sym (drop-append-le (n - w) history (c ∷ []) (omega arith)) in
    let steps : (n - w) + (length (kept ++ c ∷ []) - w) ≡ length (history ++ c ∷ []) - w = omega (arith, left, more, all) in
    ap (λ (xs : List ℕ). drop (length (kept ++ c ∷ []) - w) xs) seam
    ∙ drop-drop (length (kept ++ c ∷ []) - w) (n - w) (history ++ c ∷ [])
    ∙ ap (λ (k : ℕ). drop k (history ++ c ∷ [])) steps
