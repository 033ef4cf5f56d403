-- The end of a loop that writes each element of a Vec.
use Rattle.std.proofs.Common.{◌≡◌, ◌∙◌, ℕ, ◌≤◌, List, ◌++◌, length, map, take, drop, ap, append-nil, arith}
use Rattle.std.proofs.lemmas.List.{drop_all, length-map, take_all}

-- each element is written, and nothing stands behind them
pub all_written : {X : Type 0} (f : X → X) (xs ys : List X) (i n : ℕ) → ys ≡ map f (take i xs) ++ drop i xs → length xs ≤ i → n ≡ length xs → take n (ys ++ drop (length ys) xs) ≡ map f xs
all_written f xs ys i n e low len =
    let whole : ys ≡ map f xs = e ∙ ap (λ zs. map f zs ++ drop i xs) (take_all i xs low) ∙ ap (λ zs. map f xs ++ zs) (drop_all i xs low) ∙ append-nil (map f xs) in
    let same : length ys ≡ length xs = ap length whole ∙ length-map xs f in
    ap (λ zs. take n (ys ++ zs)) (drop_all (length ys) xs (omega (arith, same)))
    ∙ ap (λ zs. take n zs) (append-nil ys)
    ∙ take_all n ys (omega (arith, same, len))
    ∙ whole
