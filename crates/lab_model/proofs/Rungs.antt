-- The rungs below a number, one after the other.
use Rattle.std.proofs.Common.{◌≡◌, ◌∙◌, ℕ, zero, suc, ◌+◌, [], ◌∷◌, ◌++◌, Bool, refl, ap, add-one, zero-add, arith}
use Rattle.std.proofs.lemmas.List.Sums.{fold_push}
use Rattle.std.specs.Bool.{if◌then◌else◌}
use Rattle.std.specs.List.{range_with_len}
use Rattle.lab_model.specs.Ladder.{greatest_rung, rungs_below}

range_more : (a n : ℕ) → range_with_len a (suc n) ≡ range_with_len a n ++ (a + n) ∷ []
range_more a zero = ap (λ m. m ∷ []) (omega arith)
range_more a (suc n) =
    let same : a + 1 + n ≡ a + suc n = omega arith in
    ap (λ xs. a ∷ xs) (range_more (a + 1) n) ∙ ap (λ m. a ∷ (range_with_len (a + 1) n ++ m ∷ [])) same

-- one rung more stands at the end
pub rungs_more : (n : ℕ) → rungs_below (n + 1) ≡ rungs_below n ++ n ∷ []
rungs_more n = ap rungs_below (add-one n) ∙ range_more 0 n ∙ ap (λ m. rungs_below n ++ m ∷ []) (zero-add n)

-- no rung passes where there is none
pub greatest_none : (passes : ℕ → Bool) → greatest_rung passes 0 ≡ 0
greatest_none passes = refl

-- one rung more: it is the greatest where it passes
pub greatest_more : (passes : ℕ → Bool) (n : ℕ) → greatest_rung passes (n + 1) ≡ (if passes n then n else greatest_rung passes n)
greatest_more passes n = rw (rungs_more n) (fold_push (λ best q. if passes q then q else best) 0 (rungs_below n) n)
