-- The first number of a range that passes a test.
use Rattle.std.proofs.Common.{◌≡◌, ◌∙◌, ◌+◌, ◌≤◌, ◌<◌, ⊎_elim, ℕ, zero, suc, Bool, true, false, Some, None, ap, sym, refl, arith}
use Rattle.std.specs.Prelude.{if◌then◌else◌}
use Rattle.std.specs.List.{find, range_with_len}
use Rattle.std.proofs.lemmas.Bool.{cases_lt, cond-true, cond-false}

-- the first that passes is found
pub found_from : (p : ℕ → Bool) (start count s : ℕ) → start ≤ s → s < start + count → ((j : ℕ) → start ≤ j → j < s → p j ≡ false) → p s ≡ true → find p (range_with_len start count) ≡ Some s
found_from p start zero s low high fails passes = absurd (omega (arith, low, high))
found_from p start (suc count) s low high fails passes =
    ⊎_elim
    (λ (later : start < s). cond-false (p start) _ _ (fails start (omega arith) later) ∙ found_from p (start + 1) count s (omega (arith, later)) (omega (arith, high)) (λ j l h. fails j (omega (arith, l)) h) passes)
    (λ (here : s ≤ start).
    let same : s ≡ start = omega (arith, low, here) in
    cond-true (p start) _ _ (ap p (sym same) ∙ passes) ∙ ap Some (sym same))
    (cases_lt start s)

-- where all fail, none is found
pub none_from : (p : ℕ → Bool) (start count : ℕ) → ((j : ℕ) → j < start + count → p j ≡ false) → find p (range_with_len start count) ≡ None
none_from p start zero fails = refl
none_from p start (suc count) fails =
    cond-false (p start) _ _ (fails start (omega arith)) ∙ none_from p (start + 1) count (λ j h. fails j (omega (arith, h)))

-- what is not found in a range fails everywhere in it
pub none_found : (p : ℕ → Bool) (start count : ℕ) → find p (range_with_len start count) ≡ None → (j : ℕ) → start ≤ j → j < start + count → p j ≡ false
none_found p start zero h j low high = absurd (omega (arith, low, high))
none_found p start (suc count) h j low high = here (p start) refl h (none_found p (start + 1) count)
  where
    same : (a b : ℕ) → b ≤ a → a ≤ b → a ≡ b
    same a b h k = omega (arith, h, k)

    here : (b : Bool) → p start ≡ b → (if b then Some start else find p (range_with_len (start + 1) count)) ≡ None
        → (find p (range_with_len (start + 1) count) ≡ None → (i : ℕ) → start + 1 ≤ i → i < start + 1 + count → p i ≡ false) → p j ≡ false
    here true e k more = cc
    here false e k more =
        ⊎_elim (λ (later : start < j). more k j (omega (arith, later)) (omega (arith, high))) (λ (first : j ≤ start). ap p (same j start low first) ∙ e) (cases_lt start j)
