-- A list whose places are filled one after the other.
use Rattle.std.proofs.Common.{ℕ, ◌+◌, ◌<◌, List, length, get_or, set, sym, subst, arith}
use borrow.Author.Count.{below_more}
use Rattle.std.proofs.lemmas.List.{get_or-set_same, get_or-set_other}

-- what is so of each place so far is so of one place more
pub filled_more : {X : Type 0} (P : ℕ → X → Type 0) (xs : List X) (i : ℕ) (v : X) → i < length xs
    → ((k : ℕ) (d : X) → k < i → P k (get_or xs k d)) → P i v → (k : ℕ) (d : X) → k < i + 1 → P k (get_or (set xs i v) k d)
filled_more {X} P xs i v room before here k d low =
    below_more (λ (j : ℕ). (d : X) → P j (get_or (set xs i v) j d)) i
    (λ j less d. subst (P j) (sym (get_or-set_other xs i j v d (λ e. omega (arith, e, less)))) (before j d less))
    (λ d. subst (P i) (sym (get_or-set_same xs i v d room)) here) k low d
