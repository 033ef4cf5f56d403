-- A list of loaded segments in two halves.
use Rattle.std.proofs.Common.{◌≡◌, ◌∙◌, ◌+◌, ◌<◌, List, ◌++◌, length, arith, length-append, subst, ap, sym}
use Rattle.std.specs.List.{All, sum_by}
use Rattle.std.proofs.lemmas.List.Sums.{sum_by-append}
use Rattle.std.proofs.lemmas.List.{get_or_append_left, get_or-append-add}
use Rattle.lab_model.specs.declared.context.Played.{Played}
use Rattle.lab_model.specs.Film.{Film, size_of}
use Rattle.player_core.specs.Sound.{IsOf}

-- the front half of segments of the film is of the film
pub of_front : (f : Film) (xs ys zs : List Played) → xs ++ ys ≡ zs → All (IsOf f) zs → All (IsOf f) xs
of_front f xs ys zs e h = λ k d lt.
    let all : All (IsOf f) (xs ++ ys) = subst (λ (v : List Played). All (IsOf f) v) (sym e) h in
    let n = length-append xs ys in
    let below : k < length (xs ++ ys) = omega (arith, n) in
    subst (IsOf f) (get_or_append_left xs ys d k lt) (all k d below)

-- and so is the back half
pub of_back : (f : Film) (xs ys zs : List Played) → xs ++ ys ≡ zs → All (IsOf f) zs → All (IsOf f) ys
of_back f xs ys zs e h = λ k d lt.
    let all : All (IsOf f) (xs ++ ys) = subst (λ (v : List Played). All (IsOf f) v) (sym e) h in
    let n = length-append xs ys in
    let below : length xs + k < length (xs ++ ys) = omega (arith, n) in
    subst (IsOf f) (get_or-append-add xs ys k d) (all (length xs + k) d below)

-- the sizes of both halves come to that of the whole
pub sum_of_halves : (f : Film) (xs ys zs : List Played) → xs ++ ys ≡ zs
    → sum_by (λ q. size_of f q.segment q.rung) xs + sum_by (λ q. size_of f q.segment q.rung) ys ≡ sum_by (λ q. size_of f q.segment q.rung) zs
sum_of_halves f xs ys zs e = sym (sum_by-append (λ (q : Played). size_of f q.segment q.rung) xs ys) ∙ ap (λ (v : List Played). sum_by (λ q. size_of f q.segment q.rung) v) e
