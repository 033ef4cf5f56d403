-- The greatest of what a function gives over a list: it is reached, and nothing is above it.
use Rattle.std.proofs.Common.{◌≡◌, ◌∙◌, ◌⊎◌, ⊎_elim, List, [], ◌∷◌, map, fold, refl, sym, subst, arith}
use Rattle.std.specs.Prelude.{ℤ, ◌≤ℤ◌}
use Rattle.std.specs.Int.{int_max}
use Rattle.std.specs.List.{Contains}
use Rattle.std.proofs.lemmas.Int.{fold-int_max_bounds, fold-int_max_reached, ints}
use Rattle.std.proofs.lemmas.List.Elements.{All-contains}
use Rattle.labels.proofs.Walks.{at_head, at_tail, first_or_rest, from_map, in_map, none_at}
use Rattle.price_bounds.specs.Greatest.{greatest_of}

z_both : (a b : ℤ) → a ≤ℤ b → b ≤ℤ a → a ≡ b
z_both a b h k = omega (arith, ints)

module _ {X : Type 0} (f : X → ℤ) where
  -- nothing is above it
  pub greatest_bounds : (xs : List X) (x : X) → Contains xs x → f x ≤ℤ greatest_of (map f xs)
  greatest_bounds [] x h = absurd (none_at x h)
  greatest_bounds (y ∷ ys) x h =
      let most = fold int_max (f y) (map f ys) in
      let both = fold-int_max_bounds (f y) (map f ys) most refl in
      ⊎_elim (λ (e : y ≡ x). subst (λ z. f z ≤ℤ most) e both.0)
      (λ (rest : Contains ys x). All-contains (λ v. v ≤ℤ most) (map f ys) (f x) both.1 (in_map f ys x rest)) (first_or_rest y ys x h)

  -- where there is anything, it is reached
  pub greatest_reached : (xs : List X) (x : X) → Contains xs x → (y : X) × Contains xs y × (f y ≡ greatest_of (map f xs))
  greatest_reached [] x h = absurd (none_at x h)
  greatest_reached (y ∷ ys) x h =
      let most = fold int_max (f y) (map f ys) in
      ⊎_elim (λ (e : most ≡ f y). (y, at_head y ys, sym e))
      (λ (there : Contains (map f ys) most). let r = from_map f ys most there in (r.0, at_tail y ys r.0 r.1, r.2)) (fold-int_max_reached (f y) (map f ys) most refl)

  -- what is reached and has nothing above it is the greatest
  pub greatest_is : (xs : List X) (x : X) (most : ℤ) → Contains xs x → f x ≡ most → ((y : X) → Contains xs y → f y ≤ℤ most) → most ≡ greatest_of (map f xs)
  greatest_is xs x most there e bounds =
      let top = greatest_reached xs x there in
      z_both most (greatest_of (map f xs)) (subst (λ v. v ≤ℤ greatest_of (map f xs)) e (greatest_bounds xs x there)) (subst (λ v. v ≤ℤ most) top.2 (bounds top.0 top.1))
