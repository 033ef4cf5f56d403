-- The most that steps come to, step by step.
use Rattle.std.proofs.Common.{◌≡◌, ◌∙◌, ℕ, zero, suc, ◌+◌, ◌≤◌, ◌<◌, List, [], ◌∷◌, length, refl, sym, ap, subst, arith}
use Rattle.std.specs.Prelude.{ℤ, ◌+ℤ◌, ◌≤ℤ◌}
use Rattle.std.proofs.lemmas.Int.{ints}
use Rattle.price_bounds.specs.Steps.{AreSteps, CanFollow, Follow, Gains, IsGreatest, IsMost, IsTop, Moves, gain_along}

le_itself : (a : ℤ) → a ≤ℤ a
le_itself a = omega (arith, ints)

-- more behind a step is more with it
above : (step rest most top : ℤ) → rest ≤ℤ most → (step +ℤ most) ≤ℤ top → (step +ℤ rest) ≤ℤ top
above step rest most top h k = omega (arith, ints)

module _ (m : Moves) (f : Gains) where
  -- without steps it is what the place comes to at the end
  pub most_last : (i before : ℕ) → IsMost m f 0 i before (f.end before)
  most_last i before = record {
    list = [];
    fits = (refl, tt);
    reached = refl;
    bounds = λ l h. none l h;
  }
    where
      none : (l : List ℕ) → AreSteps m 0 before l → gain_along f i before l ≤ℤ f.end before
      none [] h = le_itself (f.end before)
      none (c ∷ cs) h = let long = h.0 in absurd (omega (arith, long))

  -- and one step more comes to the most of a step with what the table says of those behind it
  pub most_next : (n i before : ℕ) (table : ℕ → ℤ) (top : ℤ) → ((c : ℕ) → c < m.count → IsMost m f n (i + 1) c (table c)) → IsTop m before (λ c. f.step i before c +ℤ table c) top
      → IsMost m f (suc n) i before top
  most_next n i before table top rest h =
      let one = rest h.next h.follows.below in record {
        list = h.next ∷ one.list;
        fits = (ap suc one.fits.0, (h.follows, one.fits.1));
        reached = ap (λ v. f.step i before h.next +ℤ v) one.reached ∙ sym h.reached;
        bounds = λ l k. all l k;
      }
    where
      all : (l : List ℕ) → AreSteps m (suc n) before l → gain_along f i before l ≤ℤ top
      all [] k = let long = k.0 in absurd (omega (arith, long))
      all (c ∷ cs) k =
          let long = k.0 in
          let follows = k.1.0 in
          above (f.step i before c) (gain_along f (i + 1) c cs) (table c) top ((rest c follows.below).bounds cs (omega (arith, long), k.1.1)) (h.bounds c follows)
