-- The limits of what a task is weighed by.
use Rattle.std.proofs.Common.{◌≡◌, ℕ, ◌≤◌, ◌<◌, ⊎_elim, arith}
use Rattle.std.specs.Prelude.{Some}
use Rattle.lab_model.specs.Film.{rungs_of, segments_of}
use Rattle.lab_model.specs.Weighing.{HasUtility, change_of, utility_of}
use Rattle.lab_model.proofs.Rows.{utility_limit}
use Rattle.player_core.specs.Scene.{IsTask, Task}

module _ (g : Task) (is : IsTask g) where
  -- each rung has a utility at each segment
  pub has_utility : (i q : ℕ) → i < segments_of g.film → q < rungs_of g.film → HasUtility g.setup.weights i q
  has_utility i q low rung =
      let fits = is.setup.utilities in
      let count = fits.rungs in
      (omega (arith, count, rung), λ some. ⊎_elim (λ (none : g.setup.weights.rows ≡ 0). absurd (omega (arith, some, none))) (λ (all : g.setup.weights.rows ≡ segments_of g.film). omega (arith, all, low)) fits.rows)

  -- of at most 1000000
  pub utility_low : (i q : ℕ) → i < segments_of g.film → q < rungs_of g.film → utility_of g.setup.weights i q ≤ 1000000
  utility_low i q low rung = utility_limit g.setup.weights i q is.weights (has_utility i q low rung)

  -- and changes by at most that
  pub change_low : (i q r : ℕ) → i < segments_of g.film → q < rungs_of g.film → r < rungs_of g.film → change_of g.setup.weights i (Some q) r ≤ 1000000
  change_low i q r low before rung = let one = utility_low i q low before in let two = utility_low i r low rung in omega (arith, one, two)
