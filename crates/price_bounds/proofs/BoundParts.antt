-- The bound on the lists that begin with a rung, from its parts; and the bound of windows from those.
use Rattle.std.proofs.Common.{◌≡◌, ◌∙◌, ℕ, suc, ◌+◌, ◌-◌, ◌*◌, ◌/◌, ◌≤◌, ◌<◌, ⊎_elim, List, map, refl, sym, ap, ap₂, subst, arith, mul-le-mul}
use Rattle.std.specs.Prelude.{ℤ, pos, negsuc, neg_ℤ, ◌+ℤ◌, ◌-ℤ◌, ◌<ℤ◌, ◌≤ℤ◌, unsigned_abs}
use Rattle.std.specs.Int.{div_ceil, int_max}
use Rattle.std.proofs.lemmas.Int.{ints}
use Rattle.lab_model.specs.Film.{rungs_of, segments_of}
use Rattle.lab_model.specs.Ladder.{rungs_below}
use Rattle.lab_model.specs.Number.{IsNear}
use Rattle.lab_model.specs.Weighing.{utility_of}
use Rattle.player_core.specs.Scene.{IsTask, Task}
use Rattle.labels.specs.Best.{task_value}
use Rattle.labels.specs.Labels.{AreRungs}
use Rattle.labels.proofs.Reached.{start_reach}
use Rattle.price_bounds.specs.declared.window.Window.{Window}
use Rattle.price_bounds.specs.Bound.{bound_of, bound_on, first_delay, rounded_up, start_worth}
use Rattle.price_bounds.specs.Cells.{farthest_delay}
use Rattle.price_bounds.specs.Greatest.{greatest_of}
use Rattle.price_bounds.specs.LinkPart.{link_part}
use Rattle.price_bounds.specs.ListPart.{list_part}
use Rattle.price_bounds.specs.Tables.{IsBestBelow, most_start_worth}
use Rattle.price_bounds.specs.Windows.{CanBound, price_unit}
use Rattle.price_bounds.proofs.CellSteps.{max_cases}
use Rattle.price_bounds.proofs.Law.{no_list_passes}
use Rattle.price_bounds.proofs.ListSteps.{below_greatest}

-- no first delay is far
pub first_near : (g : Task) → IsTask g → (q : ℕ) → q < rungs_of g.film → first_delay g q ≤ farthest_delay
first_near g is q low = let h = (start_reach g is q low).delay in omega (arith, h)

-- what the start comes to fits
pub start_near : (u startup first : ℕ) → u ≤ 1000000 → startup ≤ 1000000 → first ≤ 1000000000000 → IsNear most_start_worth (pos (1000000000 * (1000 * u)) -ℤ pos (1000000000 * (startup * first)))
start_near u startup first few low near =
    let most = mul-le-mul low near in
    record { low = omega (arith, ints, most); high = omega (arith, ints, few) }

module _ (g : Task) (ws : List Window) (q first : ℕ) (start gain worth : ℤ) where
  -- the bound on a first rung is the sum of its parts
  pub bound_on_is : first ≡ first_delay g q → start ≡ start_worth g q first → gain ≡ list_part g ws q → worth ≡ link_part g ws first → (start +ℤ gain) +ℤ worth ≡ bound_on g ws q
  unfolding bound_on
  bound_on_is at s l k =
      ap₂ (λ a b. (a +ℤ gain) +ℤ b) s k
      ∙ ap₂ (λ n a. (start_worth g q n +ℤ a) +ℤ link_part g ws n) at l

-- ---- all first rungs

-- what two numbers have, the greater of them has
pub max_keeps : (P : ℤ → Type 0) (a b top : ℤ) → top ≡ int_max a b → P a → P b → P top
max_keeps P a b top e h k =
    ⊎_elim (λ (old : (int_max a b ≡ a) × (b ≤ℤ a)). subst P (sym (e ∙ old.0)) h) (λ (new : (int_max a b ≡ b) × (a ≤ℤ b)). subst P (sym (e ∙ new.0)) k) (max_cases a b)

module _ (g : Task) (ws : List Window) where
  -- the greatest of them, rounded up, is the bound of the windows
  pub bound_of_is : (count : ℕ) (best bound : ℤ) → count ≡ rungs_of g.film → IsBestBelow count (bound_on g ws) best → bound ≡ rounded_up best → bound ≡ bound_of g ws
  unfolding bound_of
  bound_of_is count best bound all h e =
      e ∙ ap rounded_up (below_greatest (bound_on g ws) count best h ∙ ap (λ n. greatest_of (map (bound_on g ws) (rungs_below n))) all)

  -- and no list passes it
  pub bound_holds : IsTask g → CanBound (segments_of g.film) ws → (bound : ℤ) → bound ≡ bound_of g ws
      → (rungs : List ℕ) → AreRungs g (segments_of g.film) rungs → task_value g rungs ≤ℤ bound
  bound_holds is can bound e rungs fits = subst (λ b. task_value g rungs ≤ℤ b) (sym e) (no_list_passes g is ws can.windows rungs fits)
