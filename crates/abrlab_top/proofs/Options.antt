-- What is asked of `plan`, and of the plans of a ranking, is within its limits.
use Rattle.std.proofs.Common.{◌≡◌, ◌==◌, ◌&&◌, ◌||◌, not, ℕ, Bool, true, false, is_some, [], ◌∷◌, None, IfSome, inl, inr, refl, subst, arith}
use Rattle.std.proofs.lemmas.Bool.Decides.{nat_tests}
use Rattle.lab_model.specs.Film.{IsWithin}
use Rattle.lab_words.specs.declared.Verb.TheVariants.{Compare, Plan}
use Rattle.lab_words.specs.Command.{CommandWords}
use Rattle.lab_words.specs.Limits.{AreGridWords, HasItsOwn, IsBudget, IsWithinLimits, agrees}
use Rattle.lab_words.specs.Values.{at_most_one}
use Rattle.labels.specs.Grid.{IsGrid}
use Rattle.abrlab_top.specs.Plan.{grid_in}

-- without steps there is no grid
pub no_grid : (time value : ℕ) → time ≡ 0 → grid_in time value ≡ None
no_grid time value e = rw e refl

-- a grid of words within their limits
pub grid_fits : (c : CommandWords) → IsWithinLimits c → IfSome (grid_in c.coarse_time c.coarse_value) IsGrid
grid_fits c limits = by_grid c.coarse_time c.coarse_value limits.grid
  where
    by_grid : (time value : ℕ) → AreGridWords time value → IfSome (grid_in time value) IsGrid
    by_grid time value (inl none) = rw none.0 tt
    by_grid time value (inr some) =
        let low = some.0.0 in
        let other : (time == 0) ≡ false = grind (arith, nat_tests, low) in
        rw other (record { time = some.0; value = some.1 })

-- the budget of a plan
pub budget_fits : (c : CommandWords) → IsWithinLimits c → c.verb ≡ Plan → IsWithin 1 1000000 c.budget
budget_fits c limits v = subst (λ w. HasItsOwn w c) v limits.own

calm : (abandon seeks : Bool) → at_most_one (true ∷ (abandon || seeks) ∷ []) ≡ true → abandon ≡ false
calm false seeks h = refl
calm true seeks h = cc

first_of : (a b : Bool) → (a && b) ≡ true → a ≡ true
first_of true b e = refl
first_of false b e = cc

-- words that ask for regrets ask for no abandonment
pub calm_words : (c : CommandWords) → IsWithinLimits c → c.verb ≡ Compare → c.regret ≡ true → c.abandon ≡ false
calm_words c limits v r =
    let agreed : agrees Compare c ≡ true = subst (λ w. agrees w c ≡ true) v limits.agreed in
    let first = first_of (at_most_one (c.regret ∷ (c.abandon || is_some c.seeks) ∷ [])) (at_most_one (c.near ∷ not c.regret ∷ [])) agreed in
    calm c.abandon (is_some c.seeks) (subst (λ b. at_most_one (b ∷ (c.abandon || is_some c.seeks) ∷ []) ≡ true) r first)

-- the budget of the plans of a ranking
pub ranking_budget : (c : CommandWords) → IsWithinLimits c → c.verb ≡ Compare → c.regret ≡ true → IsWithin 1 1000000 c.budget
ranking_budget c limits v r = subst (λ b. IsBudget b c.budget) r (subst (λ w. HasItsOwn w c) v limits.own)
