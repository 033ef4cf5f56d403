-- The list part step by step: its table says the most that all rungs behind a segment gain.
use Rattle.std.proofs.Common.{◌≡◌, ◌∙◌, ℕ, zero, suc, ◌+◌, ◌-◌, ◌*◌, ◌≤◌, ◌<◌, List, [], ◌∷◌, length, map, Some, refl, sym, ap, ap₂, subst, arith, mul-le-mul}
use Rattle.std.specs.Prelude.{ℤ, pos, ◌+ℤ◌, ◌-ℤ◌, ◌≤ℤ◌, slice_index_or}
use Rattle.std.specs.List.{All, Contains}
use Rattle.std.proofs.lemmas.Int.{ints}
use Rattle.std.proofs.lemmas.List.Elements.{All-cons, All-from_get_or, All-head, All-nil, All-tail}
use Rattle.std.proofs.lemmas.List.Sums.{sum_by-cons}
use Rattle.lab_model.specs.declared.context.Played.{Played}
use Rattle.lab_model.specs.Film.{rungs_of, segments_of, size_of}
use Rattle.lab_model.specs.Mpc.{lists_of}
use Rattle.lab_model.specs.Sums.{changes_of, played_from, utilities_of}
use Rattle.lab_model.specs.Weighing.{change_of, utility_of}
use Rattle.player_core.specs.Scene.{IsTask, Task}
use Rattle.player_core.proofs.Runs.{size_within}
use Rattle.lab_model.specs.Number.{IsNear}
use Rattle.labels.proofs.AlongLists.{segment_on}
use Rattle.labels.proofs.Prefixes.{from_lists, in_lists}
use Rattle.price_bounds.proofs.Limits.{change_low, utility_low}
use Rattle.price_bounds.specs.declared.window.Window.{Window}
use Rattle.price_bounds.specs.ListPart.{list_gain, list_part, priced_bits}
use Rattle.price_bounds.specs.Steps.{AreSteps, CanFollow, Follow, IsMost, IsTable, gain_along}
use Rattle.price_bounds.specs.Tables.{most_list_worth, rung_gain, rung_gains, rung_moves}
use Rattle.price_bounds.specs.Windows.{price_of, price_unit}
use Rattle.price_bounds.proofs.Greatest.{greatest_is}

-- ---- what rungs gain

gain_none : (sw : ℕ) → (pos (price_unit * (1000 * 0)) -ℤ pos (price_unit * (sw * 0) + 1000 * 0)) ≡ pos 0
gain_none sw = omega (arith, ints)

gain_more : (u us sw c cs own bits : ℕ)
    → (pos (price_unit * (1000 * (u + us))) -ℤ pos (price_unit * (sw * (c + cs)) + 1000 * (own + bits)))
    ≡ (pos (price_unit * (1000 * u)) -ℤ pos (price_unit * (sw * c) + 1000 * own)) +ℤ (pos (price_unit * (1000 * us)) -ℤ pos (price_unit * (sw * cs) + 1000 * bits))
gain_more u us sw c cs own bits = omega (arith, ints)

module _ (g : Task) (ws : List Window) where
  -- what rungs gain is the sum of what each gains
  pub gains_along : (i before : ℕ) (rungs : List ℕ) → list_gain g ws i before rungs ≡ gain_along (rung_gains g ws) i before rungs
  gains_along i before [] = gain_none g.setup.weights.switch
  gains_along i before (r ∷ rs) =
      let w = g.setup.weights in
      let ps = played_from (i + 1) rs in
      let price = price_of ws i in
      let own = price * size_of g.film i r in
      ap (λ n. pos (price_unit * (1000 * (utility_of w i r + utilities_of w ps))) -ℤ pos (price_unit * (w.switch * (change_of w i (Some before) r + changes_of w (Some r) ps)) + 1000 * n))
      (sum_by-cons (λ (p : Played). price_of ws p.segment * size_of g.film p.segment p.rung) (segment_on i r) ps)
      ∙ gain_more (utility_of w i r) (utilities_of w ps) w.switch (change_of w i (Some before) r) (changes_of w (Some r) ps) own (priced_bits g ws ps)
      ∙ ap (λ v. rung_gain g price i before r +ℤ v) (gains_along (i + 1) r rs)

-- ---- which lists they are

module _ (g : Task) where
  -- rungs of the ladder follow one another
  pub rungs_follow : (before : ℕ) (rungs : List ℕ) → All (λ q. q < rungs_of g.film) rungs → Follow (rung_moves g) before rungs
  rungs_follow before [] h = tt
  rungs_follow before (r ∷ rs) h =
      (record { from = omega arith; below = All-head (λ q. q < rungs_of g.film) r rs h }, rungs_follow r rs (All-tail (λ q. q < rungs_of g.film) r rs h))

  -- and what follows one another are rungs of the ladder
  pub follow_rungs : (before : ℕ) (rungs : List ℕ) → Follow (rung_moves g) before rungs → All (λ q. q < rungs_of g.film) rungs
  follow_rungs before [] h = All-nil (λ q. q < rungs_of g.film)
  follow_rungs before (r ∷ rs) h = let low = h.0.below in All-cons (λ q. q < rungs_of g.film) r rs low (follow_rungs r rs h.1)

  -- the most of all steps is the list part
  pub list_part_is : (ws : List Window) (q : ℕ) (most : ℤ) → IsMost (rung_moves g) (rung_gains g ws) (segments_of g.film - 1) 1 q most → most ≡ list_part g ws q
  unfolding list_part
  list_part_is ws q most h =
      let n = segments_of g.film - 1 in
      greatest_is (list_gain g ws 1 q) (lists_of (rungs_of g.film) n) h.list most
      (in_lists (rungs_of g.film) n h.list h.fits.0 (follow_rungs q h.list h.fits.1))
      (gains_along g ws 1 q h.list ∙ h.reached)
      (λ l there. let all = from_lists (rungs_of g.film) n l there in
      subst (λ v. v ≤ℤ most) (sym (gains_along g ws 1 q l)) (h.bounds l (all.0, rungs_follow q l all.1)))

-- ---- how far they lie from 0

near_gain : (u sw c price size : ℕ) → u ≤ 1000000 → sw ≤ 1000000 → c ≤ 1000000 → price ≤ 4000000000000000 → size ≤ 200000000
    → IsNear 1000000000000000000000000000 (pos (price_unit * (1000 * u)) -ℤ pos (price_unit * (sw * c) + 1000 * (price * size)))
near_gain u sw c price size few s t p z =
    let switch = mul-le-mul s t in
    let bits = mul-le-mul p z in
    record { low = omega (arith, ints, switch, bits); high = omega (arith, ints, few) }

-- what a rung costs fits
pub loss_low : (sw c price size : ℕ) → sw ≤ 1000000 → c ≤ 1000000 → price ≤ 4000000000000000 → size ≤ 200000000
    → 1000000000 * (sw * c) + 1000 * (price * size) ≤ 100000000000000000000000000000000000000
loss_low sw c price size s t p z = let switch = mul-le-mul s t in let bits = mul-le-mul p z in omega (arith, switch, bits)

near_more : (n : ℕ) (a b : ℤ) → IsNear 1000000000000000000000000000 a → IsNear (n * 1000000000000000000000000000) b → IsNear (suc n * 1000000000000000000000000000) (a +ℤ b)
near_more n a b h k = let low = h.low in let high = h.high in let below = k.low in let above = k.high in record { low = omega (arith, ints, low, below); high = omega (arith, ints, high, above) }

near_list : (n : ℕ) (v : ℤ) → n ≤ 2000 → IsNear (n * 1000000000000000000000000000) v → IsNear most_list_worth v
near_list n v few h = let low = h.low in let high = h.high in record { low = omega (arith, ints, low, few); high = omega (arith, ints, high, few) }

module _ (g : Task) (is : IsTask g) where
  -- what a rung gains
  pub gain_near : (price i before r : ℕ) → i < segments_of g.film → before < rungs_of g.film → r < rungs_of g.film → price ≤ 4000000000000000
      → IsNear 1000000000000000000000000000 (rung_gain g price i before r)
  gain_near price i before r low old new few =
      near_gain (utility_of g.setup.weights i r) g.setup.weights.switch (change_of g.setup.weights i (Some before) r) price (size_of g.film i r)
      (utility_low g is i r low new) is.weights.weights.switch_fits (change_low g is i before r low old new) few (size_within g.film i r is.film low new).1

  module _ (ws : List Window) (cheap : (i : ℕ) → price_of ws i ≤ 4000000000000000) where
    -- what rungs gain
    along_near : (i before : ℕ) (rungs : List ℕ) → i + length rungs ≤ segments_of g.film → before < rungs_of g.film → Follow (rung_moves g) before rungs
        → IsNear (length rungs * 1000000000000000000000000000) (gain_along (rung_gains g ws) i before rungs)
    along_near i before [] long old h = record { low = omega (arith, ints); high = omega (arith, ints) }
    along_near i before (r ∷ rs) long old h =
        let new = h.0.below in
        near_more (length rs) (rung_gain g (price_of ws i) i before r) (gain_along (rung_gains g ws) (i + 1) r rs)
        (gain_near (price_of ws i) i before r (omega (arith, long)) old new (cheap i)) (along_near (i + 1) r rs (omega (arith, long)) new h.1)

    -- and what stands in a table
    pub table_near : (n i : ℕ) (table : List ℤ) → i + n ≤ segments_of g.film → IsTable (rung_moves g) (rung_gains g ws) n i table → All (IsNear most_list_worth) table
    table_near n i table long h =
        let count = h.count in
        All-from_get_or (IsNear most_list_worth) table (pos 0) (λ c low.
        let most = h.each c (omega (arith, low, count)) in
        let fits = most.fits.0 in
        let few = is.film.segments.1 in
        subst (IsNear most_list_worth) most.reached
        (near_list (length most.list) (gain_along (rung_gains g ws) i c most.list) (omega (arith, long, fits, few))
        (along_near i c most.list (omega (arith, long, fits)) (omega (arith, low, count)) most.fits.1)))
