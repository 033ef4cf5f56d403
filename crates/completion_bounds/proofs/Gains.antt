-- Completion bounds: how far they lie from 0, and where one serves all rungs.
use Rattle.std.proofs.Common.{◌≡◌, ◌∙◌, ◌⊎◌, ℕ, zero, suc, ◌+◌, ◌-◌, ◌*◌, ◌<◌, ◌≤◌, ⊎_elim, sym, ap, subst, arith, mul-le-mul}
use Rattle.std.specs.Prelude.{ℤ, pos, ◌+ℤ◌, ◌-ℤ◌, ◌==◌, Some}
use Rattle.std.proofs.lemmas.Bool.{cases_eq, cases_lt, cond-false, cond-true, eq-eqb, ne_eqb}
use Rattle.std.proofs.lemmas.Int.{ints}
use Rattle.lab_model.specs.Film.{rungs_of, segments_of}
use Rattle.lab_model.specs.Number.{IsNear}
use Rattle.lab_model.specs.Weighing.{HasUtility, change_of, utility_of}
use Rattle.lab_model.proofs.Rows.{utility_limit}
use Rattle.player_core.specs.Scene.{IsTask, Task}
use Rattle.completion_bounds.specs.Gain.{column_of, gain, gain_left, point_of}
use Rattle.completion_bounds.specs.Grid.{GridParts, IsTableGrid, kinds_of, row_delay, delay_row}
use Rattle.completion_bounds.specs.Table.{kind_among, most_gain, most_step, step_gain}
use Rattle.completion_bounds.proofs.Bounded.{gain_last, gain_next, gain_on}
use Rattle.completion_bounds.proofs.Greatest.{greatest_near, greatest_same}
use Rattle.completion_bounds.proofs.Sizes.{kinds_are}

near_last : (stall delay : ℕ) → stall ≤ 1000000 → delay ≤ 1000000000000 → IsNear (1000000000000000000 + 0 * 1000000000000) (pos 0 -ℤ pos (stall * delay))
near_last stall delay few low = let most = mul-le-mul few low in record { low = omega (arith, ints, most); high = omega (arith, ints) }

near_next : (left : ℕ) (v : ℤ) (up down : ℕ) → up ≤ 1000000000 → down ≤ 1000000000000 → IsNear (1000000000000000000 + left * 1000000000000) v
    → IsNear (1000000000000000000 + suc left * 1000000000000) ((v +ℤ pos up) -ℤ pos down)
near_next left v up down few low h = let least = h.low in let most = h.high in record { low = omega (arith, ints, least, low); high = omega (arith, ints, most, few) }

near_all : (left : ℕ) (v : ℤ) → left ≤ 2000 → IsNear (1000000000000000000 + left * 1000000000000) v → IsNear most_gain v
near_all left v few h = let low = h.low in let high = h.high in record { low = omega (arith, ints, low, few); high = omega (arith, ints, high, few) }

near_step : (up down : ℕ) → up ≤ 1000000000 → down ≤ 1000000000000 → IsNear most_step (pos up -ℤ pos down)
near_step up down few low = record { low = omega (arith, ints, low); high = omega (arith, ints, few) }

loss_low : (switch change : ℕ) → switch ≤ 1000000 → change ≤ 1000000 → switch * change ≤ 1000000000000
loss_low switch change few low = let most = mul-le-mul few low in omega (arith, most)

module _ (g : Task) (is : IsTask g) where
  has_utility : (i q : ℕ) → i < segments_of g.film → q < rungs_of g.film → HasUtility g.setup.weights i q
  has_utility i q low rung =
      let fits = is.setup.utilities in
      let count = fits.rungs in
      (omega (arith, count, rung), λ some. ⊎_elim (λ (none : g.setup.weights.rows ≡ 0). absurd (omega (arith, some, none))) (λ (all : g.setup.weights.rows ≡ segments_of g.film). omega (arith, all, low)) fits.rows)

  utility_low : (i q : ℕ) → i < segments_of g.film → q < rungs_of g.film → utility_of g.setup.weights i q ≤ 1000000
  utility_low i q low rung = utility_limit g.setup.weights i q is.weights (has_utility i q low rung)

  up_low : (i r : ℕ) → i < segments_of g.film → r < rungs_of g.film → 1000 * utility_of g.setup.weights i r ≤ 1000000000
  up_low i r low rung = let u = utility_low i r low rung in omega (arith, u)

  down_low : (i q r : ℕ) → i < segments_of g.film → q < rungs_of g.film → r < rungs_of g.film → g.setup.weights.switch * change_of g.setup.weights i (Some q) r ≤ 1000000000000
  down_low i q r low before rung =
      let one = utility_low i q low before in
      let two = utility_low i r low rung in
      loss_low g.setup.weights.switch (change_of g.setup.weights i (Some q) r) is.weights.weights.switch_fits (omega (arith, one, two))

  -- what a rung gains by itself lies near 0
  pub step_near : (i q r : ℕ) → i < segments_of g.film → q < rungs_of g.film → r < rungs_of g.film → IsNear most_step (step_gain g.setup.weights i q r)
  step_near i q r low before rung = near_step _ _ (up_low i r low rung) (down_low i q r low before rung)

  module _ (d : GridParts) (grid : IsTableGrid d) where
    near_left : (left q k c : ℕ) → left < segments_of g.film → q < rungs_of g.film → IsNear (1000000000000000000 + left * 1000000000000) (gain_left g d left q k c)
    near_left zero q k c low rung =
        subst (IsNear (1000000000000000000 + 0 * 1000000000000)) (sym (gain_last g d q k c)) (near_last g.setup.weights.stall (row_delay d k) is.weights.weights.stall_fits (grid.delays k))
    near_left (suc left) q k c low rung =
        let next = segments_of g.film - suc left in
        let some = is.film.rungs.0 in
        subst (IsNear (1000000000000000000 + suc left * 1000000000000)) (sym (gain_next g d left q k c))
        (greatest_near (1000000000000000000 + suc left * 1000000000000) (gain_on g d left next q k c) (rungs_of g.film - 1) (λ r below.
        let inside : r < rungs_of g.film = omega (arith, below, some) in
        let l = point_of g d next k c r in
        near_next left (gain_left g d left r (delay_row d l.p) (column_of g d next l)) _ _ (up_low next r (omega (arith, low)) inside) (down_low next q r (omega (arith, low)) rung inside)
        (near_left left r (delay_row d l.p) (column_of g d next l) (omega (arith, low)) inside)))

    -- completion bounds lie near 0
    pub gain_near : (left q k c : ℕ) → left < segments_of g.film → q < rungs_of g.film → IsNear most_gain (gain_left g d left q k c)
    gain_near left q k c low rung = near_all left (gain_left g d left q k c) (let few = is.film.segments.1 in omega (arith, few, low)) (near_left left q k c low rung)

no_loss : (switch x y : ℕ) (a : ℤ) → switch ≡ 0 → (a -ℤ pos (switch * x)) ≡ (a -ℤ pos (switch * y))
no_loss switch x y a e = ap (λ s. a -ℤ pos (s * x)) e ∙ omega (arith, ints) ∙ ap (λ s. a -ℤ pos (s * y)) (sym e)

-- where a change costs nothing, one serves all rungs
same_kind : (g : Task) (d : GridParts) → g.setup.weights.switch ≡ 0 → (left q r k c : ℕ) → gain_left g d left q k c ≡ gain_left g d left r k c
same_kind g d free zero q r k c = gain_last g d q k c ∙ sym (gain_last g d r k c)
same_kind g d free (suc left) q r k c =
    let next = segments_of g.film - suc left in
    gain_next g d left q k c
    ∙ greatest_same (gain_on g d left next q k c) (gain_on g d left next r k c) (rungs_of g.film - 1)
    (λ j low. no_loss g.setup.weights.switch (change_of g.setup.weights next (Some q) j) (change_of g.setup.weights next (Some r) j) _ free)
    ∙ sym (gain_next g d left r k c)

-- the kind of a rung has its completion bounds
pub kind_serves : (g : Task) (d : GridParts) (left q k c : ℕ) → q < rungs_of g.film → gain_left g d left (kind_among (kinds_of g) q) k c ≡ gain_left g d left q k c
kind_serves g d left q k c rung =
    ⊎_elim (λ (free : (g.setup.weights.switch ≡ 0) × (kinds_of g ≡ 1)). same_kind g d free.0 left (kind_among (kinds_of g) q) q k c)
    (λ (all : kinds_of g ≡ rungs_of g.film).
    ⊎_elim (λ (one : kinds_of g ≡ 1).
    let first : q ≡ 0 = omega (arith, one, all, rung) in
    ap (λ n. gain_left g d left n k c) (cond-true (kinds_of g == 1) 0 q (eq-eqb (kinds_of g) 1 one) ∙ sym first))
    (λ more. ap (λ n. gain_left g d left n k c) (cond-false (kinds_of g == 1) 0 q (ne_eqb (kinds_of g) 1 more))) (cases_eq (kinds_of g) 1)) (kinds_are g)

-- it is one of the kinds
pub kind_inside : (g : Task) (q : ℕ) → q < rungs_of g.film → kind_among (kinds_of g) q < kinds_of g
kind_inside g q rung =
    ⊎_elim (λ (one : kinds_of g ≡ 1). let e = cond-true (kinds_of g == 1) 0 q (eq-eqb (kinds_of g) 1 one) in omega (arith, e, one))
    (λ more. let e = cond-false (kinds_of g == 1) 0 q (ne_eqb (kinds_of g) 1 more) in
    ⊎_elim (λ (free : (g.setup.weights.switch ≡ 0) × (kinds_of g ≡ 1)). absurd (more free.1)) (λ (all : kinds_of g ≡ rungs_of g.film). omega (arith, e, all, rung)) (kinds_are g)) (cases_eq (kinds_of g) 1)

-- the same where the kinds are one, or as many as the rungs
pub kind_less : (kinds n q : ℕ) → (kinds ≡ 1) ⊎ (kinds ≡ n) → q < n → kind_among kinds q < kinds
kind_less kinds n q one_or_all low =
    ⊎_elim (λ (one : kinds ≡ 1). let e = cond-true (kinds == 1) 0 q (eq-eqb kinds 1 one) in omega (arith, e, one))
    (λ more. let e = cond-false (kinds == 1) 0 q (ne_eqb kinds 1 more) in
    ⊎_elim (λ (one : kinds ≡ 1). absurd (more one)) (λ (all : kinds ≡ n). omega (arith, e, all, low)) one_or_all) (cases_eq kinds 1)

-- the number of a rung's kind is its completion bound; of the last segment the column doesn't count
pub number_is_gain : (g : Task) (d : GridParts) (segment q k c own left : ℕ) → q < rungs_of g.film → left ≡ segments_of g.film - (segment + 1) → (segment + 1 < segments_of g.film → c ≡ own)
    → gain_left g d left (kind_among (kinds_of g) q) k c ≡ gain g d segment q k own
number_is_gain g d segment q k c own left rung e same =
    kind_serves g d left q k c rung
    ∙ ⊎_elim (λ (inside : segment + 1 < segments_of g.film). ap (gain_left g d left q k) (same inside) ∙ ap (λ n. gain_left g d n q k own) e)
    (λ last.
    let none : left ≡ 0 = omega (arith, e, last) in
    ap (λ n. gain_left g d n q k c) none ∙ gain_last g d q k c ∙ sym (gain_last g d q k own) ∙ ap (λ n. gain_left g d n q k own) (sym none ∙ e)) (cases_lt (segment + 1) (segments_of g.film))
