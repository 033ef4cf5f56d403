-- Whatever list goes on from a label ends at no more than its value and its completion bound.
use Rattle.std.proofs.Common.{◌≡◌, ◌∙◌, ℕ, zero, suc, ◌+◌, ◌-◌, ◌*◌, ◌<◌, ◌≤◌, List, [], ◌∷◌, refl, sym, ap, subst, arith, mul-le-mul_left}
use Rattle.std.specs.Prelude.{ℤ, pos, ◌+ℤ◌, ◌-ℤ◌, ◌≤ℤ◌}
use Rattle.std.proofs.lemmas.Int.{ints}
use Rattle.std.proofs.lemmas.List.Elements.{All-head, All-tail}
use Rattle.lab_model.proofs.Orders.{≤ℤ_trans}
use Rattle.lab_model.specs.declared.label.Label.{Label}
use Rattle.lab_model.specs.Film.{rungs_of, segments_of}
use Rattle.player_core.specs.Scene.{IsTask, Task}
use Rattle.labels.specs.Labels.{AreRungs, end_value, next_label, next_value, request_at}
use Rattle.labels.proofs.Inherits.{came_in_order}
use Rattle.completion_bounds.specs.Gain.{column_of, gain_left, greatest_on, point_of, cell_request}
use Rattle.completion_bounds.specs.Grid.{GridParts, IsTableGrid, row_delay, delay_row}
use Rattle.completion_bounds.specs.Laws.{CompletionsAreBounded, label_after}
use Rattle.completion_bounds.proofs.Greatest.{greatest_bounds}
use Rattle.completion_bounds.proofs.Rows.{request_not_later, row_not_longer}

-- what a rung of a segment gains after those of a rung, a row and a column
abbrev pub gain_on : Task → GridParts → ℕ → ℕ → ℕ → ℕ → ℕ → ℕ → ℤ
gain_on g d left next q k c r =
    let l = point_of g d next k c r in next_value g.setup.weights next q (gain_left g d left r (delay_row d l.p) (column_of g d next l)) r

-- the completion bound of the last segment
pub gain_last : (g : Task) (d : GridParts) (q k c : ℕ) → gain_left g d 0 q k c ≡ pos 0 -ℤ pos (g.setup.weights.stall * row_delay d k)
unfolding gain_left
gain_last g d q k c = refl

-- and of one before it
pub gain_next : (g : Task) (d : GridParts) (left q k c : ℕ) → gain_left g d (suc left) q k c ≡ greatest_on g (gain_on g d left (segments_of g.film - suc left) q k c)
unfolding gain_left
gain_next g d left q k c = refl

ends_low : (v : ℤ) (stall delay row : ℕ) → row ≤ delay → (v -ℤ pos (stall * delay)) ≤ℤ (v +ℤ (pos 0 -ℤ pos (stall * row)))
ends_low v stall delay row low = let less = mul-le-mul_left stall low in omega (arith, ints, less)

-- a value may be gained before or after
moved : (v gained : ℤ) (up down : ℕ) → (((v +ℤ pos up) -ℤ pos down) +ℤ gained) ≡ (v +ℤ ((gained +ℤ pos up) -ℤ pos down))
moved v gained up down = omega (arith, ints)

raised : (v a b : ℤ) → a ≤ℤ b → (v +ℤ a) ≤ℤ (v +ℤ b)
raised v a b h = omega (arith, ints)

module _ (g : Task) (is : IsTask g) (d : GridParts) (grid : IsTableGrid d) where
  -- a rung's gain is no more than the completion bound
  gain_above : (left i q k c r : ℕ) → i + suc (suc left) ≡ segments_of g.film → r < rungs_of g.film → gain_on g d left (i + 1) q k c r ≤ℤ gain_left g d (suc left) q k c
  gain_above left i q k c r e low =
      let next : i + 1 ≡ segments_of g.film - suc left = omega (arith, e) in
      subst (λ v. gain_on g d left (i + 1) q k c r ≤ℤ v) (ap (λ s. greatest_on g (gain_on g d left s q k c)) next ∙ sym (gain_next g d left q k c))
      (greatest_bounds (gain_on g d left (i + 1) q k c) (rungs_of g.film - 1) r (omega (arith, low)))

  -- with so many segments left
  pub bounded : (left i q : ℕ) → i + suc left ≡ segments_of g.film → (early l : Label) → early.t ≤ l.t → early.p ≤ l.p
      → (rungs : List ℕ) → AreRungs g left rungs
      → end_value g (label_after g i q l rungs) ≤ℤ (l.v +ℤ gain_left g d left q (delay_row d early.p) (column_of g d i early))
  bounded zero i q e early l t p [] h =
      let row = row_not_longer d grid early.p in
      subst (λ v. end_value g l ≤ℤ (l.v +ℤ v)) (sym (gain_last g d q (delay_row d early.p) (column_of g d i early)))
      (ends_low l.v g.setup.weights.stall l.p (row_delay d (delay_row d early.p)) (omega (arith, row, p)))
  bounded zero i q e early l t p (r ∷ rs) h = absurd (let long = h.0 in omega (arith, long))
  bounded (suc left) i q e early l t p [] h = absurd (let long = h.0 in omega (arith, long))
  bounded (suc left) i q e early l t p (r ∷ rs) h =
      let k = delay_row d early.p in
      let c = column_of g d i early in
      let low = All-head (λ x. x < rungs_of g.film) r rs h.1 in
      let long = h.0 in
      let next = next_label g (i + 1) q l r in
      let point = point_of g d (i + 1) k c r in
      let row = row_not_longer d grid early.p in
      let own = request_not_later g d grid (i + 1) early in
      let request : cell_request g d (i + 1) k c ≤ request_at g (i + 1) l = omega (arith, own, t, p) in
      let came = came_in_order g is (i + 1) r (omega (arith, e)) low (cell_request g d (i + 1) k c) (request_at g (i + 1) l) request in
      let rest = bounded left (i + 1) r (omega (arith, e)) point next came (omega (arith, came, row, p)) rs (omega (arith, long), All-tail (λ x. x < rungs_of g.film) r rs h.1) in
      let gained = gain_left g d left r (delay_row d point.p) (column_of g d (i + 1) point) in
      ≤ℤ_trans (end_value g (label_after g (i + 1) r next rs)) (l.v +ℤ gain_on g d left (i + 1) q k c r) (l.v +ℤ gain_left g d (suc left) q k c)
      (subst (λ v. end_value g (label_after g (i + 1) r next rs) ≤ℤ v) (moved l.v gained _ _) rest)
      (raised l.v (gain_on g d left (i + 1) q k c r) (gain_left g d (suc left) q k c) (gain_above left i q k c r e low))

-- the law
pub completions_bounded : CompletionsAreBounded
completions_bounded g is d grid i q low early l t p rungs h =
    bounded g is d grid (segments_of g.film - (i + 1)) i q (omega (arith, low)) early l t p rungs h
