-- How large tables are.
use Rattle.std.proofs.Common.{◌≡◌, ◌∙◌, ◌⊎◌, inl, inr, ℕ, ◌+◌, ◌*◌, ◌/◌, ◌<◌, ◌≤◌, ⊎_elim, true, false, length, sym, ap, arith, mul-le-mul, mul-le-mul_left}
use Rattle.std.specs.Prelude.{◌==◌}
use Rattle.std.proofs.lemmas.Bool.{cases_Bool, cond-false, cond-true, eqb-true}
use Rattle.std.proofs.lemmas.Nat.{div-mul-add, mul-add-lt}
use Rattle.lab_model.specs.Film.{rungs_of, segments_of}
use Rattle.player_core.specs.Scene.{IsTask, Task}
use Rattle.completion_bounds.specs.Grid.{GridParts, IsGridOf, kinds_of, layer_numbers, most_numbers}
use Rattle.completion_bounds.specs.Table.{cell_at, cells_of}

-- the kinds are one, or the rungs
pub kinds_are : (g : Task) → ((g.setup.weights.switch ≡ 0) × (kinds_of g ≡ 1)) ⊎ (kinds_of g ≡ rungs_of g.film)
kinds_are g =
    let free = g.setup.weights.switch == 0 in
    ⊎_elim (λ (yes : free ≡ true). inl (eqb-true g.setup.weights.switch 0 yes, cond-true free 1 (rungs_of g.film) yes))
    (λ (no : free ≡ false). inr (cond-false free 1 (rungs_of g.film) no)) (cases_Bool free)

-- some, and not more than the rungs
pub kinds_within : (g : Task) → IsTask g → (1 ≤ kinds_of g) × (kinds_of g ≤ rungs_of g.film)
kinds_within g is =
    let some = is.film.rungs.0 in
    ⊎_elim (λ (free : (g.setup.weights.switch ≡ 0) × (kinds_of g ≡ 1)). let one = free.1 in (omega (arith, one), omega (arith, one, some)))
    (λ (all : kinds_of g ≡ rungs_of g.film). (omega (arith, all, some), omega (arith, all))) (kinds_are g)

-- what a product of 1 and more is at least
more_of : (a b most : ℕ) → 1 ≤ a → a * b ≤ most → b ≤ most
more_of a b most some low = let same : b ≤ b = omega arith in let one = mul-le-mul some same in omega (arith, one, low)

module _ (g : Task) (is : IsTask g) (d : GridParts) (fits : IsGridOf g d) where
  -- the numbers of a layer are few
  pub layer_few : layer_numbers g d ≤ most_numbers
  layer_few = more_of (segments_of g.film) (layer_numbers g d) most_numbers is.film.segments.0 fits.numbers

  -- so are its cells
  pub cells_few : cells_of d ≤ most_numbers
  cells_few = let few = layer_few in more_of (kinds_of g) (cells_of d) most_numbers (kinds_within g is).0 (omega (arith, few))

  -- and its columns
  pub columns_few : d.columns + 1 ≤ most_numbers
  columns_few = more_of (length d.rows) (d.columns + 1) most_numbers fits.grid.some cells_few

  -- the numbers of a row are few
  pub row_few : (d.columns + 1) * kinds_of g ≤ most_numbers
  row_few = let few = layer_few in more_of (length d.rows) ((d.columns + 1) * kinds_of g) most_numbers fits.grid.some (omega (arith, few))

-- a cell is one of those of the layer
pub cell_inside : (d : GridParts) (row column : ℕ) → row < length d.rows → column ≤ d.columns → cell_at d row column < cells_of d
cell_inside d row column low short = let place = mul-add-lt row (d.columns + 1) column (length d.rows) low (omega (arith, short)) in omega (arith, place)

-- a number of a cell is one of those of the layer
pub place_inside : (cells kinds cell kind : ℕ) → cell < cells → kind < kinds → cell * kinds + kind < cells * kinds
place_inside cells kinds cell kind low less = let place = mul-add-lt cell kinds kind cells low less in omega (arith, place)

-- the product of counts
pub numbers_fit : (n k c kinds : ℕ) → n ≤ 2000 → k < 18446744073709551616 → c < 4294967296 → kinds ≤ 16
    → (k * (c + 1) * kinds ≤ 2535301200456458802993406410752) × (n * (k * (c + 1) * kinds) ≤ 10141204801825835211973625643008000)
numbers_fit n k c kinds few low short some =
    let rows : k ≤ 18446744073709551616 = omega (arith, low) in
    let columns : c + 1 ≤ 4294967296 = omega (arith, short) in
    let cells = mul-le-mul rows columns in
    let layer = mul-le-mul cells some in
    let one : k * (c + 1) * kinds ≤ 2535301200456458802993406410752 = omega (arith, layer) in
    let all = mul-le-mul few one in
    (one, omega (arith, all))

-- the steps of a row and a column are few
pub steps_low : (step m columns steps : ℕ) → step ≤ 10000 → step * m ≤ 1000000000000 → columns + 1 ≤ 64000000 → steps ≤ m + columns → step * steps ≤ 1700000000000
steps_low step m columns steps few low short inside =
    let all = mul-le-mul_left step inside in
    let less : columns ≤ 64000000 = omega (arith, short) in
    let wide = mul-le-mul few less in
    omega (arith, all, low, wide)

-- where two numbers are put together alike, their parts are the same
pub same_parts : (w a b q r : ℕ) → b < w → r < w → q * w + r ≡ a * w + b → (q ≡ a) × (r ≡ b)
same_parts w a b q r low less e =
    let row : q ≡ a = sym (div-mul-add q w r less) ∙ ap (λ x. x / w) e ∙ div-mul-add a w b low in
    let base = ap (λ x. x * w) row in
    (row, omega (arith, e, base))
