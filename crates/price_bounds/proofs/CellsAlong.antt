-- The cells of the delays along a rung list: they are a list of cells that don't fall.
use Rattle.std.proofs.Common.{◌≡◌, ◌∙◌, ℕ, zero, suc, ◌+◌, ◌-◌, ◌<◌, ◌≤◌, List, [], ◌∷◌, length, map, get_or, Bool, true, ◌&&◌, refl, sym, ap, subst, arith}
use Rattle.std.specs.Prelude.{nat_le, slice_index}
use Rattle.std.specs.List.{All, Contains, range_with_len}
use Rattle.std.proofs.lemmas.Bool.{and_from, le-leb}
use Rattle.std.proofs.lemmas.List.FromFn.{get_or-map-range_with_len, length-map-range_with_len}
use Rattle.std.proofs.lemmas.List.Elements.{All-cons, All-nil}
use Rattle.lab_model.specs.Film.{segments_of}
use Rattle.player_core.specs.Scene.{IsTask, Task}
use Rattle.labels.specs.Labels.{AreRungs, label_at}
use Rattle.labels.proofs.Prefixes.{in_lists}
use Rattle.labels.proofs.Walks.{in_filter}
use Rattle.lab_model.specs.Mpc.{lists_of}
use Rattle.price_bounds.specs.Cells.{cells_of, farthest_delay, least_delay}
use Rattle.price_bounds.specs.LinkPart.{cell_in, is_rising, rising_cells}
use Rattle.price_bounds.proofs.Along.{delay_from, delay_near, delay_rises}
use Rattle.price_bounds.proofs.CellLaws.{IsCellOf, cell_below, cell_first, cell_found, cells_end, cells_rise}

-- ---- lists of what a function gives to places in turn

-- what doesn't fall is a rising list
pub rising_range : (f : ℕ → ℕ) (low from n : ℕ) → ((i : ℕ) → from ≤ i → i + 1 < from + n → f i ≤ f (i + 1)) → (0 < n → low ≤ f from) → is_rising low (map f (range_with_len from n)) ≡ true
rising_range f low from zero rises h = refl
rising_range f low from (suc n) rises h =
    and_from _ _ (le-leb _ _ (h (omega arith)))
    (rising_range f (f from) (from + 1) n (λ i late early. rises i (omega (arith, late)) (omega (arith, early))) (λ some. rises from (omega arith) (omega (arith, some))))

-- what lies below a count is a list of such
pub below_range : (f : ℕ → ℕ) (count from n : ℕ) → ((i : ℕ) → from ≤ i → i < from + n → f i < count) → All (λ c. c < count) (map f (range_with_len from n))
below_range f count from zero h = All-nil (λ c. c < count)
below_range f count from (suc n) h =
    All-cons (λ c. c < count) (f from) (map f (range_with_len (from + 1) n)) (h from (omega arith) (omega arith))
    (below_range f count (from + 1) n (λ i low high. h i (omega (arith, low)) (omega (arith, high))))

-- ---- the cells along a rung list

module _ (g : Task) (rungs : List ℕ) where
  -- the cell of the delay of a segment
  abbrev pub cell_along : ℕ → ℕ
  cell_along i = cell_below (label_at g rungs 0).p (label_at g rungs i).p (cells_of (label_at g rungs 0).p)

  -- the cells of all segments but the first
  abbrev pub cells_along : List ℕ
  cells_along = map cell_along (range_with_len 1 (segments_of g.film - 1))

module _ (g : Task) (is : IsTask g) (rungs : List ℕ) (fits : AreRungs g (segments_of g.film) rungs) where
  inside : (i : ℕ) → i < segments_of g.film → (cell_along g rungs i < cells_of (label_at g rungs 0).p) × IsCellOf (label_at g rungs 0).p (label_at g rungs i).p (cell_along g rungs i)
  inside i low =
      let near = delay_near g is rungs fits i low in
      let far = (cells_end (label_at g rungs 0).p).1 in
      cell_found (label_at g rungs 0).p (label_at g rungs i).p (delay_from g rungs i) (cells_of (label_at g rungs 0).p) (omega (arith, near, far))

  -- the cell of each segment
  pub cell_is : (i : ℕ) → i < segments_of g.film → cell_in (cells_along g rungs) i ≡ cell_along g rungs i
  cell_is zero low = sym (cell_first (label_at g rungs 0).p (cell_along g rungs 0) (inside 0 low).1)
  cell_is (suc i) low =
      let short : i < segments_of g.film - 1 = omega (arith, low) in
      get_or-map-range_with_len (cell_along g rungs) 1 (segments_of g.film - 1) i (suc i) 0 short (omega arith)

  -- the delay of each segment lies in its cell
  pub in_cell : (i : ℕ) → i < segments_of g.film → IsCellOf (label_at g rungs 0).p (label_at g rungs i).p (cell_in (cells_along g rungs) i)
  in_cell i low = subst (IsCellOf (label_at g rungs 0).p (label_at g rungs i).p) (sym (cell_is i low)) (inside i low).1

  -- they are among the lists of cells that don't fall
  pub cells_rising : Contains (rising_cells (segments_of g.film) (label_at g rungs 0).p) (cells_along g rungs)
  cells_rising =
      let few = segments_of g.film - 1 in
      let first = (label_at g rungs 0).p in
      let rise = λ (i : ℕ) (low : i + 1 < segments_of g.film). next_cell i low in
      in_filter (is_rising 0) (lists_of (cells_of first) few) (cells_along g rungs)
      (in_lists (cells_of first) few (cells_along g rungs) (length-map-range_with_len (cell_along g rungs) 1 few)
      (below_range (cell_along g rungs) (cells_of first) 1 few (λ i late early. (inside i (omega (arith, late, early))).0)))
      (rising_range (cell_along g rungs) 0 1 few (λ i late early. rise i (omega (arith, late, early))) (λ some. omega arith))
    where
      next_cell : (i : ℕ) → i + 1 < segments_of g.film → cell_along g rungs i ≤ cell_along g rungs (i + 1)
      next_cell i low =
          let same : suc i ≡ i + 1 = omega arith in
          let rises = subst (λ k. (label_at g rungs i).p ≤ (label_at g rungs k).p) same (delay_rises g rungs i) in
          cells_rise (label_at g rungs 0).p (label_at g rungs i).p (label_at g rungs (i + 1)).p (cell_along g rungs i) (cell_along g rungs (i + 1)) rises (inside i (omega (arith, low))).1 (inside (i + 1) low).1
