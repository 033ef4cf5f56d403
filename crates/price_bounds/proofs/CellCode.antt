-- What the code's numbers of a cell are.
use mir.Val.{SFits, of_z, to_z}
use Rattle.std.proofs.Common.{◌≡◌, ◌∙◌, ℕ, suc, ◌+◌, ◌-◌, ◌*◌, ◌≤◌, ◌<◌, List, [], ◌∷◌, ◌++◌, ⊎_elim, length, max, refl, sym, ap, ap₂, subst, arith, add-one, mul-le-mul}
use Rattle.std.specs.Prelude.{ℤ, pos, ◌+ℤ◌, ◌-ℤ◌, slice_index, slice_index_or}
use Rattle.std.proofs.Math.Seq.{get_or-append_seam}
use Rattle.std.proofs.lemmas.Bool.{cases_lt}
use Rattle.std.proofs.lemmas.Int.{ints}
use Rattle.std.proofs.lemmas.List.{get_or_append_left}
use Rattle.lab_model.specs.Film.{segments_of}
use Rattle.lab_model.specs.Number.{IsNear}
use Rattle.player_core.specs.Scene.{IsTask, Task}
use Rattle.price_bounds.specs.declared.window.Window.{Window}
use Rattle.price_bounds.specs.Cells.{cells_of, farthest_delay, greatest_delay, least_delay}
use Rattle.price_bounds.specs.LinkPart.{begin_at, carried_to, end_at}
use Rattle.std.specs.Int.{int_max, w128}
use Rattle.std.proofs.Math.ListN.{set}
use Rattle.price_bounds.specs.Steps.{IsTable}
use Rattle.price_bounds.specs.Tables.{AreEdges, IsBestOf, IsSteppedTo, beginning_worth, cell_gains, cell_moves, ending_worth, most_link_worth, most_worth}
use Rattle.price_bounds.specs.Windows.{AreCheap, CanBound, price_beginning, price_ending}
use Rattle.price_bounds.proofs.CellLaws.{cells_begin, least_first, least_from, least_next}
use Rattle.price_bounds.proofs.CellSteps.{best_first, best_more, stepped_all, stepped_first, stepped_more}
use Rattle.price_bounds.proofs.LinkTable.{cell_near, cell_table_near, end_most, priced_most}
use Rattle.price_bounds.proofs.PriceSums.{are_cheap, ending_price}

module _ (first : ℕ) (edges : List ℕ) (h : AreEdges first edges) where
  -- the first edge is the first delay
  pub edge_first : slice_index edges 0 ≡ first
  edge_first = h.each 0 (omega arith) ∙ least_first first

  -- so they are edges behind their first
  pub edges_own : AreEdges (slice_index edges 0) edges
  edges_own = subst (λ f. AreEdges f edges) (sym edge_first) h

  -- the edge of a cell, and the one behind it
  pub edge_is : (c : ℕ) → c < cells_of first → slice_index edges c ≡ least_delay first c
  edge_is c low = h.each c (omega (arith, low))

  pub next_edge : (c : ℕ) → c < cells_of first → slice_index edges (c + 1) ≡ least_delay first (suc c)
  next_edge c low = h.each (c + 1) (omega (arith, low)) ∙ ap (least_delay first) (add-one c)

  -- they are not far
  pub edge_low : (c : ℕ) → c < cells_of first → slice_index edges c ≤ farthest_delay
  edge_low c low = let e = edge_is c low in let near = cells_begin first c low in omega (arith, e, near)

  pub edge_from : (c : ℕ) → c < cells_of first → first ≤ slice_index edges c
  edge_from c low = let e = edge_is c low in let from = least_from first c in omega (arith, e, from)

  pub next_low : (c : ℕ) → c < cells_of first → (1 ≤ slice_index edges (c + 1)) × (slice_index edges (c + 1) - 1 ≤ 1015625000000)
  next_low c low =
      let e = next_edge c low in
      let near = cell_near first c low in
      let some = some_next c in
      (omega (arith, e, some), omega (arith, e, near))
    where
      some_next : (c : ℕ) → 1 ≤ least_delay first (suc c)
      some_next c = let e = least_next first c in omega (arith, e)

  module _ (g : Task) (ws : List Window) (segment c price worth : ℕ) (low : c < cells_of first) where
    -- the worth up to the latest end
    pub end_is : price ≡ price_ending ws segment → worth ≡ price * carried_to g (end_at g segment (slice_index edges (c + 1) - 1)) → worth ≡ ending_worth g ws first segment c
    end_is p e = e ∙ ap₂ (λ a d. a * carried_to g (end_at g segment d)) p (ap (λ n. n - 1) (next_edge c low))

    -- the worth before the earliest begin
    pub begin_is : price ≡ price_beginning ws segment → worth ≡ price * carried_to g (begin_at g first segment (slice_index edges c)) → worth ≡ beginning_worth g ws first segment c
    begin_is p e = e ∙ ap₂ (λ a d. a * carried_to g (begin_at g first segment d)) p (edge_is c low)

near_worth : (e : ℕ) (old best : ℤ) → e ≤ most_worth → IsNear most_link_worth old → best ≡ pos e +ℤ old → IsNear 81300000000000000000000000000000000000 best
near_worth e old best few h is = let low = h.low in let high = h.high in record { low = omega (arith, ints, few, low, is); high = omega (arith, ints, few, high, is) }

module _ (g : Task) (is : IsTask g) (ws : List Window) (can : CanBound (segments_of g.film) ws) (first n i : ℕ) (old : List ℤ) (inside : i + n ≤ segments_of g.film)
    (h : IsTable (cell_moves first) (cell_gains g ws first) n i old) where
  -- the old table's numbers
  pub old_near : (c : ℕ) → c < cells_of first → IsNear most_link_worth (slice_index_or old c (pos 0))
  old_near c low = cell_table_near g is ws (are_cheap (segments_of g.film) ws can) first n i old inside h c low

-- one number more at the end of a list, which is what a function gives to its place
pub pushed : (f : ℕ → ℤ) (k : ℕ) (xs : List ℤ) (v : ℤ) → length xs ≡ k → ((c : ℕ) → c < k → slice_index_or xs c (pos 0) ≡ f c) → v ≡ f k
    → (c : ℕ) → c < k + 1 → slice_index_or (xs ++ v ∷ []) c (pos 0) ≡ f c
pushed f k xs v count each is c low = ⊎_elim
    (λ (old : c < k). get_or_append_left xs (v ∷ []) (pos 0) c (omega (arith, old, count)) ∙ each c old)
    (λ (new : k ≤ c). let at : length xs ≡ c = omega (arith, count, low, new) in
    let here : k ≡ c = omega (arith, low, new) in
    ap (λ j. slice_index_or (xs ++ v ∷ []) j (pos 0)) (sym at) ∙ get_or-append_seam xs v [] (pos 0) ∙ is ∙ ap f here) (cases_lt c k)

-- what stalls cost fits
pub cost_low : (stall ms : ℕ) → stall ≤ 1000000 → ms ≤ 1000000000000 → 1000000000 * (stall * ms) ≤ 1000000000000000000000000000
cost_low stall ms few low = let most = mul-le-mul few low in omega (arith, most)

-- ---- one segment

module _ (g : Task) (ws : List Window) (first segment n : ℕ) (old : List ℤ) (h : IsTable (cell_moves first) (cell_gains g ws first) n (segment + 1) old) where
  -- nothing is done yet
  pub begun : IsSteppedTo (cell_moves first) (cell_gains g ws first) n segment old 0 old
  begun = stepped_first (cell_moves first) (cell_gains g ws first) n segment old (λ c. refl) (λ c. pos (ending_worth g ws first segment c)) (λ c. beginning_worth g ws first segment c) (λ before c. refl) h

  -- the last cell alone
  pub best_begun : (best : ℤ) → 1 ≤ cells_of first → best ≡ pos (ending_worth g ws first segment (cells_of first - 1)) +ℤ slice_index_or old (cells_of first - 1) (pos 0)
      → IsBestOf (cells_of first) 1 (λ c. pos (ending_worth g ws first segment c) +ℤ slice_index_or old c (pos 0)) best
  best_begun best some e = best_first (cells_of first) (λ c. pos (ending_worth g ws first segment c) +ℤ slice_index_or old c (pos 0)) best some e

  -- one cell more has its place in the table
  pub went_on : (done cell : ℕ) (table : List ℤ) (best value : ℤ) → cell + done + 1 ≡ cells_of first → value ≡ best -ℤ pos (beginning_worth g ws first segment cell)
      → IsSteppedTo (cell_moves first) (cell_gains g ws first) n segment old done table
      → IsBestOf (cells_of first) (max (done + 1) 1) (λ c. pos (ending_worth g ws first segment c) +ℤ slice_index_or old c (pos 0)) best
      → IsSteppedTo (cell_moves first) (cell_gains g ws first) n segment old (done + 1) (set table cell value)
  went_on done cell table best value e is s b =
      subst (λ v. IsSteppedTo (cell_moves first) (cell_gains g ws first) n segment old (done + 1) (set table cell v)) (sym is)
      (stepped_more (cell_moves first) (cell_gains g ws first) n segment old (λ c. refl) (λ c. pos (ending_worth g ws first segment c)) (λ c. beginning_worth g ws first segment c) (λ before c. refl)
      done cell table best h e s b)

  -- all of them
  pub all_done : (done : ℕ) (table : List ℤ) → cells_of first ≤ done → IsSteppedTo (cell_moves first) (cell_gains g ws first) n segment old done table
      → IsTable (cell_moves first) (cell_gains g ws first) (suc n) segment table
  all_done done table all s =
      stepped_all (cell_moves first) (cell_gains g ws first) n segment old (λ c. refl) (λ c. pos (ending_worth g ws first segment c)) (λ c. beginning_worth g ws first segment c) (λ before c. refl)
      done table all s

-- the best so far is not far from 0
pub best_near : (g : Task) (ws : List Window) (first segment last : ℕ) (old : List ℤ) (best : ℤ)
    → ((c : ℕ) → c < cells_of first → ending_worth g ws first segment c ≤ most_worth) → ((c : ℕ) → c < cells_of first → IsNear most_link_worth (slice_index_or old c (pos 0)))
    → IsBestOf (cells_of first) last (λ c. pos (ending_worth g ws first segment c) +ℤ slice_index_or old c (pos 0)) best → IsNear 81300000000000000000000000000000000000 best
best_near g ws first segment last old best few near b =
    near_worth (ending_worth g ws first segment b.place) (slice_index_or old b.place (pos 0)) best (few b.place b.below) (near b.place b.below) b.reached

-- what the windows that end with a segment are worth
pub ending_low : (g : Task) → IsTask g → (ws : List Window) → CanBound (segments_of g.film) ws → (first segment : ℕ) → segment < segments_of g.film
    → (c : ℕ) → c < cells_of first → ending_worth g ws first segment c ≤ most_worth
ending_low g is ws can first segment low c inside =
    priced_most (price_ending ws segment) (carried_to g (end_at g segment (greatest_delay first c))) (ending_price (segments_of g.film) ws can segment) (end_most g is segment (greatest_delay first c) low (cell_near first c inside))

-- ---- in 128 bits

-- the best less what a begin is worth fits
pub less_fits : (best : ℤ) (begin : ℕ) → IsNear 81300000000000000000000000000000000000 best → begin ≤ most_worth → SFits w128 (to_z w128 (of_z w128 best) -ℤ to_z w128 begin)
less_fits best begin near few = let low = near.low in let high = near.high in omega (arith, ints, low, high, few)

-- and is what it is
pub less_is : (best : ℤ) (begin worth : ℕ) → IsNear 81300000000000000000000000000000000000 best → begin ≤ most_worth → begin ≡ worth
    → to_z w128 (of_z w128 (to_z w128 (of_z w128 best) -ℤ to_z w128 begin)) ≡ best -ℤ pos worth
less_is best begin worth near few e = let low = near.low in let high = near.high in omega (arith, ints, low, high, few, e)
