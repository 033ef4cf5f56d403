-- The link part's table, from the losses of stalls up to the first segment.
use Rattle.std.proofs.Common.{◌≡◌, ◌∙◌, ℕ, ◌+◌, ◌-◌, ◌≤◌, ◌<◌, List, length, refl, sym, ap, subst, arith}
use Rattle.std.specs.Prelude.{ℤ, pos, ◌-ℤ◌, slice_index, slice_index_or}
use Rattle.lab_model.specs.Film.{segments_of}
use Rattle.lab_model.specs.Number.{IsNear}
use Rattle.player_core.specs.Scene.{IsTask, Task}
use Rattle.price_bounds.specs.declared.window.Window.{Window}
use Rattle.price_bounds.specs.Cells.{cells_of, farthest_delay}
use Rattle.price_bounds.specs.LinkPart.{link_part}
use Rattle.price_bounds.specs.Steps.{IsTable}
use Rattle.price_bounds.specs.Tables.{AreEdges, AreLosses, cell_gains, cell_moves, most_link_worth, stall_cost}
use Rattle.price_bounds.specs.Windows.{CanBound}
use Rattle.price_bounds.proofs.CellCode.{edge_first}
use Rattle.price_bounds.proofs.CellLaws.{cells_some}
use Rattle.price_bounds.proofs.LinkTable.{cell_table_near, link_part_is}
use Rattle.price_bounds.proofs.ListSteps.{table_last, turn_behind, turn_first, turn_last, turn_next}
use Rattle.price_bounds.proofs.PriceSums.{are_cheap}

module _ (g : Task) (ws : List Window) (first : ℕ) where
  -- the table behind so many segments, counted from the last one on
  abbrev pub stands : ℕ → List ℤ → Type 0
  stands done table = let n = segments_of g.film in IsTable (cell_moves first) (cell_gains g ws first) (n - ((n - done) + 1)) ((n - done) + 1) table

  module _ (edges : List ℕ) (h : AreEdges first edges) where
    -- behind the last segment the losses of stalls stand
    pub losses_stand : 1 ≤ segments_of g.film → (losses : List ℤ) → AreLosses g (slice_index edges 0) losses → stands 1 losses
    losses_stand some losses each =
        let n = segments_of g.film in
        let own = subst (λ f. AreLosses g f losses) (edge_first first edges h) each in
        turn_first (cell_moves first) (cell_gains g ws first) n losses 1 some refl (table_last (cell_moves first) (cell_gains g ws first) n losses own.count own.each)

    -- the table that a step is given
    pub stands_behind : (count done : ℕ) (table : List ℤ) → count ≡ segments_of g.film → stands done table → (es : List ℕ) → es ≡ edges → (ts : List ℤ) → ts ≡ table
        → (let f = slice_index es 0 in let n = segments_of g.film in IsTable (cell_moves f) (cell_gains g ws f) (n - ((count - done) + 1)) ((count - done) + 1) ts)
    stands_behind count done table is t es own ts same =
        let n = segments_of g.film in
        subst (λ xs. IsTable (cell_moves (slice_index es 0)) (cell_gains g ws (slice_index es 0)) (n - ((count - done) + 1)) ((count - done) + 1) xs) (sym same)
        (subst (λ f. IsTable (cell_moves f) (cell_gains g ws f) (n - ((count - done) + 1)) ((count - done) + 1) table) (sym (ap (λ xs. slice_index xs 0) own ∙ edge_first first edges h))
        (turn_behind (cell_moves first) (cell_gains g ws first) n table count done is t))

    -- and the table that it gives
    pub stands_next : (count done : ℕ) (table : List ℤ) → count ≡ segments_of g.film → done < count → (es : List ℕ) → es ≡ edges
        → (let f = slice_index es 0 in let n = segments_of g.film in IsTable (cell_moves f) (cell_gains g ws f) (n - (count - done)) (count - done) table) → (ts : List ℤ) → ts ≡ table → stands (done + 1) ts
    stands_next count done table is low es own t ts same =
        let n = segments_of g.film in
        subst (stands (done + 1)) (sym same)
        (turn_next (cell_moves first) (cell_gains g ws first) n table count done is low
        (subst (λ f. IsTable (cell_moves f) (cell_gains g ws f) (n - (count - done)) (count - done) table) (ap (λ xs. slice_index xs 0) own ∙ edge_first first edges h) t))

  module _ (is : IsTask g) (can : CanBound (segments_of g.film) ws) (near : first ≤ farthest_delay) (done : ℕ) (all : done ≡ segments_of g.film) (table : List ℤ) (t : stands done table) where
    at_first : IsTable (cell_moves first) (cell_gains g ws first) (segments_of g.film - 1) 1 table
    at_first = let some = is.film.segments.0 in turn_last (cell_moves first) (cell_gains g ws first) (segments_of g.film) table done some all t

    -- the table before the first segment isn't empty
    pub stands_some : 0 < length table
    stands_some = let count = at_first.count in let some = cells_some first near in omega (arith, count, some)

    -- its first number is the link part
    pub stands_first : slice_index_or table 0 (pos 0) ≡ link_part g ws first
    stands_first = link_part_is first g ws can.windows (slice_index_or table 0 (pos 0)) (at_first.each 0 (cells_some first near))

    pub stands_near : IsNear most_link_worth (slice_index_or table 0 (pos 0))
    stands_near =
        let some = is.film.segments.0 in
        cell_table_near g is ws (are_cheap (segments_of g.film) ws can) first (segments_of g.film - 1) 1 table (omega (arith, some)) at_first 0 (cells_some first near)
