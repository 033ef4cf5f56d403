-- The link part step by step: its table says the most that all cells behind a segment come to.
use Rattle.std.proofs.Common.{◌≡◌, ◌∙◌, ℕ, zero, suc, ◌+◌, ◌-◌, ◌*◌, ◌≤◌, ◌<◌, List, [], ◌∷◌, length, map, max, ◌&&◌, Bool, true, refl, sym, ap, ap₂, subst, arith, mul-le-mul}
use Rattle.std.specs.Prelude.{ℤ, pos, ◌+ℤ◌, ◌-ℤ◌, ◌≤ℤ◌, nat_le, slice_index, slice_index_or}
use Rattle.std.specs.List.{All, Contains, sum_by}
use Rattle.std.proofs.lemmas.Bool.{and_from, and_parts, le-leb, leb-true}
use Rattle.std.proofs.lemmas.Int.{ints}
use Rattle.std.proofs.lemmas.List.Elements.{All-cons, All-from_get_or, All-head, All-nil, All-tail}
use Rattle.std.proofs.Math.Nat.{mul-le-mul_left}
use Rattle.lab_model.specs.Film.{segments_of}
use Rattle.lab_model.specs.Mpc.{lists_of}
use Rattle.network_clock.specs.Flow.{sum_below}
use Rattle.network_clock.specs.Network.{period_at}
use Rattle.network_clock.proofs.Periods.{bandwidth_at}
use Rattle.network_clock.proofs.Sums.{sum_below_at_most}
use Rattle.player_core.specs.Scene.{IsTask, Task}
use Rattle.lab_model.specs.Number.{IsNear}
use Rattle.labels.specs.Labels.{there_at}
use Rattle.labels.proofs.Prefixes.{from_lists, in_lists}
use Rattle.labels.proofs.Walks.{from_filter, in_filter}
use Rattle.price_bounds.specs.declared.window.Window.{Window}
use Rattle.price_bounds.specs.Cells.{cells_of, farthest_delay, greatest_delay, least_delay}
use Rattle.price_bounds.specs.LinkPart.{begin_at, carried_to, cell_in, end_at, is_rising, link_gain, link_part, rising_cells, worth_to_begin, worth_to_end}
use Rattle.price_bounds.specs.Steps.{AreSteps, CanFollow, Follow, IsMost, IsTable, gain_along}
use Rattle.price_bounds.specs.Tables.{beginning_worth, cell_gains, cell_moves, ending_worth, most_link_worth, most_worth, stall_cost}
use Rattle.price_bounds.specs.Windows.{AreCheap, AreWindows, CanBound, IsWindow, most_price, price_beginning, price_ending, price_unit}
use Rattle.price_bounds.proofs.CellLaws.{cells_begin, least_from, least_next}
use Rattle.price_bounds.proofs.Greatest.{greatest_is}
use Rattle.price_bounds.proofs.Taken.{at_only, by_key, taken, taken_here, taken_most, taken_windows}

-- the last of a list of cells, or the cell before them
abbrev pub last_cell : ℕ → List ℕ → ℕ
last_cell before [] = before
last_cell before (c ∷ cs) = last_cell c cs

last_at : (before : ℕ) (cs : List ℕ) → slice_index (before ∷ cs) (length cs) ≡ last_cell before cs
last_at before [] = refl
last_at before (c ∷ cs) = last_at c cs

gain_end : (s : ℕ) → (pos 0 -ℤ pos s) ≡ (pos 0 -ℤ pos (0 + s))
gain_end s = omega (arith, ints)

gain_step : (e b es bs s : ℕ) → (pos e -ℤ pos b) +ℤ (pos es -ℤ pos (bs + s)) ≡ (pos (e + es) -ℤ pos ((b + bs) + s))
gain_step e b es bs s = omega (arith, ints)

module _ (g : Task) (first : ℕ) where
  -- what the network carries up to the latest end of a segment in a cell
  abbrev pub to_end : ℕ → ℕ → ℕ → ℕ
  to_end i before c = carried_to g (end_at g i (greatest_delay first c))

  -- and before its earliest begin after a cell
  abbrev pub to_begin : ℕ → ℕ → ℕ → ℕ
  to_begin i before c = carried_to g (begin_at g first i (least_delay first before))

module _ (g : Task) (ws : List Window) (first : ℕ) where
  -- what cells gain, by ends and by begins
  pub cells_gain : (i before : ℕ) (cs : List ℕ) → gain_along (cell_gains g ws first) i before cs
      ≡ pos (taken (price_ending ws) (to_end g first) i before cs) -ℤ pos (taken (price_beginning ws) (to_begin g first) i before cs + stall_cost g first (last_cell before cs))
  cells_gain i before [] = gain_end (stall_cost g first before)
  cells_gain i before (c ∷ cs) =
      ap (λ v. (pos (ending_worth g ws first i c) -ℤ pos (beginning_worth g ws first i before)) +ℤ v) (cells_gain (i + 1) c cs)
      ∙ gain_step (ending_worth g ws first i c) (beginning_worth g ws first i before) (taken (price_ending ws) (to_end g first) (i + 1) c cs)
      (taken (price_beginning ws) (to_begin g first) (i + 1) c cs) (stall_cost g first (last_cell c cs))

  -- one window's end and begin
  module _ (cells : List ℕ) (long : length cells ≡ segments_of g.film - 1) where
    one_end : (w : Window) → IsWindow (segments_of g.film) w → taken (at_only w.last w.price) (to_end g first) 1 0 cells ≡ worth_to_end g first cells w
    one_end w h =
        let begins = h.begins in
        let order = h.order in
        let inside = h.inside in
        let place : suc (w.last - 1) ≡ w.last = omega (arith, begins, order) in
        taken_here (to_end g first) w.last w.price (w.last - 1) 1 0 cells (omega (arith, begins, order)) (omega (arith, begins, order, inside, long))
        ∙ ap (λ k. w.price * carried_to g (end_at g w.last (greatest_delay first (slice_index (0 ∷ cells) k)))) place

    one_begin : (w : Window) → IsWindow (segments_of g.film) w → taken (at_only w.first w.price) (to_begin g first) 1 0 cells ≡ worth_to_begin g first cells w
    one_begin w h =
        let begins = h.begins in
        let order = h.order in
        let inside = h.inside in
        taken_here (to_begin g first) w.first w.price (w.first - 1) 1 0 cells (omega (arith, begins)) (omega (arith, begins, order, inside, long))

    -- what cells are worth is the sum of what each gains
    pub cells_along : AreWindows (segments_of g.film) ws → link_gain g ws first cells ≡ gain_along (cell_gains g ws first) 1 0 cells
    cells_along windows =
        let ends = taken_windows (to_end g first) (λ w. w.last) (worth_to_end g first cells) (IsWindow (segments_of g.film)) 1 0 cells one_end ws windows in
        let begins = taken_windows (to_begin g first) (λ w. w.first) (worth_to_begin g first cells) (IsWindow (segments_of g.film)) 1 0 cells one_begin ws windows in
        let last = ap (slice_index (0 ∷ cells)) (sym long) ∙ last_at 0 cells in
        ap (λ e. pos e -ℤ pos (sum_by (worth_to_begin g first cells) ws + stall_cost g first (cell_in cells (segments_of g.film - 1)))) (sym ends)
        ∙ ap (λ b. pos (taken (price_ending ws) (to_end g first) 1 0 cells) -ℤ pos (b + stall_cost g first (cell_in cells (segments_of g.film - 1)))) (sym begins)
        ∙ ap (λ c. pos (taken (price_ending ws) (to_end g first) 1 0 cells) -ℤ pos (taken (price_beginning ws) (to_begin g first) 1 0 cells + stall_cost g first c)) last
        ∙ sym (cells_gain 1 0 cells)

-- ---- which lists they are

module _ (first : ℕ) where
  -- cells that don't fall follow one another
  pub cells_follow : (before : ℕ) (cs : List ℕ) → All (λ c. c < cells_of first) cs → is_rising before cs ≡ true → Follow (cell_moves first) before cs
  cells_follow before [] low rising = tt
  cells_follow before (c ∷ cs) low rising =
      let both = and_parts (nat_le before c) (is_rising c cs) rising in
      (record { from = leb-true _ _ both.0; below = All-head (λ d. d < cells_of first) c cs low }, cells_follow c cs (All-tail (λ d. d < cells_of first) c cs low) both.1)

  follow_below : (before : ℕ) (cs : List ℕ) → Follow (cell_moves first) before cs → All (λ c. c < cells_of first) cs
  follow_below before [] h = All-nil (λ c. c < cells_of first)
  follow_below before (c ∷ cs) h = let low = h.0.below in All-cons (λ d. d < cells_of first) c cs low (follow_below c cs h.1)

  follow_rising : (before : ℕ) (cs : List ℕ) → Follow (cell_moves first) before cs → is_rising before cs ≡ true
  follow_rising before [] h = refl
  follow_rising before (c ∷ cs) h = and_from (nat_le before c) (is_rising c cs) (le-leb _ _ h.0.from) (follow_rising c cs h.1)

  -- the most of all steps is the link part
  pub link_part_is : (g : Task) (ws : List Window) → AreWindows (segments_of g.film) ws → (most : ℤ)
      → IsMost (cell_moves first) (cell_gains g ws first) (segments_of g.film - 1) 1 0 most → most ≡ link_part g ws first
  unfolding link_part
  link_part_is g ws windows most h =
      let n = segments_of g.film - 1 in
      let all = lists_of (cells_of first) n in
      greatest_is (link_gain g ws first) (rising_cells (segments_of g.film) first) h.list most
      (in_filter (is_rising 0) all h.list (in_lists (cells_of first) n h.list h.fits.0 (follow_below 0 h.list h.fits.1)) (follow_rising 0 h.list h.fits.1))
      (cells_along g ws first h.list h.fits.0 windows ∙ h.reached)
      (λ l there.
      let kept = from_filter (is_rising 0) all l there in
      let lists = from_lists (cells_of first) n l kept.0 in
      subst (λ v. v ≤ℤ most) (sym (cells_along g ws first l lists.0 windows)) (h.bounds l (lists.0, cells_follow 0 l lists.1 kept.1)))

-- ---- how far they lie from 0

-- a cell ends not far behind the farthest delay
pub cell_near : (first c : ℕ) → c < cells_of first → greatest_delay first c ≤ 1015625000000
cell_near first c low =
    let near = cells_begin first c low in
    let next = least_next first c in
    omega (arith, near, next)

module _ (g : Task) (is : IsTask g) where
  -- what the network carries before an instant
  pub carried_most : (instant : ℕ) → instant ≤ 1016000000000 → carried_to g instant ≤ 10160000000000000000000
  carried_most instant soon =
      let most = sum_below_at_most (λ t. (period_at g.periods t).bandwidth) 10000000000 instant (λ t. bandwidth_at g.periods t is.trace.periods) in
      omega (arith, most, soon)

  film_most : (i : ℕ) → i ≤ segments_of g.film → i * g.film.seg_ms ≤ 120000000
  film_most i low = let few = is.film.segments.1 in mul-le-mul {n₁ = i} {m₁ = g.film.seg_ms} {n₂ = 2000} {m₂ = 60000} (omega (arith, low, few)) is.film.seg_ms.1

  -- up to the latest end of a segment
  pub end_most : (i delay : ℕ) → i < segments_of g.film → delay ≤ 1015625000000 → carried_to g (end_at g i delay) ≤ 10160000000000000000000
  end_most i delay low near = let film = film_most i (omega (arith, low)) in carried_most (end_at g i delay) (omega (arith, film, near))

  -- before the earliest begin
  pub begin_most : (first i delay : ℕ) → i < segments_of g.film → first ≤ delay → delay ≤ farthest_delay → carried_to g (begin_at g first i delay) ≤ 10160000000000000000000
  begin_most first i delay low from near = let film = film_most (i + 1) (omega (arith, low)) in carried_most (begin_at g first i delay) (omega (arith, film, from, near))

-- a price times what the network carries
pub priced_most : (price carried : ℕ) → price ≤ 4000000000000000 → carried ≤ 10160000000000000000000 → price * carried ≤ most_worth
priced_most price carried few low = let most = mul-le-mul few low in omega (arith, most)

near_parts : (e b s : ℕ) → e ≤ most_worth → b ≤ most_worth → s ≤ 1016000000000000000000000000 → IsNear most_link_worth (pos e -ℤ pos (b + s))
near_parts e b s he hb hs = record { low = omega (arith, ints, hb, hs); high = omega (arith, ints, he) }

windows_most : (n total : ℕ) → n ≤ 4000 → total ≤ (n * 1000000000000) * 10160000000000000000000 → total ≤ most_worth
windows_most n total few h = let most = mul-le-mul {n₁ = n} {m₁ = 10160000000000000000000000000000000} {n₂ = 4000} {m₂ = 10160000000000000000000000000000000} few (omega arith) in omega (arith, most, h)

module _ (g : Task) (is : IsTask g) (ws : List Window) (cheap : AreCheap ws) (first : ℕ) where
  stall_low : (c : ℕ) → c < cells_of first → stall_cost g first c ≤ 1016000000000000000000000000
  stall_low c low =
      let near = cells_begin first c low in
      let most = mul-le-mul {n₁ = g.setup.weights.stall} {m₁ = least_delay first c - first} {n₂ = 1000000} {m₂ = 1000000000000} is.weights.weights.stall_fits (omega (arith, near)) in
      omega (arith, most)

  last_below : (before : ℕ) (cs : List ℕ) → before < cells_of first → Follow (cell_moves first) before cs → last_cell before cs < cells_of first
  last_below before [] low h = low
  last_below before (c ∷ cs) low h = last_below c cs h.0.below h.1

  -- what cells gain
  pub cells_near : (i before : ℕ) (cs : List ℕ) → i + length cs ≤ segments_of g.film → before < cells_of first → Follow (cell_moves first) before cs
      → IsNear most_link_worth (gain_along (cell_gains g ws first) i before cs)
  cells_near i before cs long low h =
      let n = segments_of g.film in
      let ends = taken_most (to_end g first) (cell_moves first) n 10160000000000000000000 (λ j b c inside old new. end_most g is j (greatest_delay first c) inside (cell_near first c new)) (λ w. w.last) most_price i before cs long low h ws cheap.prices in
      let begins = taken_most (to_begin g first) (cell_moves first) n 10160000000000000000000 (λ j b c inside old new. begin_most g is first j (least_delay first b) inside (least_from first b) (cells_begin first b old)) (λ w. w.first) most_price i before cs long low h ws cheap.prices in
      let e = taken (price_ending ws) (to_end g first) i before cs in
      let b = taken (price_beginning ws) (to_begin g first) i before cs in
      let s = stall_cost g first (last_cell before cs) in
      subst (IsNear most_link_worth) (sym (cells_gain g ws first i before cs))
      (near_parts e b s (windows_most (length ws) e cheap.few ends) (windows_most (length ws) b cheap.few begins) (stall_low (last_cell before cs) (last_below before cs low h)))

  -- what stands in a table
  pub cell_table_near : (n i : ℕ) (table : List ℤ) → i + n ≤ segments_of g.film → IsTable (cell_moves first) (cell_gains g ws first) n i table
      → (c : ℕ) → c < cells_of first → IsNear most_link_worth (slice_index_or table c (pos 0))
  cell_table_near n i table long h c low =
      let most = h.each c low in
      let fits = most.fits.0 in
      subst (IsNear most_link_worth) most.reached (cells_near i c most.list (omega (arith, long, fits)) low most.fits.1)
