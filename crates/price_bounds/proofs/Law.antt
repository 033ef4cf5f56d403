-- No list passes the bound of any windows: add to its value, at each window's price, what the link has left over.
use Rattle.std.proofs.Common.{◌≡◌, ◌∙◌, ℕ, suc, ◌+◌, ◌-◌, ◌*◌, ◌/◌, ◌<◌, ◌≤◌, List, ◌∷◌, None, Some, length, drop, map, take, refl, sym, ap, subst, arith, add-one}
use Rattle.std.specs.Prelude.{ℤ, pos, negsuc, ◌+ℤ◌, ◌-ℤ◌, ◌≤ℤ◌, slice_index}
use Rattle.std.specs.List.{All, Contains, sum_by}
use Rattle.std.proofs.lemmas.Grind.{div_ceil_times}
use Rattle.std.proofs.lemmas.Int.{ints}
use Rattle.std.proofs.lemmas.List.{length-drop, take_all}
use Rattle.std.proofs.lemmas.List.Elements.{All-drop}
use Rattle.std.proofs.Math.Nat.{mul-le-mul_left}
use Rattle.lab_model.proofs.Orders.{≤ℤ_trans}
use Rattle.lab_model.specs.declared.context.Played.{Played}
use Rattle.lab_model.specs.declared.label.Label.{Label}
use Rattle.lab_model.specs.Film.{rungs_of, segments_of}
use Rattle.lab_model.specs.Ladder.{rungs_below}
use Rattle.lab_model.specs.Mpc.{lists_of}
use Rattle.lab_model.specs.Sums.{changes_of, played_from, utilities_of}
use Rattle.lab_model.specs.Weighing.{Weighing, change_of, utility_of}
use Rattle.player_core.specs.Scene.{IsTask, Task}
use Rattle.labels.specs.Along.{rungs_played}
use Rattle.labels.specs.Best.{task_value}
use Rattle.labels.specs.Labels.{AreRungs, end_value, label_at, start_label}
use Rattle.labels.proofs.AlongLists.{segment_on}
use Rattle.labels.proofs.Covered.{rung_at}
use Rattle.labels.proofs.LabelValues.{label_value, worth_of}
use Rattle.labels.proofs.LabelsAreValues.{labels_are_values}
use Rattle.labels.proofs.Path.{label_first}
use Rattle.labels.proofs.Prefixes.{in_lists}
use Rattle.labels.proofs.Walks.{in_rungs}
use Rattle.price_bounds.specs.declared.window.Window.{Window}
use Rattle.price_bounds.specs.Bound.{bound_of, bound_on, first_delay, rounded_up}
use Rattle.price_bounds.specs.Cells.{least_delay}
use Rattle.price_bounds.specs.Greatest.{greatest_of}
use Rattle.price_bounds.specs.Laws.{NoListPasses}
use Rattle.price_bounds.specs.LinkPart.{cell_in, link_gain, link_part, rising_cells, worth_to_begin, worth_to_end}
use Rattle.price_bounds.specs.ListPart.{list_gain, list_part, priced_bits}
use Rattle.price_bounds.specs.Windows.{AreWindows, price_unit}
use Rattle.price_bounds.proofs.CellLaws.{least_from}
use Rattle.price_bounds.proofs.CellsAlong.{cells_along, cells_rising, in_cell}
use Rattle.price_bounds.proofs.Greatest.{greatest_bounds}
use Rattle.price_bounds.proofs.WindowsAlong.{played_after, played_one, windows_worth}

-- ---- numbers

le_itself : (a : ℤ) → a ≤ℤ a
le_itself a = omega (arith, ints)

-- what isn't above so many parts isn't above the least whole number that isn't below them
pub round_bounds : (x y : ℕ) (z : ℤ) → (pos (price_unit * x) -ℤ pos (price_unit * y)) ≤ℤ z → (pos x -ℤ pos y) ≤ℤ rounded_up z
round_bounds x y (pos n) h = let up = (div_ceil_times n price_unit (omega arith)).0 in omega (arith, ints, h, up)
round_bounds x y (negsuc n) h = omega (arith, ints, h)

stall_more : (stall first late last : ℕ) → first + late ≤ last → stall * first + stall * late ≤ stall * last
stall_more stall first late last h = let all = mul-le-mul_left stall h in omega (arith, all)

-- the list part and the link part together bound what a list is worth
together : (gain gone start switch stalls early late bits ends begins : ℕ) (list link most : ℤ)
    → (pos (price_unit * gain) -ℤ pos (price_unit * switch + 1000 * bits)) ≤ℤ list
    → (pos ends -ℤ pos (begins + price_unit * late)) ≤ℤ link
    → begins + 1000 * bits ≤ ends → early + late ≤ stalls
    → (((pos (price_unit * gone) -ℤ pos (price_unit * start)) +ℤ list) +ℤ link) ≤ℤ most
    → (pos (price_unit * (gone + gain + early)) -ℤ pos (price_unit * (start + switch + stalls))) ≤ℤ most
together gain gone start switch stalls early late bits ends begins list link most h k over more all = omega (arith, ints, h, k, over, more, all)

value_parts : (u u0 c st su sw p0 pl : ℕ) → ((pos (1000 * (u0 + u) + st * p0) -ℤ pos (su * p0 + sw * (0 + c))) -ℤ pos (st * pl)) ≡ (pos (1000 * u0 + 1000 * u + st * p0) -ℤ pos (su * p0 + sw * c + st * pl))
value_parts u u0 c st su sw p0 pl = omega (arith, ints)

module _ (g : Task) (is : IsTask g) (ws : List Window) (windows : AreWindows (segments_of g.film) ws) (rungs : List ℕ) (fits : AreRungs g (segments_of g.film) rungs) where
  some : 1 ≤ segments_of g.film
  some = is.film.segments.0

  -- the rungs behind the first are one of the lists over which the list part is taken
  list_above : list_gain g ws 1 (slice_index rungs 0) (drop 1 rungs) ≤ℤ list_part g ws (slice_index rungs 0)
  unfolding list_part
  list_above =
      let long = fits.0 in
      greatest_bounds (list_gain g ws 1 (slice_index rungs 0)) (lists_of (rungs_of g.film) (segments_of g.film - 1)) (drop 1 rungs)
      (in_lists (rungs_of g.film) (segments_of g.film - 1) (drop 1 rungs) (length-drop 1 rungs ∙ ap (λ n. n - 1) long) (All-drop (λ q. q < rungs_of g.film) 1 rungs fits.1))

  -- and their cells one of those over which the link part is taken
  link_above : link_gain g ws (label_at g rungs 0).p (cells_along g rungs) ≤ℤ link_part g ws (label_at g rungs 0).p
  unfolding link_part
  link_above = greatest_bounds (link_gain g ws (label_at g rungs 0).p) (rising_cells (segments_of g.film) (label_at g rungs 0).p) (cells_along g rungs) (cells_rising g is rungs fits)

  -- the list's first rung is one of those over which the bound is taken
  bound_above : bound_on g ws (slice_index rungs 0) ≤ℤ greatest_of (map (bound_on g ws) (rungs_below (rungs_of g.film)))
  bound_above = greatest_bounds (bound_on g ws) (rungs_below (rungs_of g.film)) (slice_index rungs 0) (in_rungs (rungs_of g.film) (slice_index rungs 0) (rung_at g (segments_of g.film) rungs fits 0 some))

  -- the value of the list, by its utilities, changes and delays
  value_is : task_value g rungs ≡ (let w = g.setup.weights in let ps = played_after rungs 1 in let q = slice_index rungs 0 in
      pos (1000 * utility_of w 0 q + 1000 * utilities_of w ps + w.stall * (label_at g rungs 0).p)
      -ℤ pos (w.startup * (label_at g rungs 0).p + w.switch * changes_of w (Some q) ps + w.stall * (label_at g rungs (segments_of g.film - 1)).p))
  value_is =
      let w = g.setup.weights in
      let n = segments_of g.film in
      let last = label_at g rungs (n - 1) in
      let first = (label_at g rungs 0).p in
      let long = fits.0 in
      let all : rungs_played rungs (suc (n - 1)) ≡ played_after rungs 0 = ap (played_from 0) (take_all (suc (n - 1)) rungs (omega (arith, long))) in
      let parts = played_one rungs 0 (omega (arith, long, some)) in
      let value = label_value g rungs (n - 1) (omega (arith, long, some)) ∙ ap (worth_of w first) (all ∙ parts) in
      labels_are_values g is rungs fits ∙ ap (λ v. v -ℤ pos (w.stall * last.p)) value
      ∙ value_parts (utilities_of w (played_after rungs 1)) (utility_of w 0 (slice_index rungs 0)) (changes_of w (Some (slice_index rungs 0)) (played_after rungs 1)) w.stall w.startup w.switch first last.p

  -- in parts of a thousandth, it is no more than the bound on its first rung
  below_bound : (let w = g.setup.weights in let ps = played_after rungs 1 in let q = slice_index rungs 0 in
      (pos (price_unit * (1000 * utility_of w 0 q + 1000 * utilities_of w ps + w.stall * (label_at g rungs 0).p))
      -ℤ pos (price_unit * (w.startup * (label_at g rungs 0).p + w.switch * changes_of w (Some q) ps + w.stall * (label_at g rungs (segments_of g.film - 1)).p))) ≤ℤ bound_on g ws q)
  unfolding bound_on
  below_bound =
      let w = g.setup.weights in
      let q = slice_index rungs 0 in
      let ps = played_after rungs 1 in
      let first = (label_at g rungs 0).p in
      let n = segments_of g.film - 1 in
      let cells = cells_along g rungs in
      let last = least_delay first (cell_in cells n) in
      let at_end = (label_at g rungs n).p in
      let start : first ≡ first_delay g q = ap (λ (l : Label). l.p) (label_first g rungs) in
      let low = least_from first (cell_in cells n) in
      let here = (in_cell g is rungs fits n (omega (arith, some))).from in
      let most = λ (p : ℕ). ((pos (price_unit * (1000 * utility_of w 0 q)) -ℤ pos (price_unit * (w.startup * p))) +ℤ list_part g ws q) +ℤ link_part g ws p in
      subst (λ p. (pos (price_unit * (1000 * utility_of w 0 q + 1000 * utilities_of w ps + w.stall * first)) -ℤ pos (price_unit * (w.startup * first + w.switch * changes_of w (Some q) ps + w.stall * at_end)))
      ≤ℤ (((pos (price_unit * (1000 * utility_of w 0 q)) -ℤ pos (price_unit * (w.startup * p))) +ℤ list_part g ws q) +ℤ link_part g ws p)) start
      (together (1000 * utilities_of w ps) (1000 * utility_of w 0 q) (w.startup * first) (w.switch * changes_of w (Some q) ps) (w.stall * at_end) (w.stall * first) (w.stall * (last - first)) (priced_bits g ws ps)
      (sum_by (worth_to_end g first cells) ws) (sum_by (worth_to_begin g first cells) ws) (list_part g ws q) (link_part g ws first) (most first)
      list_above link_above (windows_worth g is rungs fits ws windows) (stall_more w.stall first (last - first) at_end (omega (arith, low, here))) (le_itself (most first)))

  -- the value is no more than the bound
  pub passes_none : task_value g rungs ≤ℤ bound_of g ws
  unfolding bound_of
  passes_none =
      let w = g.setup.weights in
      let q = slice_index rungs 0 in
      let ps = played_after rungs 1 in
      let first = (label_at g rungs 0).p in
      let at_end = (label_at g rungs (segments_of g.film - 1)).p in
      let gains = 1000 * utility_of w 0 q + 1000 * utilities_of w ps + w.stall * first in
      let losses = w.startup * first + w.switch * changes_of w (Some q) ps + w.stall * at_end in
      let top = greatest_of (map (bound_on g ws) (rungs_below (rungs_of g.film))) in
      subst (λ v. v ≤ℤ rounded_up top) (sym value_is)
      (round_bounds gains losses top (≤ℤ_trans (pos (price_unit * gains) -ℤ pos (price_unit * losses)) (bound_on g ws q) top below_bound bound_above))

-- the law
pub no_list_passes : NoListPasses
no_list_passes g is ws windows rungs fits = passes_none g is ws windows rungs fits
