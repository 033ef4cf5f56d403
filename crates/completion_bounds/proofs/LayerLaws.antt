-- Layers: number by number, cell by cell and sum by sum.
use Rattle.std.proofs.Common.{◌≡◌, ◌∙◌, ◌⊎◌, inl, inr, ℕ, suc, ◌+◌, ◌-◌, ◌*◌, ◌/◌, ◌<◌, ◌≤◌, ⊎_elim, List, [], ◌∷◌, ◌++◌, length, length-append, refl, sym, ap, ap₂, subst, arith, mul-le-mul_left}
use Rattle.std.specs.Prelude.{ℤ, pos, ◌+ℤ◌, ◌-ℤ◌, max, Some, slice_index_or, slice_set, Vec}
use Rattle.std.specs.Global.{Global}
use Rattle.std.specs.List.{All}
use Rattle.std.proofs.Math.Nat.{div-lt_iff_lt-mul, div-mul-le_self, lt-div-mul-add}
use Rattle.std.proofs.Math.Seq.{get_or-append_seam}
use Rattle.std.proofs.lemmas.Bool.{cases_eq, cases_lt}
use Rattle.std.proofs.lemmas.Int.{ints}
use Rattle.std.proofs.lemmas.List.{get_or-set_other, get_or-set_same, get_or_append_left}
use Rattle.std.proofs.lemmas.List.Elements.{All-from_get_or}
use Rattle.std.proofs.lemmas.Nat.{div-mul-add, mul-add-lt}
use Rattle.lab_model.specs.Film.{rungs_of, segments_of, size_of}
use Rattle.lab_model.specs.Number.{IsNear}
use Rattle.lab_model.specs.Weighing.{change_of, utility_of}
use Rattle.network_clock.specs.Network.{period_at}
use Rattle.network_clock.proofs.Downloads.{done_found}
use Rattle.network_clock.proofs.Flows.{trace_flows}
use Rattle.player_core.proofs.Runs.{size_within}
use Rattle.player_core.specs.Scene.{IsTask, Task}
use Rattle.labels.specs.Labels.{came_at, next_value, start_label}
use Rattle.labels.specs.Near.{CanFollow}
use Rattle.labels.proofs.Reached.{reach_follows, start_reach, well_in_reach}
use Rattle.completion_bounds.specs.Gain.{column_of, gain_left, greatest_to}
use Rattle.completion_bounds.specs.Grid.{GridParts, IsTableGrid, kinds_of, layer_numbers, row_delay, delay_row, row_steps}
use Rattle.completion_bounds.specs.Table.{AreGains, AreGainsTo, AreStepGains, AreStepGainsTo, AreLayers, IsGainLayer, IsLayerAt, IsLayerBelow, came_after, cell_at, cell_of, cells_of, kind_among, most_gain, most_step, request_after, step_gain}
use Rattle.completion_bounds.proofs.Bounded.{gain_last, gain_next, gain_on}
use Rattle.completion_bounds.proofs.Gains.{gain_near, kind_inside, kind_serves, step_near}
use Rattle.completion_bounds.proofs.Greatest.{greatest_same}
use Rattle.completion_bounds.proofs.Grids.{row_inside, rows_in_order}
use Rattle.completion_bounds.proofs.Sizes.{cell_inside, kinds_within, same_parts}

-- ---- what rungs gain by themselves

-- one more
pub steps_more : (g : Task) (i before rung : ℕ) (own : List ℤ) (value : ℤ) → rung < rungs_of g.film → AreStepGainsTo g i (before * rungs_of g.film + rung) own
    → value ≡ step_gain g.setup.weights i before rung → AreStepGainsTo g i (before * rungs_of g.film + (rung + 1)) (own ++ value ∷ [])
steps_more g i before rung own value low h e =
    let w = rungs_of g.film in
    let count = h.count in
    record {
      count = length-append own (value ∷ []) ∙ omega (arith, count);
      each = λ q r kind inside less.
          ⊎_elim (λ (old : q * w + r < before * w + rung). get_or_append_left own (value ∷ []) (pos 0) (q * w + r) (omega (arith, old, count)) ∙ h.each q r kind inside old)
          (λ new.
          let place : q * w + r ≡ before * w + rung = omega (arith, new, less) in
          let parts = same_parts w before rung q r low inside place in
          ap (λ x. slice_index_or (own ++ value ∷ []) x (pos 0)) (place ∙ sym count) ∙ get_or-append_seam own value [] (pos 0) ∙ e
          ∙ ap₂ (step_gain g.setup.weights i) (sym parts.0) (sym parts.1)) (cases_lt (q * w + r) (before * w + rung));
    }

-- all of them
pub steps_all : (g : Task) (i before : ℕ) (own : List ℤ) → before ≡ kinds_of g → AreStepGainsTo g i (before * rungs_of g.film) own → AreStepGains g i own
steps_all g i before own all h = record {
  count = h.count ∙ ap (λ n. n * rungs_of g.film) all;
  each = λ q r kind inside. let place = mul-add-lt q (rungs_of g.film) r before (omega (arith, kind, all)) inside in h.each q r kind inside (omega (arith, place));
}

-- they lie near 0
pub steps_near : (g : Task) → IsTask g → (i : ℕ) (own : List ℤ) → i < segments_of g.film → AreStepGains g i own → All (IsNear most_step) own
steps_near g is i own low h =
    let w = rungs_of g.film in
    let some = is.film.rungs.0 in
    let count = h.count in
    let within = kinds_within g is in
    All-from_get_or (IsNear most_step) own (pos 0) (λ x inside.
    let q = x / w in
    let r = x - q * w in
    let whole = div-mul-le_self x w in
    let rest = lt-div-mul-add {a = x} {b = w} some in
    let kind : q < kinds_of g = (div-lt_iff_lt-mul {k = w} {x = x} {y = kinds_of g} some).1 (omega (arith, inside, count)) in
    let rung : r < w = omega (arith, rest) in
    let place : q * w + r ≡ x = omega (arith, whole) in
    let most = within.1 in
    subst (IsNear most_step) (sym (h.each q r kind rung) ∙ ap (λ y. slice_index_or own y (pos 0)) place)
    (step_near g is i q r low (omega (arith, kind, most)) rung))

-- ---- what is gained behind a segment

-- on one rung more
pub gains_more : (g : Task) (d : GridParts) (left i steps row to : ℕ) (gains behind : List ℤ) (cell : ℕ) (v : ℤ) → 1 ≤ length d.rows → to < rungs_of g.film → to < length gains
    → cell ≡ cell_of g d i (came_after g d i (came_at g (request_after g d i steps) i to) row) → IsGainLayer g d left behind
    → v ≡ slice_index_or behind (cell * kinds_of g + kind_among (kinds_of g) to) (pos 0)
    → AreGainsTo g d left i steps row to gains → AreGainsTo g d left i steps row (to + 1) (slice_set gains to v)
gains_more g d left i steps row to gains behind cell v some rung inside at layer e h = record {
  each = λ r low. ⊎_elim (λ (new : r ≡ to).
      let l = came_after g d i (came_at g (request_after g d i steps) i to) row in
      subst (λ x. slice_index_or (slice_set gains to v) x (pos 0)
      ≡ (let m = came_after g d i (came_at g (request_after g d i steps) i x) row in gain_left g d left x (delay_row d m.p) (column_of g d i m))) (sym new)
      (get_or-set_same gains to v (pos 0) inside ∙ e
      ∙ ap (λ c. slice_index_or behind (c * kinds_of g + kind_among (kinds_of g) to) (pos 0)) at
      ∙ layer.each (delay_row d l.p) (column_of g d i l) (kind_among (kinds_of g) to) (row_inside d some l.p) (omega arith) (kind_inside g to rung)
      ∙ kind_serves g d left to (delay_row d l.p) (column_of g d i l) rung))
      (λ (old : r ≡ to → ⊥). get_or-set_other gains to r v (pos 0) old ∙ h.each r (omega (arith, low, old))) (cases_eq r to);
}

-- they lie near 0
pub gains_near : (g : Task) → IsTask g → (d : GridParts) → IsTableGrid d → (left i steps row : ℕ) (gains : List ℤ) → left < segments_of g.film → AreGains g d left i steps row gains → All (IsNear most_gain) gains
gains_near g is d grid left i steps row gains low h =
    let count = h.count in
    All-from_get_or (IsNear most_gain) gains (pos 0) (λ r inside.
    let rung : r < rungs_of g.film = omega (arith, inside, count) in
    subst (IsNear most_gain) (sym (h.all.each r rung)) (gain_near g is d grid left r _ _ low rung))

-- ---- layers

-- a number of the last layer stands in its row
pub row_of_place : (d : GridParts) (kinds k c q : ℕ) → c ≤ d.columns → q < kinds → (cell_at d k c * kinds + q) / ((d.columns + 1) * kinds) ≡ k
row_of_place d kinds k c q short less =
    let wide = d.columns + 1 in
    let inside = mul-add-lt c kinds q wide (omega (arith, short)) less in
    let same : cell_at d k c * kinds + q ≡ k * (wide * kinds) + (c * kinds + q) = omega arith in
    ap (λ x. x / (wide * kinds)) same ∙ div-mul-add k (wide * kinds) (c * kinds + q) (omega (arith, inside))

-- one number more of the last layer
pub last_more : (worth : ℕ → ℤ) (place : ℕ) (layer : List ℤ) (v : ℤ) → length layer ≡ place → ((x : ℕ) → x < place → slice_index_or layer x (pos 0) ≡ worth x) → v ≡ worth place
    → (x : ℕ) → x < place + 1 → slice_index_or (layer ++ v ∷ []) x (pos 0) ≡ worth x
last_more worth place layer v count each e x low =
    ⊎_elim (λ (old : x < place). get_or_append_left layer (v ∷ []) (pos 0) x (omega (arith, old, count)) ∙ each x old)
    (λ new. let last : x ≡ place = omega (arith, new, low) in ap (λ y. slice_index_or (layer ++ v ∷ []) y (pos 0)) (last ∙ sym count) ∙ get_or-append_seam layer v [] (pos 0) ∙ e ∙ ap worth (sym last)) (cases_lt x place)

-- the last layer
pub last_is_layer : (g : Task) (d : GridParts) (per_row place : ℕ) (layer : List ℤ) → per_row ≡ (d.columns + 1) * kinds_of g → length layer ≡ place → place ≡ length d.rows * per_row
    → ((x : ℕ) → x < place → slice_index_or layer x (pos 0) ≡ pos 0 -ℤ pos (g.setup.weights.stall * row_delay d (x / per_row))) → IsGainLayer g d 0 layer
last_is_layer g d per_row place layer wide count all each =
    let whole : place ≡ layer_numbers g d = all ∙ ap (λ n. length d.rows * n) wide ∙ omega arith in
    record {
      count = count ∙ whole;
      each = λ k c q row column kind.
          let cell = cell_inside d k c row column in
          let inside = mul-add-lt (cell_at d k c) (kinds_of g) q (cells_of d) cell kind in
          each (cell_at d k c * kinds_of g + q) (omega (arith, inside, whole))
          ∙ ap (λ n. pos 0 -ℤ pos (g.setup.weights.stall * row_delay d n)) (ap (λ n. (cell_at d k c * kinds_of g + q) / n) wide ∙ row_of_place d (kinds_of g) k c q column kind)
          ∙ sym (gain_last g d q k c);
    }

gained : (v : ℤ) (up down : ℕ) → ((pos up -ℤ pos down) +ℤ v) ≡ ((v +ℤ pos up) -ℤ pos down)
gained v up down = omega (arith, ints)

-- numbers of different cells stand apart
apart : (kinds cell other q : ℕ) → q < kinds → (other ≡ cell → ⊥) → (other * kinds + q < cell * kinds) ⊎ (cell * kinds + kinds ≤ other * kinds + q)
apart kinds cell other q low differ =
    ⊎_elim (λ (less : other < cell).
    let next : other + 1 ≤ cell = omega (arith, less) in
    let far = mul-le-mul_left kinds next in
    inl (omega (arith, far, low)))
    (λ more.
    let next : cell + 1 ≤ other = omega (arith, more, differ) in
    let far = mul-le-mul_left kinds next in
    inr (omega (arith, far))) (cases_lt other cell)

module _ (g : Task) (d : GridParts) where
  -- the numbers of a cell
  cell_gains : (left i q row c steps : ℕ) (own gains : List ℤ) → i + suc left ≡ segments_of g.film → row_steps d row + c ≡ steps → 1 ≤ rungs_of g.film → q < kinds_of g
      → AreStepGains g i own → AreGains g d left i steps row gains
      → greatest_to (λ r. slice_index_or own (q * length gains + r) (pos 0) +ℤ slice_index_or gains r (pos 0)) (length gains - 1) ≡ gain_left g d (suc left) q row c
  cell_gains left i q row c steps own gains whole sum some kind h k =
      let w = rungs_of g.film in
      let here : i ≡ segments_of g.film - suc left = omega (arith, whole) in
      ap (λ n. greatest_to (λ r. slice_index_or own (q * n + r) (pos 0) +ℤ slice_index_or gains r (pos 0)) (n - 1)) k.count
      ∙ greatest_same (λ r. slice_index_or own (q * w + r) (pos 0) +ℤ slice_index_or gains r (pos 0)) (gain_on g d left i q row c) (w - 1)
      (λ r low.
      let inside : r < w = omega (arith, low, some) in
      let l = came_after g d i (came_at g (request_after g d i steps) i r) row in
      ap₂ (λ (x y : ℤ). x +ℤ y) (h.each q r kind inside) (k.all.each r inside)
      ∙ gained (gain_left g d left r (delay_row d l.p) (column_of g d i l)) (1000 * utility_of g.setup.weights i r) (g.setup.weights.switch * change_of g.setup.weights i (Some q) r)
      ∙ ap (λ s. let l = came_after g d i (came_at g (request_after g d i s) i r) row in
      next_value g.setup.weights i q (gain_left g d left r (delay_row d l.p) (column_of g d i l)) r) (sym sum))
      ∙ ap (λ s. greatest_to (gain_on g d left s q row c) (w - 1)) here ∙ sym (gain_next g d left q row c)

  -- one cell more
  pub layer_more : (left i steps row : ℕ) (own gains old new : List ℤ) → i + suc left ≡ segments_of g.film → 1 ≤ rungs_of g.film → row_steps d row ≤ steps → steps ≤ row_steps d row + d.columns
      → AreStepGains g i own → AreGains g d left i steps row gains
      → length new ≡ length old
      → ((x : ℕ) → (x < cell_at d row (steps - row_steps d row) * kinds_of g) ⊎ (cell_at d row (steps - row_steps d row) * kinds_of g + kinds_of g ≤ x) → slice_index_or new x (pos 0) ≡ slice_index_or old x (pos 0))
      → ((q : ℕ) → q < kinds_of g → slice_index_or new (cell_at d row (steps - row_steps d row) * kinds_of g + q) (pos 0)
      ≡ greatest_to (λ r. slice_index_or own (q * length gains + r) (pos 0) +ℤ slice_index_or gains r (pos 0)) (length gains - 1))
      → IsLayerAt g d (suc left) steps row old → IsLayerAt g d (suc left) steps (row + 1) new
  layer_more left i steps row own gains old new whole some low high h k count kept put before =
      let column = steps - row_steps d row in
      let cell = cell_at d row column in
      let sum : row_steps d row + column ≡ steps = omega (arith, low) in
      record {
        count = count ∙ before.count;
        each = λ j c q inside short kind done.
            ⊎_elim (λ (same : cell_at d j c ≡ cell).
            let parts = same_parts (d.columns + 1) row column j c (omega (arith, high, low)) (omega (arith, short)) same in
            ap (λ x. slice_index_or new (x * kinds_of g + q) (pos 0)) same ∙ put q kind
            ∙ cell_gains left i q row column steps own gains whole sum some kind h k
            ∙ ap₂ (λ (m b : ℕ). gain_left g d (suc left) q m b) (sym parts.0) (sym parts.1))
            (λ (differ : cell_at d j c ≡ cell → ⊥).
            kept (cell_at d j c * kinds_of g + q) (apart (kinds_of g) cell (cell_at d j c) q kind differ)
            ∙ before.each j c q inside short kind
            (⊎_elim (λ (less : row_steps d j + c < steps). inl less)
            (λ (at : (row_steps d j + c ≡ steps) × (j < row + 1)).
            ⊎_elim (λ (last : j ≡ row).
            let e = at.0 in
            let steps_same = ap (row_steps d) last in
            let c_same : c ≡ column = omega (arith, e, steps_same) in
            absurd (differ (ap₂ (cell_at d) last c_same)))
            (λ (other : j ≡ row → ⊥). let less = at.1 in inr (at.0, omega (arith, less, other))) (cases_eq j row)) done)) (cases_eq (cell_at d j c) cell);
      }

  -- before the first row that has a cell for so many steps
  pub layer_first : (left steps first : ℕ) (layer : List ℤ) → ((k : ℕ) → k < first → row_steps d k + d.columns < steps) → IsLayerBelow g d left steps layer → IsLayerAt g d left steps first layer
  layer_first left steps first layer short h = record {
    count = h.count;
    each = λ k c q inside column kind done. h.each k c q inside column kind
        (⊎_elim (λ (less : row_steps d k + c < steps). less) (λ (at : (row_steps d k + c ≡ steps) × (k < first)). let far = short k at.1 in let e = at.0 in absurd (omega (arith, far, e, column))) done);
  }

  -- behind the last one
  pub layer_last : (left steps row : ℕ) (layer : List ℤ) → ((k : ℕ) → row ≤ k → k < length d.rows → steps < row_steps d k) → IsLayerAt g d left steps row layer → IsLayerBelow g d left (steps + 1) layer
  layer_last left steps row layer far h = record {
    count = h.count;
    each = λ k c q inside column kind done. h.each k c q inside column kind
        (⊎_elim (λ (less : row_steps d k + c < steps). inl less)
        (λ more. inr (omega (arith, more, done), ⊎_elim (λ (low : k < row). low) (λ high. let above = far k high inside in absurd (omega (arith, above, done))) (cases_lt k row))) (cases_lt (row_steps d k + c) steps));
  }

  -- from where the rows before end to where a row begins there is no cell
  pub layer_skip : IsTableGrid d → (left from row : ℕ) (layer : List ℤ) → row < length d.rows → ((k : ℕ) → k < row → row_steps d k + d.columns < from) → IsLayerBelow g d left from layer → IsLayerBelow g d left (max (row_steps d row) from) layer
  layer_skip is left from row layer here short h = record {
    count = h.count;
    each = λ k c q inside column kind done. h.each k c q inside column kind
        (⊎_elim (λ (before : k < row). let less = short k before in omega (arith, less, column))
        (λ behind. let order = rows_in_order d is.rising row k behind inside in omega (arith, order, done)) (cases_lt k row));
  }

  -- what holds the numbers below a sum holds those below a lesser one
  pub layer_weaker : (left more less : ℕ) (layer : List ℤ) → less ≤ more → IsLayerBelow g d left more layer → IsLayerBelow g d left less layer
  layer_weaker left more less layer low h = record {
    count = h.count;
    each = λ k c q inside column kind done. h.each k c q inside column kind (omega (arith, done, low));
  }

  -- at last all cells are filled
  pub layer_all : (left from : ℕ) (layer : List ℤ) → ((k : ℕ) → k < length d.rows → row_steps d k + d.columns < from) → IsLayerBelow g d left from layer → IsGainLayer g d left layer
  layer_all left from layer short h = record {
    count = h.count;
    each = λ k c q inside column kind. h.each k c q inside column kind (let less = short k inside in omega (arith, less, column));
  }

  -- at first none is
  pub layer_none : (left : ℕ) (layer : List ℤ) → length layer ≡ layer_numbers g d → IsLayerBelow g d left 0 layer
  layer_none left layer count = record { count = count; each = λ k c q inside column kind done. absurd (omega (arith, done)) }

-- a segment comes soon after its request
pub came_soon : (g : Task) → IsTask g → (start i r : ℕ) → i < segments_of g.film → r < rungs_of g.film → came_at g start i r ≤ start + 300010000
came_soon g is start i r low rung = (done_found (period_at g.periods) (trace_flows g.periods is.trace) (omega arith) start (size_of g.film i r) (size_within g.film i r is.film low rung).1).0

-- the layers so far, with one more
pub layers_more : (g : Task) (d : GridParts) (n : ℕ) (held : List (Vec ℤ Global)) (v : Vec ℤ Global) → AreLayers g d n held → IsGainLayer g d n v.items → AreLayers g d (n + 1) (held ++ v ∷ [])
layers_more g d n held v h layer =
    let count = h.count in
    record {
      count = length-append held (v ∷ []) ∙ omega (arith, count);
      each = λ left none low. ⊎_elim
          (λ (old : left < n). subst (λ (x : Vec ℤ Global). IsGainLayer g d left x.items) (sym (get_or_append_left held (v ∷ []) none left (omega (arith, old, count)))) (h.each left none old))
          (λ new. let last : left ≡ n = omega (arith, new, low) in
          subst (λ m. IsGainLayer g d m (slice_index_or (held ++ v ∷ []) m none).items) (sym last)
          (subst (λ (x : Vec ℤ Global). IsGainLayer g d n x.items) (sym (ap (λ y. slice_index_or (held ++ v ∷ []) y none) (sym count) ∙ get_or-append_seam held v [] none)) layer)) (cases_lt left n);
    }

-- the first of them
pub layers_one : (g : Task) (d : GridParts) (v : Vec ℤ Global) → IsGainLayer g d 0 v.items → AreLayers g d 1 ([] ++ v ∷ [])
layers_one g d v layer = layers_more g d 0 [] v (record { count = refl; each = λ left none low. absurd (omega (arith, low)) }) layer

-- a start label may be followed
pub start_follows : (g : Task) → IsTask g → (q : ℕ) → q < rungs_of g.film → CanFollow (start_label g q)
start_follows g is q rung = reach_follows 0 (start_label g q) (omega arith) (well_in_reach 0 (start_label g q) (start_reach g is q rung))
