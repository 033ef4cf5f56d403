-- Along a rung list each window's bits cost no more than the link part counts for it.
use Rattle.std.proofs.Common.{◌≡◌, ◌∙◌, ℕ, zero, suc, ◌+◌, ◌-◌, ◌*◌, ◌<◌, ◌≤◌, ⊎_elim, List, [], ◌∷◌, length, drop, Bool, true, false, ◌&&◌, refl, sym, ap, subst, arith, add-one}
use Rattle.std.specs.Prelude.{if◌then◌else◌, nat_le, slice_index}
use Rattle.std.specs.List.{All, sum_by}
use Rattle.std.proofs.lemmas.Bool.{and_from, cond-false, cond-true, le-leb, lt-leb}
use Rattle.std.proofs.lemmas.List.{drop_all}
use Rattle.std.proofs.lemmas.List.Elements.{All-head, All-tail}
use Rattle.std.proofs.lemmas.List.Sums.{sum_by-cons}
use Rattle.std.proofs.Math.Bool.{and-false}
use Rattle.std.proofs.Math.Nat.{mul-le-mul_left}
use Rattle.std.proofs.Math.Seq.{drop-cons}
use Rattle.lab_model.specs.declared.context.Played.{Played}
use Rattle.lab_model.specs.Film.{segments_of, size_of}
use Rattle.lab_model.specs.Sums.{played_from}
use Rattle.player_core.specs.Scene.{IsTask, Task}
use Rattle.labels.specs.Labels.{AreRungs, label_at}
use Rattle.labels.proofs.AlongLists.{segment_on}
use Rattle.price_bounds.specs.declared.window.Window.{Window}
use Rattle.price_bounds.specs.Cells.{greatest_delay, least_delay}
use Rattle.price_bounds.specs.LinkPart.{begin_at, carried_to, cell_in, end_at, worth_to_begin, worth_to_end}
use Rattle.price_bounds.specs.ListPart.{priced_bits}
use Rattle.price_bounds.specs.Windows.{AreWindows, IsWindow, has_segment}
use Rattle.price_bounds.proofs.Along.{asked_along, asked_late, bits_along, came_soon, chained}
use Rattle.price_bounds.proofs.Carried.{carried_rises}
use Rattle.price_bounds.proofs.CellsAlong.{cells_along, in_cell}
use Rattle.price_bounds.proofs.Chains.{AreWindowBits, window_carries}
use Rattle.price_bounds.proofs.Priced.{bits_in, bits_of, priced_more, priced_none}

-- the segments of a rung list from one on
abbrev pub played_after : List ℕ → ℕ → List Played
played_after rungs j = played_from j (drop j rungs)

-- the first of them, and the rest
pub played_one : (rungs : List ℕ) (j : ℕ) → j < length rungs → played_after rungs j ≡ segment_on j (slice_index rungs j) ∷ played_after rungs (j + 1)
played_one rungs j low =
    ap (played_from j) (drop-cons rungs j 0 low) ∙ ap (λ n. segment_on j (slice_index rungs j) ∷ played_from (j + 1) (drop n rungs)) (sym (add-one j))

-- behind the last there is none
pub played_none : (rungs : List ℕ) (j : ℕ) → length rungs ≤ j → played_after rungs j ≡ []
played_none rungs j long = ap (played_from j) (drop_all j rungs long)

-- ---- whether a window has a segment

has_inside : (w : Window) (j : ℕ) → w.first ≤ j → j ≤ w.last → has_segment w j ≡ true
has_inside w j from to = and_from _ _ (le-leb _ _ from) (le-leb _ _ to)

has_before : (w : Window) (j : ℕ) → j < w.first → has_segment w j ≡ false
has_before w j early = ap (λ b. b && nat_le j w.last) (lt-leb w.first j early)

has_behind : (w : Window) (j : ℕ) → w.last < j → has_segment w j ≡ false
has_behind w j late = ap (λ b. nat_le w.first j && b) (lt-leb j w.last late) ∙ and-false (nat_le w.first j)

module _ (g : Task) (rungs : List ℕ) (w : Window) (long : length rungs ≡ segments_of g.film) where
  one : (j : ℕ) → j < segments_of g.film → bits_in g w (played_after rungs j) ≡ bits_of g w (segment_on j (slice_index rungs j)) + bits_in g w (played_after rungs (j + 1))
  one j low = ap (bits_in g w) (played_one rungs j (omega (arith, low, long))) ∙ sum_by-cons (bits_of g w) (segment_on j (slice_index rungs j)) (played_after rungs (j + 1))

  out : (j : ℕ) → j < segments_of g.film → has_segment w j ≡ false → bits_in g w (played_after rungs j) ≡ bits_in g w (played_after rungs (j + 1))
  out j low has = let e = one j low in let none = cond-false (has_segment w j) (size_of g.film j (slice_index rungs j)) 0 has in omega (arith, e, none)

  -- the bits of the segments that the window has
  pub window_bits : AreWindowBits (segments_of g.film) w.first w.last (bits_along g rungs) (λ j. bits_in g w (played_after rungs j))
  window_bits = record {
    before = λ j low early. out j low (has_before w j early);
    inside = λ j low from to. let e = one j low in let own = cond-true (has_segment w j) (size_of g.film j (slice_index rungs j)) 0 (has_inside w j from to) in omega (arith, e, own);
    behind = λ j low late. out j low (has_behind w j late);
    none = ap (bits_in g w) (played_none rungs (segments_of g.film) (omega (arith, long)));
  }

priced : (price a b c d bits : ℕ) → a ≤ b → b + 1000 * bits ≤ c → c ≤ d → price * a + 1000 * (price * bits) ≤ price * d
priced price a b c d bits low over high =
    let all : a + 1000 * bits ≤ d = omega (arith, low, over, high) in
    let h = mul-le-mul_left price all in
    omega (arith, h)

module _ (g : Task) (is : IsTask g) (rungs : List ℕ) (fits : AreRungs g (segments_of g.film) rungs) where
  -- the earliest begin of a segment but the first, by its cell, is no later than its request
  begins : (i : ℕ) → i < segments_of g.film → begin_at g (label_at g rungs 0).p (suc i) (least_delay (label_at g rungs 0).p (cell_in (cells_along g rungs) i)) ≤ asked_along g rungs (suc i)
  begins i low = asked_late g rungs i (least_delay (label_at g rungs 0).p (cell_in (cells_along g rungs) i)) (in_cell g is rungs fits i low).from

  begins_at : (k : ℕ) → 1 ≤ k → k < segments_of g.film → begin_at g (label_at g rungs 0).p k (least_delay (label_at g rungs 0).p (cell_in (cells_along g rungs) (k - 1))) ≤ asked_along g rungs k
  begins_at zero some low = absurd (omega (arith, some))
  begins_at (suc i) some low =
      let back : i ≡ suc i - 1 = omega arith in
      subst (λ j. begin_at g (label_at g rungs 0).p (suc i) (least_delay (label_at g rungs 0).p (cell_in (cells_along g rungs) j)) ≤ asked_along g rungs (suc i)) back (begins i (omega (arith, low)))

  -- the latest end of a segment, by its cell, is no earlier than its own
  ends : (i : ℕ) → i < segments_of g.film → (label_at g rungs i).t ≤ end_at g i (greatest_delay (label_at g rungs 0).p (cell_in (cells_along g rungs) i))
  ends i low = let soon = came_soon g rungs i in let until = (in_cell g is rungs fits i low).until in omega (arith, soon, until)

  -- one window
  window_worth : (w : Window) → IsWindow (segments_of g.film) w
      → worth_to_begin g (label_at g rungs 0).p (cells_along g rungs) w + 1000 * (w.price * bits_in g w (played_after rungs 1)) ≤ worth_to_end g (label_at g rungs 0).p (cells_along g rungs) w
  window_worth w h =
      let cells = cells_along g rungs in
      let first = (label_at g rungs 0).p in
      let begin = begin_at g first w.first (least_delay first (cell_in cells (w.first - 1))) in
      let end = end_at g w.last (greatest_delay first (cell_in cells w.last)) in
      let some = h.begins in
      let order = h.order in
      let inside = h.inside in
      priced w.price (carried_to g begin) (carried_to g (asked_along g rungs w.first)) (carried_to g (label_at g rungs w.last).t) (carried_to g end) (bits_in g w (played_after rungs 1))
      (carried_rises g.periods begin (asked_along g rungs w.first) (begins_at w.first some (omega (arith, order, inside))))
      (window_carries (segments_of g.film) w.first w.last (λ j. carried_to g (asked_along g rungs j)) (λ j. carried_to g (label_at g rungs j).t) (bits_along g rungs) (λ j. bits_in g w (played_after rungs j)) some order inside (chained g is rungs fits) (window_bits g rungs w fits.0))
      (carried_rises g.periods (label_at g rungs w.last).t end (ends w.last inside))

  -- all of them
  pub windows_worth : (ws : List Window) → AreWindows (segments_of g.film) ws
      → sum_by (worth_to_begin g (label_at g rungs 0).p (cells_along g rungs)) ws + 1000 * priced_bits g ws (played_after rungs 1) ≤ sum_by (worth_to_end g (label_at g rungs 0).p (cells_along g rungs)) ws
  windows_worth [] h = let none = priced_none g (played_after rungs 1) in omega (arith, none)
  windows_worth (w ∷ ws) h =
      let cells = cells_along g rungs in
      let first = (label_at g rungs 0).p in
      let here = window_worth w (All-head (IsWindow (segments_of g.film)) w ws h) in
      let others = windows_worth ws (All-tail (IsWindow (segments_of g.film)) w ws h) in
      let bits = priced_more g w ws (played_after rungs 1) in
      let begin = sum_by-cons (worth_to_begin g first cells) w ws in
      let end = sum_by-cons (worth_to_end g first cells) w ws in
      omega (arith, here, others, bits, begin, end)
