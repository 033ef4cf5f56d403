-- One segment of the link part: its table, cell by cell from the last.
use Rattle.std.proofs.Common.{◌≡◌, ◌∙◌, ◌≢◌, ℕ, zero, suc, ◌+◌, ◌-◌, ◌*◌, ◌≤◌, ◌<◌, ◌⊎◌, inl, inr, ⊎_elim, List, length, get_or, max, cond, true, false, refl, sym, ap, subst, arith}
use Rattle.std.specs.Prelude.{ℤ, pos, ◌+ℤ◌, ◌-ℤ◌, ◌≤ℤ◌, int_lt, slice_index_or}
use Rattle.std.specs.Int.{int_max}
use Rattle.std.proofs.Math.ListN.{set}
use Rattle.std.proofs.lemmas.Bool.{cases_eq, cases_lt, cond_both}
use Rattle.std.proofs.lemmas.Int.{clamps, int_max_is, ints}
use Rattle.std.proofs.lemmas.List.{get_or-set_other, get_or-set_same, length-set}
use Rattle.lab_model.proofs.Orders.{≤ℤ_trans}
use Rattle.price_bounds.specs.Steps.{CanFollow, Gains, IsMost, IsTable, IsTop, Moves}
use Rattle.price_bounds.specs.Tables.{IsBestOf, IsSteppedTo}
use Rattle.price_bounds.proofs.Steps.{most_next}

-- the greater of two is one of them and no less than the other
pub max_cases : (a b : ℤ) → ((int_max a b ≡ a) × (b ≤ℤ a)) ⊎ ((int_max a b ≡ b) × (a ≤ℤ b))
max_cases a b = grind (arith, ints)

-- equal numbers are in order
pub z_itself : (a b : ℤ) → a ≡ b → a ≤ℤ b
z_itself a b e = omega (arith, ints, e)

module _ (count : ℕ) (worth : ℕ → ℤ) where
  -- the last place alone
  pub best_first : (best : ℤ) → 1 ≤ count → best ≡ worth (count - 1) → IsBestOf count 1 worth best
  best_first best some e = record {
    place = count - 1;
    below = omega (arith, some);
    among = omega (arith, some);
    reached = e;
    bounds = λ c low last. let at : c ≡ count - 1 = omega (arith, low, last) in z_itself (worth c) best (ap worth at ∙ sym e);
  }

  -- one place more, the one before them
  pub best_more : (done cell : ℕ) (best : ℤ) → cell + done + 1 ≡ count → IsBestOf count (max done 1) worth best → IsBestOf count (max (done + 1) 1) worth (int_max best (worth cell))
  best_more done cell best e h =
      let below = h.below in
      let among = h.among in
      ⊎_elim
      (λ (old : (int_max best (worth cell) ≡ best) × (worth cell ≤ℤ best)). record {
        place = h.place;
        below = below;
        among = omega (arith, among);
        reached = old.0 ∙ h.reached;
        bounds = λ c low last. ⊎_elim
            (λ (here : c ≡ cell). ≤ℤ_trans (worth c) (worth cell) (int_max best (worth cell)) (z_itself (worth c) (worth cell) (ap worth here)) (≤ℤ_trans (worth cell) best (int_max best (worth cell)) old.1 (z_itself best (int_max best (worth cell)) (sym old.0))))
            (λ (apart : c ≡ cell → ⊥). ≤ℤ_trans (worth c) best (int_max best (worth cell)) (h.bounds c low (omega (arith, e, last, apart))) (z_itself best (int_max best (worth cell)) (sym old.0))) (cases_eq c cell);
      })
      (λ (new : (int_max best (worth cell) ≡ worth cell) × (best ≤ℤ worth cell)). record {
        place = cell;
        below = omega (arith, e);
        among = omega (arith, e);
        reached = new.0;
        bounds = λ c low last. ⊎_elim
            (λ (here : c ≡ cell). z_itself (worth c) (int_max best (worth cell)) (ap worth here ∙ sym new.0))
            (λ (apart : c ≡ cell → ⊥). ≤ℤ_trans (worth c) best (int_max best (worth cell)) (h.bounds c low (omega (arith, e, last, apart))) (≤ℤ_trans best (worth cell) (int_max best (worth cell)) new.1 (z_itself (worth cell) (int_max best (worth cell)) (sym new.0)))) (cases_eq c cell);
      }) (max_cases best (worth cell))

lifted : (end old best : ℤ) (begin : ℕ) → (end +ℤ old) ≤ℤ best → ((end -ℤ pos begin) +ℤ old) ≤ℤ (best -ℤ pos begin)
lifted end old best begin h = omega (arith, ints)

lifted_is : (end old best : ℤ) (begin : ℕ) → best ≡ (end +ℤ old) → (best -ℤ pos begin) ≡ ((end -ℤ pos begin) +ℤ old)
lifted_is end old best begin e = omega (arith, ints, e)

-- moves from a place to itself and those behind it
module _ (m : Moves) (f : Gains) (n i : ℕ) (old : List ℤ) (least : (c : ℕ) → m.least c ≡ c) (end : ℕ → ℤ) (begin : ℕ → ℕ)
    (step : (before c : ℕ) → f.step i before c ≡ (end c -ℤ pos (begin before))) where
  -- the best of a cell and those behind it, less its begin, is the most of a step
  pub best_top : (cell done : ℕ) (best : ℤ) → cell + done + 1 ≡ m.count → IsBestOf m.count (max (done + 1) 1) (λ c. end c +ℤ slice_index_or old c (pos 0)) best
      → IsTop m cell (λ c. f.step i cell c +ℤ slice_index_or old c (pos 0)) (best -ℤ pos (begin cell))
  best_top cell done best e h =
      let among = h.among in
      record {
        next = h.place;
        follows = record { from = let l = least cell in omega (arith, e, among, l); below = h.below };
        reached = lifted_is (end h.place) (slice_index_or old h.place (pos 0)) best (begin cell) h.reached ∙ sym (ap (λ v. v +ℤ slice_index_or old h.place (pos 0)) (step cell h.place));
        bounds = λ c follows.
            let from = follows.from in
            let l = least cell in
            subst (λ v. (v +ℤ slice_index_or old c (pos 0)) ≤ℤ (best -ℤ pos (begin cell))) (sym (step cell c))
            (lifted (end c) (slice_index_or old c (pos 0)) best (begin cell) (h.bounds c follows.below (omega (arith, e, from, l))));
      }

  -- nothing is done yet
  pub stepped_first : IsTable m f n (i + 1) old → IsSteppedTo m f n i old 0 old
  stepped_first h = record { count = h.count; kept = λ c low. refl; each = λ c low none. absurd (omega (arith, low, none)) }

  -- one place more
  pub stepped_more : (done cell : ℕ) (table : List ℤ) (best : ℤ) → IsTable m f n (i + 1) old → cell + done + 1 ≡ m.count → IsSteppedTo m f n i old done table
      → IsBestOf m.count (max (done + 1) 1) (λ c. end c +ℤ slice_index_or old c (pos 0)) best
      → IsSteppedTo m f n i old (done + 1) (set table cell (best -ℤ pos (begin cell)))
  stepped_more done cell table best behind e h b =
      let count = h.count in
      let value = best -ℤ pos (begin cell) in
      let low : cell < length table = omega (arith, e, count) in
      record {
        count = length-set table cell value ∙ count;
        kept = λ c early. let ne : c ≢ cell = omega (arith, early, e) in get_or-set_other table cell c value (pos 0) ne ∙ h.kept c (omega (arith, early));
        each = λ c below late. ⊎_elim
            (λ (here : c ≡ cell). subst (λ v. IsMost m f (suc n) i c v) (sym (ap (λ k. slice_index_or (set table cell value) k (pos 0)) here ∙ get_or-set_same table cell value (pos 0) low))
            (subst (λ k. IsMost m f (suc n) i k value) (sym here) (most_next m f n i cell (λ k. slice_index_or old k (pos 0)) value behind.each (best_top cell done best e b))))
            (λ (apart : c ≡ cell → ⊥). subst (λ v. IsMost m f (suc n) i c v) (sym (get_or-set_other table cell c value (pos 0) apart)) (h.each c below (omega (arith, late, apart, e)))) (cases_eq c cell);
      }

  -- all of them
  pub stepped_all : (done : ℕ) (table : List ℤ) → m.count ≤ done → IsSteppedTo m f n i old done table → IsTable m f (suc n) i table
  stepped_all done table all h = record { count = h.count; each = λ c low. h.each c low (omega (arith, all)) }
