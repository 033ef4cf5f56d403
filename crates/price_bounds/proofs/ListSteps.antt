-- One segment of the list part: its table, rung by rung; and the greatest over first rungs.
use Rattle.std.proofs.Common.{◌≡◌, ◌∙◌, ℕ, zero, suc, ◌+◌, ◌-◌, ◌*◌, ◌≤◌, ◌<◌, ⊎_elim, List, [], ◌∷◌, ◌++◌, length, map, refl, sym, ap, subst, arith, length-append}
use Rattle.std.specs.Prelude.{ℤ, pos, ◌+ℤ◌, ◌≤ℤ◌, slice_index_or}
use Rattle.std.specs.Int.{int_max}
use Rattle.std.specs.List.{Contains}
use Rattle.std.proofs.Math.Seq.{get_or-append_seam}
use Rattle.std.proofs.lemmas.Bool.{cases_eq, cases_lt}
use Rattle.std.proofs.lemmas.List.{get_or_append_left}
use Rattle.lab_model.proofs.Orders.{≤ℤ_trans}
use Rattle.lab_model.specs.Film.{rungs_of, segments_of}
use Rattle.lab_model.specs.Ladder.{rungs_below}
use Rattle.player_core.specs.Scene.{IsTask, Task}
use Rattle.labels.proofs.Walks.{from_rungs, in_rungs}
use Rattle.price_bounds.specs.declared.window.Window.{Window}
use Rattle.price_bounds.specs.Greatest.{greatest_of}
use Rattle.price_bounds.specs.Steps.{CanFollow, Gains, IsMost, IsTable, IsTop, Moves}
use Rattle.price_bounds.specs.Tables.{IsBestBelow, IsTableTo, rung_gain, rung_gains, rung_moves}
use Rattle.price_bounds.specs.Windows.{price_of}
use Rattle.price_bounds.proofs.CellSteps.{max_cases, z_itself}
use Rattle.price_bounds.proofs.Greatest.{greatest_is}
use Rattle.price_bounds.proofs.Steps.{most_last, most_next}

module _ (worth : ℕ → ℤ) where
  -- the first place alone
  pub below_first : (best : ℤ) → best ≡ worth 0 → IsBestBelow 1 worth best
  below_first best e = record {
    place = 0;
    below = omega arith;
    reached = e;
    bounds = λ c low. let at : c ≡ 0 = omega (arith, low) in z_itself (worth c) best (ap worth at ∙ sym e);
  }

  -- one place more
  pub below_more : (r : ℕ) (best top : ℤ) → top ≡ int_max best (worth r) → IsBestBelow r worth best → IsBestBelow (r + 1) worth top
  below_more r best top e h =
      let below = h.below in
      ⊎_elim
      (λ (old : (int_max best (worth r) ≡ best) × (worth r ≤ℤ best)). record {
        place = h.place;
        below = omega (arith, below);
        reached = e ∙ old.0 ∙ h.reached;
        bounds = λ c low. let up = z_itself best top (sym (e ∙ old.0)) in ⊎_elim
            (λ (here : c ≡ r). ≤ℤ_trans (worth c) (worth r) top (z_itself (worth c) (worth r) (ap worth here)) (≤ℤ_trans (worth r) best top old.1 up))
            (λ (apart : c ≡ r → ⊥). ≤ℤ_trans (worth c) best top (h.bounds c (omega (arith, low, apart))) up) (cases_eq c r);
      })
      (λ (new : (int_max best (worth r) ≡ worth r) × (best ≤ℤ worth r)). record {
        place = r;
        below = omega arith;
        reached = e ∙ new.0;
        bounds = λ c low. let up = z_itself (worth r) top (sym (e ∙ new.0)) in ⊎_elim
            (λ (here : c ≡ r). ≤ℤ_trans (worth c) (worth r) top (z_itself (worth c) (worth r) (ap worth here)) up)
            (λ (apart : c ≡ r → ⊥). ≤ℤ_trans (worth c) best top (h.bounds c (omega (arith, low, apart))) (≤ℤ_trans best (worth r) top new.1 up)) (cases_eq c r);
      }) (max_cases best (worth r))

  -- the greatest over the rungs below a count
  pub below_greatest : (count : ℕ) (best : ℤ) → IsBestBelow count worth best → best ≡ greatest_of (map worth (rungs_below count))
  below_greatest count best h =
      greatest_is worth (rungs_below count) h.place best (in_rungs count h.place h.below) (sym h.reached) (λ c there. h.bounds c (from_rungs count c there))

  -- the most of a step to any rung
  pub below_top : (g : Task) (before : ℕ) (best : ℤ) → IsBestBelow (rungs_of g.film) worth best → IsTop (rung_moves g) before worth best
  below_top g before best h = record {
    next = h.place;
    follows = record { from = omega arith; below = h.below };
    reached = h.reached;
    bounds = λ c follows. h.bounds c follows.below;
  }

module _ (m : Moves) (f : Gains) (n i : ℕ) where
  -- nothing stands in a table yet
  pub table_first : IsTableTo m f n i 0 []
  table_first = record { count = refl; each = λ c low. absurd (omega (arith, low)) }

  -- one place more
  pub table_more : (k : ℕ) (table : List ℤ) (value : ℤ) → IsTableTo m f n i k table → IsMost m f n i k value → IsTableTo m f n i (k + 1) (table ++ value ∷ [])
  table_more k table value h most =
      let count = h.count in
      let long = length-append table (value ∷ []) in
      record {
        count = omega (arith, count, long);
        each = λ c low. ⊎_elim
            (λ (old : c < k). subst (IsMost m f n i c) (sym (get_or_append_left table (value ∷ []) (pos 0) c (omega (arith, old, count)))) (h.each c old))
            (λ (new : k ≤ c). let at : length table ≡ c = omega (arith, count, low, new) in
            let here : k ≡ c = omega (arith, low, new) in
            subst (IsMost m f n i c) (sym (ap (λ j. slice_index_or (table ++ value ∷ []) j (pos 0)) (sym at) ∙ get_or-append_seam table value [] (pos 0))) (subst (λ j. IsMost m f n i j value) here most)) (cases_lt c k);
      }

  -- all of them
  pub table_all : (k : ℕ) (table : List ℤ) → k ≡ m.count → IsTableTo m f n i k table → IsTable m f n i table
  table_all k table e h = let count = h.count in record { count = omega (arith, count, e); each = λ c low. h.each c (omega (arith, low, e)) }

-- a table where no step is left
pub table_last : (m : Moves) (f : Gains) (i : ℕ) (table : List ℤ) → length table ≡ m.count → ((c : ℕ) → c < m.count → slice_index_or table c (pos 0) ≡ f.end c) → IsTable m f 0 i table
table_last m f i table count each = record { count = count; each = λ c low. subst (IsMost m f 0 i c) (sym (each c low)) (most_last m f i c) }

-- a table is one by equal numbers
pub table_at : (m : Moves) (f : Gains) (table : List ℤ) (n k i j : ℕ) → n ≡ k → i ≡ j → IsTable m f n i table → IsTable m f k j table
table_at m f table n k i j e d h = subst (λ a. IsTable m f a j table) e (subst (λ b. IsTable m f n b table) d h)

-- tables in turn, from the last segment to the first
module _ (m : Moves) (f : Gains) (n : ℕ) (table : List ℤ) where
  -- behind the last segment no step is left
  pub turn_first : (done : ℕ) → 1 ≤ n → done ≡ 1 → IsTable m f 0 n table → IsTable m f (n - ((n - done) + 1)) ((n - done) + 1) table
  turn_first done some one h = table_at m f table 0 (n - ((n - done) + 1)) n ((n - done) + 1) (omega (arith, some, one)) (omega (arith, some, one)) h

  -- so many are done, and those stand behind the segment before them
  pub turn_behind : (count done : ℕ) → count ≡ n → IsTable m f (n - ((n - done) + 1)) ((n - done) + 1) table → IsTable m f (n - ((count - done) + 1)) ((count - done) + 1) table
  turn_behind count done is h = subst (λ k. IsTable m f (n - ((k - done) + 1)) ((k - done) + 1) table) (sym is) h

  -- with that segment one more is done
  pub turn_next : (count done : ℕ) → count ≡ n → done < count → IsTable m f (n - (count - done)) (count - done) table → IsTable m f (n - ((n - (done + 1)) + 1)) ((n - (done + 1)) + 1) table
  turn_next count done is low h =
      table_at m f table (n - (count - done)) (n - ((n - (done + 1)) + 1)) (count - done) ((n - (done + 1)) + 1) (omega (arith, is, low)) (omega (arith, is, low)) h

  -- all but the first are done
  pub turn_last : (done : ℕ) → 1 ≤ n → done ≡ n → IsTable m f (n - ((n - done) + 1)) ((n - done) + 1) table → IsTable m f (n - 1) 1 table
  turn_last done some all h = table_at m f table (n - ((n - done) + 1)) (n - 1) ((n - done) + 1) 1 (omega (arith, some, all)) (omega (arith, some, all)) h
