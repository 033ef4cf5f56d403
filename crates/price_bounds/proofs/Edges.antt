-- The least delays of cells, one after the other.
use Rattle.std.proofs.Common.{◌≡◌, ◌∙◌, ℕ, zero, suc, ◌+◌, ◌-◌, ◌/◌, ◌≤◌, ◌<◌, ⊎_elim, List, [], ◌∷◌, ◌++◌, length, get_or, refl, sym, ap, subst, arith, add-one, length-append}
use Rattle.std.specs.Prelude.{slice_index}
use Rattle.std.proofs.lemmas.Bool.{cases_lt}
use Rattle.std.proofs.Math.Seq.{get_or-append_seam}
use Rattle.std.proofs.lemmas.List.{get_or_append_left}
use Rattle.price_bounds.specs.Cells.{cells_of, farthest_delay, least_delay}
use Rattle.price_bounds.specs.Tables.{AreEdges, AreEdgesSoFar}
use Rattle.price_bounds.proofs.CellLaws.{cells_begin, cells_end, least_first, least_next}

module _ (first : ℕ) where
  -- the first of them
  pub edges_first : AreEdgesSoFar first first (first ∷ [])
  edges_first = record {
    some = omega arith;
    last = sym (least_first first);
    each = λ c low. only c low;
    near = λ c low. absurd (omega (arith, low));
  }
    where
      only : (c : ℕ) → c < length (first ∷ []) → slice_index (first ∷ []) c ≡ least_delay first c
      only zero low = sym (least_first first)
      only (suc c) low = absurd (omega (arith, low))

  -- and one more
  pub edges_more : (edge next : ℕ) (edges : List ℕ) → AreEdgesSoFar first edge edges → edge ≤ farthest_delay → next ≡ edge + 1 + (edge - first) / 64 → AreEdgesSoFar first next (edges ++ next ∷ [])
  edges_more edge next edges h near e =
      let some = h.some in
      let long = length-append edges (next ∷ []) in
      let last = h.last in
      let step = least_next first (length edges - 1) in
      let place : suc (length edges - 1) ≡ length edges = omega (arith, some) in
      let here = ap (least_delay first) place in
      let is : next ≡ least_delay first (length edges) = omega (arith, e, last, step, here) in
      record {
        some = omega (arith, long);
        last = is ∙ ap (least_delay first) (omega (arith, long));
        each = λ c low. ⊎_elim
            (λ (old : c < length edges). get_or_append_left edges (next ∷ []) 0 c old ∙ h.each c old)
            (λ (new : length edges ≤ c). let at : length edges ≡ c = omega (arith, long, low, new) in
            subst (λ k. slice_index (edges ++ next ∷ []) k ≡ least_delay first k) at (get_or-append_seam edges next [] 0 ∙ is)) (cases_lt c (length edges));
        near = λ c low. ⊎_elim
            (λ (old : c + 1 < length edges). h.near c old)
            (λ (new : length edges ≤ c + 1). let at : length edges - 1 ≡ c = omega (arith, long, low, new, some) in
            let same = ap (least_delay first) at in omega (arith, same, last, near)) (cases_lt (c + 1) (length edges));
      }

  -- behind the farthest they are all
  pub edges_all : (edge : ℕ) (edges : List ℕ) → first ≤ farthest_delay → AreEdgesSoFar first edge edges → farthest_delay < edge → AreEdges first edges
  edges_all edge edges near h far =
      let some = h.some in
      let last = h.last in
      let n = length edges - 1 in
      let end = (cells_end first).1 in
      let count : n ≡ cells_of first =
      ⊎_elim (λ (low : n < cells_of first). let begin = cells_begin first n low in absurd (omega (arith, begin, last, far)))
      (λ (high : cells_of first ≤ n). ⊎_elim (λ (more : cells_of first < n). let begin = h.near (cells_of first) (omega (arith, more)) in absurd (omega (arith, begin, end))) (λ (not : n ≤ cells_of first). omega (arith, high, not)) (cases_lt (cells_of first) n)) (cases_lt n (cells_of first)) in
      record {
        near = near;
        count = omega (arith, count, some);
        each = λ c low. h.each c (omega (arith, count, some, low));
      }
