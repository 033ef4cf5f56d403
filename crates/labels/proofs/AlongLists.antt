-- The first segments of a rung list, as they are played.
use Rattle.std.proofs.Common.{◌≡◌, ◌∙◌, ℕ, suc, ◌+◌, ◌<◌, ◌≤◌, List, [], ◌∷◌, ◌++◌, length, slice_index, take, refl, sym, ap, add-one, arith}
use Rattle.std.proofs.lemmas.List.{length-take-le, take_more}
use Rattle.lab_model.specs.declared.context.Played.{Played}
use Rattle.lab_model.specs.Sums.{played_from}
use Rattle.labels.specs.Along.{rungs_played}

-- one segment on a rung
abbrev pub segment_on : ℕ → ℕ → Played
segment_on segment rung = record { segment = segment; rung = rung }

from_push : (segment : ℕ) (rungs : List ℕ) (rung : ℕ) → played_from segment (rungs ++ rung ∷ []) ≡ played_from segment rungs ++ segment_on (segment + length rungs) rung ∷ []
from_push segment [] rung = let same : segment ≡ segment + 0 = omega arith in ap (λ n. segment_on n rung ∷ []) same
from_push segment (r ∷ rs) rung =
    let same : segment + 1 + length rs ≡ segment + suc (length rs) = omega arith in
    ap (λ ps. segment_on segment r ∷ ps) (from_push (segment + 1) rs rung ∙ ap (λ n. played_from (segment + 1) rs ++ segment_on n rung ∷ []) same)

from_length : (segment : ℕ) (rungs : List ℕ) → length (played_from segment rungs) ≡ length rungs
from_length segment [] = refl
from_length segment (r ∷ rs) = ap suc (from_length (segment + 1) rs)

module _ (rungs : List ℕ) (k : ℕ) where
  -- one segment more
  pub played_next : k < length rungs → rungs_played rungs (suc k) ≡ rungs_played rungs k ++ segment_on k (slice_index rungs k) ∷ []
  played_next low =
      let r = slice_index rungs k in
      ap (λ n. rungs_played rungs n) (sym (add-one k)) ∙ ap (played_from 0) (take_more rungs k 0 low) ∙ from_push 0 (take k rungs) r
      ∙ ap (λ n. rungs_played rungs k ++ segment_on n r ∷ []) (let count = length-take-le k rungs (omega (arith, low)) in omega (arith, count))

  -- how many they are
  pub played_length : k ≤ length rungs → length (rungs_played rungs k) ≡ k
  played_length most = from_length 0 (take k rungs) ∙ length-take-le k rungs most
