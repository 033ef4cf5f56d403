-- Not part of the model: what the proofs keep.
-- What a tally keeps of the segments that it was told.
use Rattle.std.specs.Prelude.{◌≡◌, ℕ, ◌*◌, ◌≤◌, List, length, Option, None}
use Rattle.lab_model.specs.declared.context.Played.{Played}
use Rattle.lab_model.specs.Weighing.{Weighing}
use Rattle.quality_score.specs.Score.{most_scored}
use Rattle.lab_model.specs.Sums.{changes_of, last_rung, utilities_of}

-- two sums, the last rung and the number of segments
pub record Tallied : Type 0 where
  pub utilities : ℕ
  pub changes : ℕ
  pub last : Option ℕ
  pub count : ℕ

-- the tally stands for these segments under these weights
pub record IsTallyOf (w : Weighing) (ps : List Played) (t : Tallied) : Type 0 where
  pub utilities : t.utilities ≡ utilities_of w ps
  pub changes : t.changes ≡ changes_of w None ps
  pub last : t.last ≡ last_rung None ps
  pub count : t.count ≡ length ps

-- no sum is more than the greatest utility for each segment
pub record IsSmall (t : Tallied) : Type 0 where
  pub utilities : t.utilities ≤ 1000000 * t.count
  pub changes : t.changes ≤ 1000000 * t.count
  pub count : t.count ≤ most_scored
