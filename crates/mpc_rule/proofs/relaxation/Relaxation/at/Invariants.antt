use Rattle.std.proofs.Common.{◌≡◌, ◌+◌, ◌-◌, ◌<◌, ℕ, length}
use Rattle.std.specs.Prelude.{ℤ, slice_index_or}
use Rattle.mpc_rule.specs.Relaxations.{IsMostToCome}
use Rattle.mpc_rule.proofs.relaxation.Relaxation.at.Given as goal

abbrev pub invariant-loop-n : goal.invariant-loop-n
invariant-loop-n l =
    let o = l.forecast in
    record {
      places : length l.sums ≡ 5;
      sum : IsMostToCome o l.price l.n (o.span - l.n) l.sum;
      most : (k : ℕ) (z : ℤ) → k < l.n → IsMostToCome o l.price (k + 1) (o.span - (k + 1)) (slice_index_or l.sums k z);
    }
