use Rattle.std.proofs.Common.{◌≡◌, ◌<◌, take}
use Rattle.std.specs.Option.{IfSome}
use Rattle.quality_score.specs.Tallied.{IsTallyOf}
use Rattle.quality_score.proofs.score.Given as goal

abbrev pub invariant-loop-p : goal.invariant-loop-p
invariant-loop-p l = record {
  stands : IsTallyOf l.w (take l.p-index l.played) l.tally;
  before : IfSome l.tally.last (λ q. q < l.w.count);
  count : l.tally.count ≡ l.p-index;
}
