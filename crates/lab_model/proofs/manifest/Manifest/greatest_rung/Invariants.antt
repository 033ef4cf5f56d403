use Rattle.std.proofs.Common.{◌≡◌, ◌*◌, ◌<◌}
use Rattle.std.specs.Bool.{nat_le}
use Rattle.lab_model.specs.Ladder.{greatest_rung}
use Rattle.lab_model.specs.Film.{bitrate_of, rungs_of}
use Rattle.lab_model.proofs.manifest.Manifest.greatest_rung.Given as goal

abbrev pub invariant-loop-q : goal.invariant-loop-q
invariant-loop-q l = record {
  best : l.best ≡ greatest_rung (λ q. nat_le (l.factor * bitrate_of l.self q) l.limit) l.q;
  rung : l.best < rungs_of l.self;
}
