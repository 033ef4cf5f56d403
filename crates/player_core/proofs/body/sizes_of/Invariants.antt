use Rattle.std.proofs.Common.{◌≡◌, ◌*◌, ◌≤◌, take}
use Rattle.network_clock.specs.Limits.{most_bits}
use Rattle.std.specs.List.{sum_by}
use Rattle.lab_model.specs.Film.{size_of}
use Rattle.player_core.proofs.body.sizes_of.Given as goal

abbrev pub invariant-loop-q : goal.invariant-loop-q
invariant-loop-q l = record {
  sum : l.total ≡ sum_by (λ q. size_of l.m q.segment q.rung) (take l.q-index l.loaded);
  fits : l.total ≤ most_bits * l.q-index;
}
