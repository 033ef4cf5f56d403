use Rattle.std.proofs.Common.{◌≡◌, ℕ, ◌≤◌}
use Rattle.player_core.specs.State.{Player}
use Rattle.shared_link.specs.Joint.{takers_in}
use Rattle.shared_link.specs.Table.{Stand}
use Rattle.shared_link.proofs.table.count_takers.Given as goal

abbrev pub invariant-loop-body : goal.invariant-loop-body
invariant-loop-body l = record {
  few : l.takers ≤ l.body-index;
  takers : (ps : ℕ → Player) → Stand ps l.bodies → l.takers ≡ takers_in l.period ps l.body-index;
}
