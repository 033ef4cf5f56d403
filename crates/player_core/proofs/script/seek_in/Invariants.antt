use Rattle.std.proofs.Common.{◌≡◌, ℕ, ◌+◌, ◌<◌, ◌≤◌, drop}
use Rattle.player_core.specs.Limits.{latest_ms}
use Rattle.player_core.specs.Parts.{seek_at}
use Rattle.player_core.proofs.script.seek_in.Given as goal

abbrev pub invariant-loop-s : goal.invariant-loop-s
invariant-loop-s l = record {
  some : 1 ≤ l.ms;
  limit : l.ms ≤ latest_ms;
  past : (m : ℕ) → l.t < m → m < l.t + l.ms → seek_at l.seeks m ≡ seek_at (drop l.s-index l.seeks) m;
}
