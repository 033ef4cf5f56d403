use Rattle.std.proofs.Common.{ℕ, length}
use Rattle.player_core.specs.State.{Player}
use Rattle.shared_link.specs.Table.{AreShown, Stand}
use Rattle.shared_link.proofs.table.sessions_of.Given as goal

abbrev pub invariant-loop-body : goal.invariant-loop-body
invariant-loop-body l = (ps : ℕ → Player) → Stand ps l.yielded → AreShown ps (length l.yielded) l.sessions.items
