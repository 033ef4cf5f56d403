use Rattle.std.proofs.Common.{ℕ, ◌≤◌, length, Ok}
use Rattle.lab_io.specs.Sink.{Puts}
use Rattle.player_core.specs.Session.{Shown}
use Rattle.abrlab_top.specs.Players.{AreOf, players_text}
use Rattle.abrlab_top.proofs.players.write_players.Given as goal

-- the texts of the players so far went out
abbrev pub invariant-loop-place : goal.invariant-loop-place
invariant-loop-place g l = record {
  most : l.place ≤ length l.fn.sessions;
  told : (shows : ℕ → Shown) → AreOf shows l.fn.sessions → Puts (g.O.Sink.seen l.fn.out) (players_text shows l.weights l.place) (g.O.Sink.seen l.out) (Ok tt);
}
