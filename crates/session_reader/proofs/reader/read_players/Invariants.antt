use Rattle.std.proofs.Common.{◌≡◌, ◌+◌, ◌*◌, ◌-◌, ◌≤◌, map}
use Rattle.session_reader.specs.Form.{most_players, telling}
use Rattle.session_reader.specs.Reading.{read_players}
use Rattle.session_reader.proofs.Loops.{players_behind}
use Rattle.session_reader.proofs.reader.read_players.Given as goal

-- the sessions so far, and those that are still read, from a line that is not too far down
abbrev pub invariant-loop-i : goal.invariant-loop-i
invariant-loop-i l = record {
  sessions : players_behind (map telling l.sessions.items) (read_players (most_players - l.i) (l.i + 1) l.row l.rest) ≡ read_players most_players 1 1 l.bytes;
  low : l.row ≤ 1 + l.i * 67108872;
}
