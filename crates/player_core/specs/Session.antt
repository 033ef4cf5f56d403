-- The session: the player millisecond, repeated from the first state to the first ended instant.
use Rattle.std.specs.Prelude.{ℕ, zero, suc, List, Bool}
use Rattle.lab_model.specs.declared.context.Played.{Played}
use Rattle.network_clock.specs.Search.{least_below}
use Rattle.player_core.specs.declared.session.Event.{Event}
use Rattle.player_core.specs.declared.session.Session.{Session}
use Rattle.player_core.specs.Limits.{latest_ms}
use Rattle.player_core.specs.State.{Case, Player, first_player}
use Rattle.player_core.specs.Parts.{instant, is_ended, player_ms}

-- the player after so many milliseconds
unfoldable pub player_after : Case → ℕ → Player
player_after c zero = first_player
player_after c (suc n) = player_ms c (player_after c n)

-- whether the session ends at an instant
abbrev pub ends_at : Case → ℕ → Bool
ends_at c n = is_ended (instant c (player_after c n)).mode

-- the first instant at which the session has ended
unfoldable pub end_of : Case → ℕ
end_of c = least_below latest_ms (ends_at c)

-- the player at the end
unfoldable pub last_player : Case → Player
last_player c = instant c (player_after c (end_of c))

-- what a session shows: its events, its played segments and its counters
pub record Shown : Type 0 where
  pub events : List Event
  pub played : List Played
  pub startup_ms : ℕ
  pub stall_ms : ℕ
  pub seek_ms : ℕ
  pub stalls : ℕ
  pub wasted_bits : ℕ
  pub ended : ℕ

-- what a player shows at its end
abbrev pub shown_by : Player → Shown
shown_by p = record {
  events = p.events;
  played = p.played;
  startup_ms = p.startup_ms;
  stall_ms = p.stall_ms;
  seek_ms = p.seek_ms;
  stalls = p.stalls;
  wasted_bits = p.wasted;
  ended = p.t;
}

-- the session of a case
abbrev pub session_of : Case → Shown
session_of c = shown_by (last_player c)

-- what a session value shows
abbrev pub shown : Session → Shown
shown s = record {
  events = s.events.items;
  played = s.played.items;
  startup_ms = s.startup_ms;
  stall_ms = s.stall_ms;
  seek_ms = s.seek_ms;
  stalls = s.stalls;
  wasted_bits = s.wasted_bits;
  ended = s.end;
}
