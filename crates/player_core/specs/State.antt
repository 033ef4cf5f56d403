-- What a session is played on, and the player's state.
use Rattle.std.specs.Prelude.{ℕ, List, [], Bool, false, Option, None}
use Rattle.lab_model.specs.declared.trace.Period.{Period}
use Rattle.lab_model.specs.declared.setup.Setup.{Setup}
use Rattle.lab_model.specs.declared.context.Seek.{Seek}
use Rattle.lab_model.specs.declared.context.Played.{Played}
use Rattle.lab_model.specs.Film.{Film}
use Rattle.lab_model.specs.Rules.{RuleKind}
use Rattle.network_clock.specs.declared.job.Job.{Job}
use Rattle.network_clock.specs.Network.{period_at}
use Rattle.player_core.specs.declared.session.Event.{Event}

-- all that a session depends on: film, network by the period of each instant, setup, seek script, media ahead, and rule
pub record Case : Type 0 where
  pub film : Film
  pub network : ℕ → Period
  pub setup : Setup
  pub seeks : List Seek
  pub ahead : ℕ
  pub rule : RuleKind

-- the case of these parts, where the network is a trace
abbrev pub case_of : Film → List Period → Setup → List Seek → ℕ → RuleKind → Case
case_of f periods set seeks ahead kind = record { film = f; network = period_at periods; setup = set; seeks = seeks; ahead = ahead; rule = kind }

-- before the first segment, playing, after a seek, and at the end
pub data Mode : Type 0 where
  starting : Mode
  playing : Mode
  seeking : Mode
  ended : Mode

-- a running download: what was asked for and when, its job, and the first instant spent on bits, if any
pub record Download : Type 0 where
  pub segment : ℕ
  pub rung : ℕ
  pub asked : ℕ
  pub job : Job
  pub first : Option ℕ

-- the player: the instant, the position, the loaded end, the next segment, the download, the forced rung, the rung of the last
-- completed segment, the mode, the loaded segments that haven't begun, whether the millisecond before was a stall, the history of rates,
-- the counters, the events and the played segments
pub record Player : Type 0 where
  pub t : ℕ
  pub x : ℕ
  pub y : ℕ
  pub k : ℕ
  pub download : Option Download
  pub forced : Option ℕ
  pub last : Option ℕ
  pub mode : Mode
  pub loaded : List Played
  pub stalling : Bool
  pub history : List ℕ
  pub startup_ms : ℕ
  pub stall_ms : ℕ
  pub seek_ms : ℕ
  pub stalls : ℕ
  pub wasted : ℕ
  pub events : List Event
  pub played : List Played

-- the player at the start
abbrev pub first_player : Player
first_player = record {
  t = 0;
  x = 0;
  y = 0;
  k = 0;
  download = None;
  forced = None;
  last = None;
  mode = starting;
  loaded = [];
  stalling = false;
  history = [];
  startup_ms = 0;
  stall_ms = 0;
  seek_ms = 0;
  stalls = 0;
  wasted = 0;
  events = [];
  played = [];
}
