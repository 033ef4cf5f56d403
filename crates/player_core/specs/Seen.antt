-- Not part of the model: what the proofs keep.
-- What the values of the player's code stand for.
use Rattle.std.specs.Prelude.{◌≡◌, ℕ, ◌+◌, ◌-◌, ◌<◌, ◌≤◌, ◌⊎◌, List, [], true, false, Option, None, IfSome, option_map}
use Rattle.network_clock.specs.Limits.{latest_answer, most_left}
use Rattle.lab_model.specs.Limits.{longest_film}
use Rattle.lab_model.specs.declared.trace.Period.{Period}
use Rattle.lab_model.specs.declared.setup.Setup.{Setup}
use Rattle.lab_model.specs.Rules.{RuleKind}
use Rattle.lab_model.specs.Film.{Film, segments_of, size_of}
use Rattle.network_clock.specs.Network.{done_on, first_on, period_at}
use Rattle.player_core.specs.declared.course.Course.{Course}
use Rattle.player_core.specs.declared.running.Running.{Running}
use Rattle.player_core.specs.declared.body.Body.{Body}
use Rattle.player_core.specs.declared.mode.Mode.{Mode as BodyMode}
use Rattle.player_core.specs.declared.mode.Mode.TheVariants as mode
use Rattle.abandonment.specs.Progress.{longest_elapsed}
use Rattle.player_core.specs.Limits.{latest_ms, whole_credit}
use Rattle.player_core.specs.Course.{case_on}
use Rattle.player_core.specs.State.{Case, Download, Mode, Player, starting, playing, seeking, ended}
use Rattle.player_core.specs.Available.{available_at}
use Rattle.player_core.specs.Parts.{gone_on, instant, is_ended, is_playing}
use Rattle.player_core.specs.Session.{ends_at, player_after}
use Rattle.player_core.specs.Sound.{IsCase}
use Rattle.player_core.specs.Ready.{CanJudge, CanLoad}

-- the download that a running one stands for
abbrev pub download_of : Running → Download
download_of r = record { segment = r.segment; rung = r.rung; asked = r.asked; job = r.job; first = r.first }

-- the mode that a body's mode stands for
abbrev pub mode_of : BodyMode → Mode
mode_of mode.Starting = starting
mode_of mode.Playing = playing
mode_of mode.Seeking = seeking
mode_of mode.Ended = ended

-- the player that a body stands for, with its history
abbrev pub seen : Body → List ℕ → Player
seen b history = record {
  t = b.t;
  x = b.x;
  y = b.y;
  k = b.k;
  download = option_map download_of b.download;
  forced = b.forced;
  last = b.last;
  mode = mode_of b.mode;
  loaded = b.loaded.items;
  stalling = b.stalling;
  history = history;
  startup_ms = b.startup_ms;
  stall_ms = b.stall_ms;
  seek_ms = b.seek_ms;
  stalls = b.stalls;
  wasted = b.wasted;
  events = b.events.items;
  played = b.played.items;
}

-- the body before and after stand for players of which the second is this part of the first, whatever the history
abbrev pub Follows : (Player → Player) → Body → Body → Type 0
Follows part old new = (history : List ℕ) → seen new (part (seen old history)).history ≡ part (seen old history)

-- the body before and after stand for players of which the second is the first after those parts, with this history
abbrev pub GoesOn : Case → List ℕ → Body → Body → Type 0
GoesOn c history old new = seen new (gone_on c (seen old history)).history ≡ gone_on c (seen old history)

-- a running download of some film and network knows when its bits begin and when it is done
abbrev pub IsTimed : Film → (ℕ → Period) → Option Running → Type 0
IsTimed f network download = IfSome download (λ r.
    (r.begins ≡ first_on network r.asked (size_of f r.segment r.rung)) × (r.done ≡ done_on network r.asked (size_of f r.segment r.rung)))

-- a download that was asked for as another was
abbrev pub SameRequest : Running → Running → Type 0
SameRequest old new = (new.begins ≡ old.begins) × (new.done ≡ old.done) × (new.asked ≡ old.asked) × (new.segment ≡ old.segment) × (new.rung ≡ old.rung)

-- neither the instant nor the download has changed
abbrev pub SameDownload : Body → Body → Type 0
SameDownload old new = (new.t ≡ old.t) × (new.download ≡ old.download)

-- the running download of a body, if there is one, knows when its bits begin and when it is done
abbrev pub KnowsEnd : Course → Body → Type 0
KnowsEnd o b = IsTimed o.scene.now.film (period_at o.scene.now.periods) b.download

-- a download of which nothing is left can be loaded
abbrev pub CanArrive : Film → Body → Type 0
CanArrive f b = IfSome b.download (λ r. r.job.left ≡ 0 → CanLoad f (seen b []) (download_of r))

-- the body went through this part, and a running download still knows its instants, whatever the network
pub record Step (part : Player → Player) (old new : Body) : Type 0 where
  pub follows : Follows part old new
  pub timed : (f : Film) (network : ℕ → Period) → IsTimed f network old.download → IsTimed f network new.download

-- on a course, with a rule of any kind, the body went through this part of a millisecond
abbrev pub FollowsOn : Course → (Case → Player → Player) → Body → Body → Type 0
FollowsOn o part old new = (kind : RuleKind) → Follows (part (case_on o kind)) old new

-- the same of a part after which a running download still knows its instants
abbrev pub StepsOn : Course → (Case → Player → Player) → Body → Body → Type 0
StepsOn o part old new = (kind : RuleKind) → Step (part (case_on o kind)) old new

-- the second rule is the first after a part of an instant: of the same kind, and told what joined the history
pub record Hears {R : Type 0} (kind : R → RuleKind) (stands_for : R → List ℕ → Type 0) (o : Course) (part : Case → Player → Player) (b : Body) (old new : R) : Type 0 where
  pub same : kind new ≡ kind old
  pub told : (history : List ℕ) → stands_for old history → stands_for new (part (case_on o (kind old)) (seen b history)).history

-- the body stands for this player
abbrev pub StandsFor : Player → Body → Type 0
StandsFor p b = seen b p.history ≡ p

-- the body stands for the player of a session before its instant, and no instant before it was the end
pub record StandsAt (c : Case) (b : Body) : Type 0 where
  pub stands : StandsFor (player_after c b.t) b
  pub timed : IsTimed c.film c.network b.download
  pub going : (k : ℕ) → k < b.t → ends_at c k ≡ false

-- the same after the parts of the instant
pub record LeftAt (c : Case) (b : Body) : Type 0 where
  pub stands : StandsFor (instant c (player_after c b.t)) b
  pub timed : IsTimed c.film c.network b.download
  pub going : (k : ℕ) → k < b.t → ends_at c k ≡ false

-- with some rule it does, and the session goes on
pub record CanWait (o : Course) (b : Body) : Type 0 where
  pub rule : RuleKind
  pub case : IsCase (case_on o rule)
  pub left : LeftAt (case_on o rule) b
  pub goes : is_ended (mode_of b.mode) ≡ false

-- from one instant to a later one at which something may happen: the rule is told nothing on the way
pub record Waits (c : Case) (old new : Body) : Type 0 where
  pub later : old.t < new.t
  pub stands : StandsAt c new
  pub told : (player_after c new.t).history ≡ (instant c (player_after c old.t)).history

-- with a rule of any kind with which the case keeps the limits and the body stands for the player
abbrev pub WaitsOn : Course → Body → Body → Type 0
WaitsOn o old new = (kind : RuleKind) → IsCase (case_on o kind) → LeftAt (case_on o kind) old → Waits (case_on o kind) old new

-- a running download can take its network milliseconds
pub record CanTake (r : Running) : Type 0 where
  pub credit : r.job.credit ≤ whole_credit
  pub left : r.job.left ≤ most_left

-- a body may not ask for its next segment: it does not fit the buffer, or it is not there
abbrev pub MustWait : Film → Setup → ℕ → Body → Type 0
MustWait f set ahead b = (set.buffer_ms < b.y - b.x + f.seg_ms) ⊎ (b.t < available_at f ahead b.k)

-- nor after so many milliseconds less one
abbrev pub MustWaitFor : Film → Setup → ℕ → Body → ℕ → Type 0
MustWaitFor f set ahead b ms = (set.buffer_ms + ms ≤ b.y - b.x + f.seg_ms) ⊎ (b.t + ms ≤ available_at f ahead b.k)

-- the milliseconds can be counted in which a body asks for nothing and nothing begins
pub record CanIdle (f : Film) (set : Setup) (ahead : ℕ) (b : Body) : Type 0 where
  pub position : b.x ≤ b.y
  pub end : b.y ≤ longest_film
  pub waits : b.download ≡ None → b.k < segments_of f → MustWait f set ahead b

-- the milliseconds can be counted in which nothing happens to a body
pub record CanRest (f : Film) (set : Setup) (ahead : ℕ) (b : Body) : Type 0 where
  pub idles : CanIdle f set ahead b
  pub instant : b.t < latest_ms
  pub judge : IfSome b.download (λ r. CanJudge f b.t (download_of r))
  pub runs : IfSome b.download (λ r. (b.t < r.done) × (r.done ≤ r.asked + longest_elapsed))

-- so many milliseconds of the mode can pass at once
pub record CanMove (b : Body) (ms : ℕ) : Type 0 where
  pub end : b.y ≤ longest_film
  pub instant : b.t + ms ≤ latest_answer
  pub times : b.startup_ms + b.stall_ms + b.seek_ms ≤ b.t
  pub moves : is_playing (mode_of b.mode) ≡ true → b.x < b.y → b.x + ms ≤ b.y

-- and those of a download
pub record CanGlide (b : Body) (ms : ℕ) : Type 0 where
  pub moves : CanMove b ms
  pub jobs : IfSome b.download CanTake
