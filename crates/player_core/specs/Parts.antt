-- The player millisecond, part by part.
use Rattle.std.specs.Prelude.{ℕ, ◌+◌, ◌-◌, ◌*◌, ◌%◌, ◌==◌, ◌&&◌, List, [], ◌∷◌, ◌++◌, Bool, true, false, not, nat_le, nat_lt, Option, Some, None, option_map, is_some, find, unwrap_or, if◌then◌else◌}
use Rattle.std.specs.Int.{div_ceil}
use Rattle.std.specs.List.{sum_by}
use Rattle.std.specs.Option.{option_map_or}
use Rattle.lab_model.specs.declared.trace.Period.{Period}
use Rattle.lab_model.specs.declared.context.Seek.{Seek}
use Rattle.lab_model.specs.declared.context.Played.{Played}
use Rattle.lab_model.specs.declared.context.Context.{Context}
use Rattle.lab_model.specs.Film.{Film, segments_of, size_of}
use Rattle.lab_model.specs.Rates.{rate_of}
use Rattle.lab_model.specs.Choice.{choice}
use Rattle.network_clock.specs.Network.{pass, spends, start_job}
use Rattle.abandonment.specs.Progress.{Received}
use Rattle.abandonment.specs.Test.{abandonment}
use Rattle.player_core.specs.declared.session.Event.{Event}
use Rattle.player_core.specs.declared.session.Event.TheVariants as event
use Rattle.player_core.specs.Available.{available_at}
use Rattle.player_core.specs.State.{Case, Download, Mode, Player, starting, playing, seeking, ended}

-- the bits that a download has received
abbrev pub got_of : Film → Download → ℕ
got_of f d = size_of f d.segment d.rung - div_ceil d.job.left 1000

-- the milliseconds from the first one spent on bits
abbrev pub bit_ms_of : ℕ → Download → ℕ
bit_ms_of t d = option_map_or (λ first. t - first) d.first 0

-- the sample of a download that ends at an instant
abbrev pub sample_of : Film → ℕ → Download → ℕ
sample_of f t d = rate_of (got_of f d) (bit_ms_of t d)

-- how far a download has come at an instant
abbrev pub progress_of : Film → ℕ → Download → Received
progress_of f t d = record { elapsed_ms = t - d.asked; bit_ms = bit_ms_of t d; got = got_of f d }

-- an event joins the log
abbrev pub logs : Player → Event → List Event
logs p e = p.events ++ e ∷ []

-- a segment that arrives starts play, and lets it go on after a seek
abbrev pub mode_after_arrival : Mode → Mode
mode_after_arrival starting = playing
mode_after_arrival seeking = playing
mode_after_arrival playing = playing
mode_after_arrival ended = ended

-- whether the player plays
abbrev pub is_playing : Mode → Bool
is_playing playing = true
is_playing starting = false
is_playing seeking = false
is_playing ended = false

-- whether the session is over
abbrev pub is_ended : Mode → Bool
is_ended ended = true
is_ended playing = false
is_ended starting = false
is_ended seeking = false

-- a download that has arrived: its segment is loaded, its sample joins the history
abbrev pub loads : Case → Player → Download → Player
loads c p d = record p {
  y = p.y + c.film.seg_ms;
  k = p.k + 1;
  download = None;
  last = Some d.rung;
  mode = mode_after_arrival p.mode;
  loaded = p.loaded ++ (record { segment = d.segment; rung = d.rung }) ∷ [];
  history = p.history ++ sample_of c.film p.t d ∷ [];
  events = logs p (event.Arrive p.t d.segment d.rung (unwrap_or d.first 0) (sample_of c.film p.t d));
}

-- what an instant does to a download, if there is one: it is loaded where nothing of it is left
abbrev pub arrives : Case → Player → Option Download → Player
arrives c p None = p
arrives c p (Some d) = if d.job.left == 0 then loads c p d else p

-- 1. Arrival: a download of which nothing is left
abbrev pub arrival : Case → Player → Player
arrival c p = arrives c p p.download

-- 2. End: all is played
abbrev pub finish : Case → Player → Player
finish c p = if is_playing p.mode && (p.x == segments_of c.film * c.film.seg_ms)
    then record p { mode = ended; events = logs p (event.End p.t) }
    else p

-- a download that is given up for a rung
abbrev pub gives_up : Case → Player → Download → Option ℕ → Player
gives_up c p d None = p
gives_up c p d (Some q) = record p {
  download = None;
  forced = Some q;
  history = p.history ++ sample_of c.film p.t d ∷ [];
  wasted = p.wasted + got_of c.film d;
  events = logs p (event.Abandon p.t d.segment d.rung q (got_of c.film d));
}

-- a running download is given up where the abandonment test says so
abbrev pub gives_up_any : Case → Player → Option Download → Player
gives_up_any c p None = p
gives_up_any c p (Some d) = gives_up c p d (abandonment c.film d.segment d.rung (progress_of c.film p.t d))

-- 3. Abandonment: where the setup allows it, by the abandonment test
abbrev pub abandon : Case → Player → Player
abandon c p = if c.setup.abandon then gives_up_any c p p.download else p

-- what a seek wastes: the bits of a running download, and the sizes of the loaded segments that haven't begun
abbrev pub wasted_by : Film → Player → ℕ
wasted_by f p = option_map_or (λ d. got_of f d) p.download 0 + sum_by (λ q. size_of f q.segment q.rung) p.loaded

-- the seek at an instant, if the script has one
abbrev pub seek_at : List Seek → ℕ → Option Seek
seek_at seeks t = find (λ s. s.at_ms == t) seeks

-- a seek: nothing is loaded, and play goes on at its segment
abbrev pub seeks_to : Case → Player → Option Seek → Player
seeks_to c p None = p
seeks_to c p (Some s) = record p {
  x = s.to * c.film.seg_ms;
  y = s.to * c.film.seg_ms;
  k = s.to;
  download = None;
  forced = None;
  loaded = [];
  mode = seeking;
  wasted = p.wasted + wasted_by c.film p;
  events = logs p (event.Seek p.t s.to (wasted_by c.film p));
}

-- 4. Seek
abbrev pub seek : Case → Player → Player
seek c p = seeks_to c p (seek_at c.seeks p.t)

-- what a rule sees
abbrev pub context_of : Player → Context
context_of p = record { level = p.y - p.x; next = p.k; last = p.last }

-- the rung that is asked for: the forced one, or else the rule's choice
abbrev pub rung_for : Case → Player → ℕ
rung_for c p = unwrap_or p.forced (choice c.rule c.film c.setup (context_of p) p.history)

-- a download of a rung of the next segment starts
abbrev pub asks : Case → Player → ℕ → Player
asks c p rung = record p {
  download = Some (record { segment = p.k; rung = rung; asked = p.t; job = start_job (size_of c.film p.k rung); first = None });
  forced = None;
  events = logs p (event.Request p.t p.k rung);
}

-- there is no download, a segment is left to ask for, it fits the buffer, and it is there
abbrev pub can_ask : Case → Player → Bool
can_ask c p = not (is_some p.download) && nat_lt p.k (segments_of c.film) && nat_le (p.y - p.x + c.film.seg_ms) c.setup.buffer_ms && nat_le (available_at c.film c.ahead p.k) p.t

-- 5. Request
abbrev pub request : Case → Player → Player
request c p = if can_ask c p then asks c p (rung_for c p) else p

-- the player after the arrival and the end
abbrev pub stopped : Case → Player → Player
stopped c p = finish c (arrival c p)

-- the player after the other parts
abbrev pub gone_on : Case → Player → Player
gone_on c p = request c (seek c (abandon c p))

-- the parts after the end
abbrev pub goes_on : Case → Player → Player
goes_on c p = if is_ended p.mode then p else request c (seek c (abandon c p))

-- the five parts, in this order
abbrev pub instant : Case → Player → Player
instant c p = goes_on c (finish c (arrival c p))

-- a download takes its network millisecond, which lies in this period
abbrev pub takes_in : Period → ℕ → Download → Download
takes_in period t d = record d {
  job = pass period d.job;
  first = if is_some d.first then d.first else (if spends period d.job then Some t else None);
}

-- a download takes the network millisecond of an instant
abbrev pub takes : Case → ℕ → Download → Download
takes c t d = takes_in (c.network t) t d

-- a download, if there is one, takes its network millisecond, which lies in this period
abbrev pub takes_any_in : Period → Player → Player
takes_any_in period p = record p { download = option_map (takes_in period p.t) p.download }

-- a download, if there is one, takes its network millisecond
abbrev pub takes_any : Case → Player → Player
takes_any c p = takes_any_in (c.network p.t) p

-- the segment at whose beginning the position stands begins to play
abbrev pub begins : Player → List Played → Player
begins p [] = p
begins p (q ∷ qs) = record p { loaded = qs; played = p.played ++ q ∷ []; events = logs p (event.Play p.t q.segment q.rung) }

-- a millisecond of play
abbrev pub plays : Case → Player → Player
plays c p = let q = if p.x % c.film.seg_ms == 0 then begins p p.loaded else p in record q { x = q.x + 1; stalling = false }

-- a millisecond of stall
abbrev pub stalls_on : Player → Player
stalls_on p = if p.stalling
    then record p { stall_ms = p.stall_ms + 1 }
    else record p { stall_ms = p.stall_ms + 1; stalls = p.stalls + 1; stalling = true; events = logs p (event.Stall p.t) }

-- a millisecond of the mode
abbrev pub passes_in : Case → Player → Mode → Player
passes_in c p starting = record p { startup_ms = p.startup_ms + 1; stalling = false }
passes_in c p playing = if nat_lt p.x p.y then plays c p else stalls_on p
passes_in c p seeking = record p { seek_ms = p.seek_ms + 1; stalling = false }
passes_in c p ended = p

-- the millisecond passes, in this period of the network
abbrev pub pass_in : Case → Period → Player → Player
pass_in c period p = let r = passes_in c (takes_any_in period p) p.mode in record r { t = r.t + 1 }

-- the millisecond passes
abbrev pub pass_ms : Case → Player → Player
pass_ms c p = pass_in c (c.network p.t) p

-- the player millisecond: the parts, and then, unless the session has ended, the millisecond passes
abbrev pub player_ms : Case → Player → Player
player_ms c p = let q = instant c p in if is_ended q.mode then q else pass_ms c q
