-- Not part of the model: what the proofs keep.
-- Quiet stretches: milliseconds in which nothing begins and nothing happens, and what so many of them make of the player at once.
use Rattle.std.specs.Prelude.{◌≡◌, ℕ, ◌+◌, ◌-◌, ◌%◌, ◌≤◌, ◌<◌, ◌&&◌, ◌⊎◌, Bool, true, false, not, nat_lt, Some, None, IfSome, option_map, if◌then◌else◌}
use Rattle.lab_model.specs.Film.{Film, segments_of, size_of}
use Rattle.network_clock.specs.Network.{done_on, first_on, job_on, start_job}
use Rattle.abandonment.specs.Test.{abandonment, is_due_ms}
use Rattle.player_core.specs.Available.{available_at}
use Rattle.player_core.specs.State.{Case, Download, Mode, Player, starting, playing, seeking, ended}
use Rattle.player_core.specs.Parts.{is_playing, progress_of, seek_at}
use Rattle.player_core.specs.Sound.{asked_size}

-- whether the player waits for its first segment
abbrev pub is_starting : Mode → Bool
is_starting starting = true
is_starting playing = false
is_starting seeking = false
is_starting ended = false

-- whether the player waits for the segment that was sought
abbrev pub is_seeking : Mode → Bool
is_seeking seeking = true
is_seeking playing = false
is_seeking starting = false
is_seeking ended = false

-- a download takes so many network milliseconds at once
abbrev pub taken_ms : Case → ℕ → ℕ → Download → Download
taken_ms c t ms d = record d {
  job = job_on c.network t ms d.job;
  first = if nat_lt (first_on c.network d.asked (asked_size c d)) (t + ms) then Some (first_on c.network d.asked (asked_size c d)) else None;
}

-- a download, if there is one, takes so many network milliseconds at once
abbrev pub takes_all : Case → ℕ → Player → Player
takes_all c ms p = record p { download = option_map (taken_ms c p.t ms) p.download }

-- so many milliseconds of a mode pass at once: they move the position, or they add to one of the three times
abbrev pub moves_in : ℕ → Player → Mode → Player
moves_in ms p mode = record p {
  x = if is_playing mode && nat_lt p.x p.y then p.x + ms else p.x;
  startup_ms = if is_starting mode then p.startup_ms + ms else p.startup_ms;
  stall_ms = if is_playing mode && not (nat_lt p.x p.y) then p.stall_ms + ms else p.stall_ms;
  seek_ms = if is_seeking mode then p.seek_ms + ms else p.seek_ms;
}

-- so many milliseconds of a mode pass at once, and those of a download
abbrev pub glides_in : Case → ℕ → Player → Mode → Player
glides_in c ms p mode = let q = moves_in ms (takes_all c ms p) mode in record q { t = q.t + ms }

-- so many milliseconds pass at once, in which nothing begins
abbrev pub glides : Case → ℕ → Player → Player
glides c ms p = glides_in c ms p p.mode

-- for so many milliseconds after its instant a player has no cause to ask for a segment, and after the first none begins and no stall does
pub record IsUntouched (c : Case) (q : Player) (ms : ℕ) : Type 0 where
  pub some : 1 ≤ ms
  pub asks : q.download ≡ None → q.k < segments_of c.film → (c.setup.buffer_ms + ms ≤ q.y - q.x + c.film.seg_ms) ⊎ (q.t + ms ≤ available_at c.film c.ahead q.k)
  pub plays : is_playing q.mode ≡ true → q.x < q.y → q.x % c.film.seg_ms + ms ≤ c.film.seg_ms

-- after the instant of a player nothing happens for so many milliseconds
pub record IsQuiet (c : Case) (q : Player) (ms : ℕ) : Type 0 where
  pub untouched : IsUntouched c q ms
  pub arrives : IfSome q.download (λ d. q.t + ms ≤ done_on c.network d.asked (asked_size c d))
  pub judges : c.setup.abandon ≡ true → IfSome q.download (λ d. (d.rung ≡ 0) ⊎ ((m : ℕ) → q.t < m → m < q.t + ms → is_due_ms (m - d.asked) ≡ false))
  pub seeks : (m : ℕ) → q.t < m → m < q.t + ms → seek_at c.seeks m ≡ None

-- where so many bits of a segment on a rung have come, no rung from another on below its own is smaller than what is still to come
abbrev pub IsHeldFrom : Film → ℕ → ℕ → ℕ → ℕ → Type 0
IsHeldFrom f segment rung got from = (q : ℕ) → from ≤ q → q < rung → size_of f segment rung - got ≤ size_of f segment q

-- what a download is at an instant, from its request on
abbrev pub running_at : Case → ℕ → Download → Download
running_at c t d = record d {
  job = job_on c.network d.asked (t - d.asked) (start_job (asked_size c d));
  first = if nat_lt (first_on c.network d.asked (asked_size c d)) t then Some (first_on c.network d.asked (asked_size c d)) else None;
}

-- a download is not given up at an instant
abbrev pub IsKeptAt : Case → ℕ → Download → Type 0
IsKeptAt c t d = abandonment c.film d.segment d.rung (progress_of c.film t (running_at c t d)) ≡ None

-- the same of longer stretches: within them a download may be looked at for abandonment, but is kept
pub record IsUneventful (c : Case) (q : Player) (ms : ℕ) : Type 0 where
  pub untouched : IsUntouched c q ms
  pub arrives : IfSome q.download (λ d. q.t + ms ≤ done_on c.network d.asked (asked_size c d))
  pub keeps : c.setup.abandon ≡ true → IfSome q.download (λ d. (m : ℕ) → q.t < m → m < q.t + ms → IsKeptAt c m d)
  pub seeks : (m : ℕ) → q.t < m → m < q.t + ms → seek_at c.seeks m ≡ None
