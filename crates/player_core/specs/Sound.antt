-- Not part of the model: what the proofs keep.
-- What stays true of the player of a session within the limits.
use Rattle.std.specs.Prelude.{◌≡◌, ℕ, ◌+◌, ◌-◌, ◌*◌, ◌/◌, ◌≤◌, ◌<◌, ◌==◌, ◌&&◌, List, length, Bool, true, false, not, is_some, nat_le, nat_lt, Option, Some, None, IfSome, if◌then◌else◌}
use Rattle.network_clock.specs.Limits.{most_bits}
use Rattle.lab_model.specs.Limits.{longest_film, most_seeks}
use Rattle.std.specs.List.{All, count_by}
use Rattle.lab_model.specs.declared.context.Seek.{Seek}
use Rattle.lab_model.specs.declared.context.Played.{Played}
use Rattle.lab_model.specs.Film.{Film, IsFilm, rungs_of, segments_of, size_of}
use Rattle.lab_model.specs.Fit.{SetupFits}
use Rattle.lab_model.specs.Rules.{KindFits}
use Rattle.lab_model.specs.Seeks.{SeeksFit}
use Rattle.network_clock.specs.Network.{done_on, first_on, job_on, longest_ms, start_job}
use Rattle.network_clock.specs.Flow.{IsFlowing}
use Rattle.player_core.specs.Limits.{latest_ms}
use Rattle.player_core.specs.State.{Case, Download, Mode, Player, first_player, starting, playing, seeking, ended}

-- the size of the segment that a download asked for
abbrev pub asked_size : Case → Download → ℕ
asked_size c d = size_of c.film d.segment d.rung

-- a running download is at an instant what the network made of it, and not past its end
pub record DownloadRuns (c : Case) (t : ℕ) (d : Download) : Type 0 where
  pub segment : d.segment < segments_of c.film
  pub rung : d.rung < rungs_of c.film
  pub asked : d.asked ≤ t
  pub job : d.job ≡ job_on c.network d.asked (t - d.asked) (start_job (asked_size c d))
  pub first : d.first ≡ (if nat_lt (first_on c.network d.asked (asked_size c d)) t then Some (first_on c.network d.asked (asked_size c d)) else None)
  pub done : t ≤ done_on c.network d.asked (asked_size c d)

-- the mode in which play waits for a segment with nothing loaded
abbrev pub is_waiting : Mode → Bool
is_waiting starting = true
is_waiting seeking = true
is_waiting playing = false
is_waiting ended = false

-- a segment of the film on a rung of its ladder
pub record IsOf (f : Film) (q : Played) : Type 0 where
  pub of_segments : q.segment < segments_of f
  pub of_rungs : q.rung < rungs_of f

-- the seeks of a script from an instant on
abbrev pub seeks_left : List Seek → ℕ → ℕ
seeks_left seeks from = count_by (λ s. nat_le from s.at_ms) seeks

-- how many requests, arrivals and abandonments a download on a rung may still bring to its segment, itself among them
abbrev pub turns_here : Option Download → Option ℕ → ℕ
turns_here (Some d) forced = 2 * d.rung + 1
turns_here None (Some q) = 2 * q + 2
turns_here None None = 32

-- how many such turns are left for a player whose segments before `segments` are to come
abbrev pub turns_to_end : ℕ → Player → ℕ
turns_to_end segments p = if nat_lt p.k segments then 32 * (segments - p.k - 1) + turns_here p.download p.forced else 0

-- how many turns are left to a player, the seeks from an instant on among them
abbrev pub turns_left : Case → ℕ → Player → ℕ
turns_left c from p = seeks_left c.seeks from * (34 * segments_of c.film + 2) + turns_to_end (segments_of c.film) p

-- the case keeps the limits: bits come on its network, and so soon that no download and no session runs too long
pub record IsCase (c : Case) : Type 0 where
  pub film : IsFilm c.film
  pub longest : ℕ
  pub network : IsFlowing longest c.network
  pub long : 2 * longest_film ≤ longest
  pub short : longest + 10000 < longest_ms
  pub lasts : (longest + 10001) * (turns_left c 0 first_player + 1) < latest_ms
  pub setup : SetupFits c.setup c.film
  pub seeks : SeeksFit c.seeks (segments_of c.film)
  pub ahead : c.ahead ≤ longest_film
  pub rule : KindFits c.rule c.film

-- how many turns a session has at most
abbrev pub all_turns : Case → ℕ
all_turns c = most_seeks * (34 * segments_of c.film + 2) + 32 * segments_of c.film

-- the segments of the film that begin before a position
abbrev pub begun_before : Film → ℕ → ℕ
begun_before f x = (x + f.seg_ms - 1) / f.seg_ms

-- 0 where a stall goes on, and 1 where the next one would be another
abbrev pub spare_stall : Player → ℕ
spare_stall p = if p.stalling && (p.x == p.y) && not (is_waiting p.mode) then 0 else 1

-- the player is sound, where the seeks from an instant on are still to come
pub record Sound (c : Case) (from : ℕ) (p : Player) : Type 0 where
  pub position : p.x ≤ p.y
  pub loaded_end : p.y ≡ p.k * c.film.seg_ms
  pub next : p.k ≤ segments_of c.film
  pub idle : is_waiting p.mode ≡ true → p.x ≡ p.y
  pub more : is_waiting p.mode ≡ true → p.k < segments_of c.film
  pub running : IfSome p.download (DownloadRuns c p.t)
  pub of_next : IfSome p.download (λ d. d.segment ≡ p.k)
  pub free : is_some p.download ≡ true → p.forced ≡ None
  pub forced : IfSome p.forced (λ q. q < rungs_of c.film)
  pub last : IfSome p.last (λ q. q < rungs_of c.film)
  pub loaded : All (IsOf c.film) p.loaded
  pub room : length p.loaded ≤ p.k
  pub played : All (IsOf c.film) p.played
  pub times : p.startup_ms + p.stall_ms + p.seek_ms ≤ p.t
  pub begun : length p.played + seeks_left c.seeks from * segments_of c.film ≤ most_seeks * segments_of c.film + begun_before c.film p.x
  pub wasted : p.wasted + most_bits * turns_left c from p ≤ most_bits * all_turns c
  pub stalls : p.stalls + turns_left c from p + spare_stall p ≤ all_turns c + 1
