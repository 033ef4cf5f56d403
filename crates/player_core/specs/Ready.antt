-- Not part of the model: what the proofs keep.
-- What the parts of a player millisecond need of the player.
use Rattle.std.specs.Prelude.{◌≡◌, ℕ, ◌+◌, ◌-◌, ◌≤◌, ◌<◌, None, IfSome}
use Rattle.lab_model.specs.Limits.{longest_film}
use Rattle.lab_model.specs.Film.{Film, rungs_of, segments_of, most_segments}
use Rattle.lab_model.specs.Rules.{KindFits}
use Rattle.abandonment.specs.Progress.{IsProgress, Received}
use Rattle.abandonment.specs.Test.{abandonment}
use Rattle.player_core.specs.Limits.{latest_ms, most_stalls}
use Rattle.player_core.specs.State.{Case, Download, Player}
use Rattle.player_core.specs.Parts.{bit_ms_of, got_of, progress_of}

-- a running download can be judged for abandonment at an instant
pub record CanJudge (f : Film) (t : ℕ) (d : Download) : Type 0 where
  pub segment : d.segment < segments_of f
  pub rung : d.rung < rungs_of f
  pub asked : d.asked ≤ t
  pub progress : IsProgress (progress_of f t d)

-- so many milliseconds after an instant no test gives a download up, whatever bits come
abbrev pub KeepsFor : Film → ℕ → Download → ℕ → Type 0
KeepsFor f t d ms = (p : Received) → got_of f d ≤ p.got → p.bit_ms ≤ bit_ms_of t d + ms → p.elapsed_ms ≤ t - d.asked + ms → 1 ≤ ms → abandonment f d.segment d.rung p ≡ None

-- a download that has arrived can be loaded
pub record CanLoad (f : Film) (p : Player) (d : Download) : Type 0 where
  pub judge : CanJudge f p.t d
  pub waited : 1 ≤ bit_ms_of p.t d
  pub end : p.y ≤ longest_film
  pub next : p.k < most_segments

-- a rule can be asked for a rung of the next segment
pub record CanChoose (c : Case) (p : Player) : Type 0 where
  pub kind_fits : KindFits c.rule c.film
  pub position : p.x ≤ p.y
  pub next : p.k < segments_of c.film
  pub level : p.y - p.x ≤ c.setup.buffer_ms - c.film.seg_ms
  pub last : IfSome p.last (λ q. q < rungs_of c.film)
  pub forced : IfSome p.forced (λ q. q < rungs_of c.film)

-- a request can be made, where there is cause for one
pub record CanRequest (c : Case) (p : Player) : Type 0 where
  pub kind_fits : KindFits c.rule c.film
  pub position : p.x ≤ p.y
  pub end : p.y ≤ longest_film
  pub instant : p.t ≤ latest_ms
  pub last : IfSome p.last (λ q. q < rungs_of c.film)
  pub forced : IfSome p.forced (λ q. q < rungs_of c.film)

-- a millisecond can pass
pub record CanPass (p : Player) : Type 0 where
  pub position : p.x ≤ p.y
  pub end : p.y ≤ longest_film
  pub instant : p.t < latest_ms
  pub times : p.startup_ms + p.stall_ms + p.seek_ms ≤ p.t
  pub stalls : p.stalls ≤ most_stalls
