-- Not part of the model: what the proofs keep.
-- A player whose rule is a rung list, beside the labels along that list.
use Rattle.std.specs.Prelude.{◌≡◌, ℕ, zero, suc, ◌+◌, ◌≤◌, ◌<◌, List, ◌++◌, length, slice_index, take, None, IfSome, pos}
use Rattle.lab_model.specs.declared.label.Label.{Label}
use Rattle.lab_model.specs.declared.context.Played.{Played}
use Rattle.lab_model.specs.Film.{segments_of}
use Rattle.lab_model.specs.Sums.{played_from}
use Rattle.player_core.specs.State.{Case, Mode, Player, starting, playing}
use Rattle.player_core.specs.Sound.{begun_before}
use Rattle.player_core.specs.Value.{list_case}
use Rattle.player_core.specs.Scene.{Task}
use Rattle.labels.specs.Labels.{label_at, request_at}

-- the case that plays a rung list
abbrev pub case_along : Task → List ℕ → Case
case_along g rungs = list_case g.film g.periods g.setup g.ahead rungs

-- the first segments, so many, with their rungs
abbrev pub rungs_played : List ℕ → ℕ → List Played
rungs_played rungs k = played_from 0 (take k rungs)

-- the label of the segment before one: before the first all is 0
unfoldable pub label_before : Task → List ℕ → ℕ → Label
label_before g rungs zero = record { t = 0; p = 0; v = pos 0 }
label_before g rungs (suc i) = label_at g rungs i

-- the mode of a player whose next segment this is
unfoldable pub mode_before : ℕ → Mode
mode_before zero = starting
mode_before (suc i) = playing

-- the player before its end beside the label `l` of the segment before its next one: it has waited the label's delay, and more only where it
-- has since played all that is loaded; a request comes `late` milliseconds after now at the earliest, and exactly at the label's instant
pub record Along (g : Task) (rungs : List ℕ) (late : ℕ) (l : Label) (p : Player) : Type 0 where
  pub label : l ≡ label_before g rungs p.k
  pub spent : p.x + p.startup_ms + p.stall_ms ≡ p.t
  pub free : p.forced ≡ None
  pub mode : p.mode ≡ mode_before p.k
  pub calm : p.k ≡ 0 → p.stall_ms ≡ 0
  pub startup : 0 < p.k → p.startup_ms ≡ (label_at g rungs 0).p
  pub came : l.t ≤ p.t
  pub least : l.p ≤ p.startup_ms + p.stall_ms
  pub tight : p.x < p.y → p.startup_ms + p.stall_ms ≡ l.p
  pub whole : p.k ≡ segments_of g.film → p.startup_ms + p.stall_ms ≡ l.p
  pub waits : p.download ≡ None → p.k < segments_of g.film → p.t + late ≤ request_at g p.k l
  pub asked : IfSome p.download (λ d. (d.asked ≡ request_at g p.k l) × (d.rung ≡ slice_index rungs p.k))
  pub listed : p.played ++ p.loaded ≡ rungs_played rungs p.k
  pub begun : length p.played ≡ begun_before g.film p.x
