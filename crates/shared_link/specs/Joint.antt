-- Several players on one link: the joint millisecond, and the joint session.
use Rattle.std.specs.Prelude.{◌≡◌, ℕ, zero, suc, ◌+◌, ◌&&◌, Bool, true, false, List, [], length, get_or, if◌then◌else◌}
use Rattle.lab_model.specs.Limits.{all_ahead}
use Rattle.std.specs.List.{All}
use Rattle.std.specs.Option.{option_map_or}
use Rattle.lab_model.specs.declared.trace.Period.{Period}
use Rattle.lab_model.specs.declared.setup.Setup.{Setup}
use Rattle.lab_model.specs.Cycle.{IsTrace}
use Rattle.lab_model.specs.Film.{Film, IsFilm, IsWithin}
use Rattle.lab_model.specs.Fit.{SetupFits}
use Rattle.lab_model.specs.Rules.{KindFits, RuleKind, fixed}
use Rattle.network_clock.specs.Network.{parted, period_at, spends}
use Rattle.network_clock.specs.Search.{least_below}
use Rattle.player_core.specs.Limits.{latest_ms}
use Rattle.player_core.specs.Parts.{instant, is_ended, pass_in}
use Rattle.player_core.specs.Session.{Shown, shown_by}
use Rattle.player_core.specs.State.{Case, Player, case_of, first_player}

-- all that a joint session depends on: film, network, setup, and the rule of each player in order
pub record JointCase : Type 0 where
  pub film : Film
  pub periods : List Period
  pub setup : Setup
  pub rules : List RuleKind

-- the joint case of these parts
abbrev pub joint_of : Film → List Period → Setup → List RuleKind → JointCase
joint_of f periods set rules = record { film = f; periods = periods; setup = set; rules = rules }

-- the number of players
abbrev pub players_of : JointCase → ℕ
players_of j = length j.rules

-- the case of the player at a place if it had the link for itself: a film on demand, without seeks
abbrev pub case_at : JointCase → ℕ → Case
case_at j i = case_of j.film j.periods j.setup [] all_ahead (get_or j.rules i (fixed 0))

-- ---- who takes

-- whether a player takes bits in a millisecond of this period: it has a download, and that has no delay left or the period no latency
abbrev pub takes_bits : Period → Player → Bool
takes_bits period p = option_map_or (λ d. spends period d.job) p.download false

-- how many of the first players, so many, take bits
unfoldable pub takers_in : Period → (ℕ → Player) → ℕ → ℕ
takers_in period ps zero = 0
takers_in period ps (suc i) = takers_in period ps i + (if takes_bits period (ps i) then 1 else 0)

-- ---- the joint millisecond

-- what an instant does to each player: arrival, end and request, since there are no seeks and abandonment is off
abbrev pub instants : JointCase → (ℕ → Player) → ℕ → Player
instants j ps i = instant (case_at j i) (ps i)

-- the share of the link that each taker has in the millisecond of an instant, by the players after it
abbrev pub share_of : JointCase → ℕ → (ℕ → Player) → Period
share_of j t ps = parted (takers_in (period_at j.periods t) ps (players_of j)) (period_at j.periods t)

-- a player's millisecond on a share of the link; a player that has ended stays as it is
abbrev pub passes : JointCase → Period → ℕ → Player → Player
passes j share i p = if is_ended p.mode then p else pass_in (case_at j i) share p

-- the joint millisecond of an instant: what the instant does, and then the millisecond of each player on its share
abbrev pub joint_ms : JointCase → ℕ → (ℕ → Player) → ℕ → Player
joint_ms j t ps i = passes j (share_of j t (instants j ps)) i (instants j ps i)

-- the players after so many milliseconds
unfoldable pub players_after : JointCase → ℕ → ℕ → Player
players_after j zero i = first_player
players_after j (suc n) i = joint_ms j n (players_after j n) i

-- ---- the joint session

-- whether the first players, so many, have ended
unfoldable pub all_ended : (ℕ → Player) → ℕ → Bool
all_ended ps zero = true
all_ended ps (suc i) = all_ended ps i && is_ended (ps i).mode

-- whether all players have ended after an instant
abbrev pub all_end_at : JointCase → ℕ → Bool
all_end_at j n = all_ended (instants j (players_after j n)) (players_of j)

-- the first instant after which all have ended
unfoldable pub joint_end : JointCase → ℕ
joint_end j = least_below latest_ms (all_end_at j)

-- what the player at a place shows then, with its own end
unfoldable pub joint_session : JointCase → ℕ → Shown
joint_session j i = shown_by (instants j (players_after j (joint_end j)) i)

-- ---- the limits

-- a joint case within the limits
pub record IsJoint (j : JointCase) : Type 0 where
  pub film : IsFilm j.film
  pub trace : IsTrace j.periods
  pub setup : SetupFits j.setup j.film
  pub keeps : j.setup.abandon ≡ false
  pub players : IsWithin 1 8 (players_of j)
  pub rules : All (λ r. KindFits r j.film) j.rules
