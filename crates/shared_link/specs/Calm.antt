-- Not part of the model: what the proofs keep.
-- Calm stretches: milliseconds of several players in which nothing happens to any of them, as long as so many take.
use Rattle.std.specs.Prelude.{◌≡◌, ℕ, ◌+◌, ◌-◌, ◌<◌, ◌≤◌, List, true, false, IfSome, length, get_or}
use Rattle.network_clock.specs.Limits.{latest_answer, most_left}
use Rattle.std.specs.List.{All}
use Rattle.lab_model.specs.declared.trace.Period.{Period}
use Rattle.lab_model.specs.Film.{IsWithin}
use Rattle.lab_model.specs.Rules.{RuleKind}
use Rattle.network_clock.specs.Network.{first_at, lands_on, lane_at, period_at, spends}
use Rattle.player_core.specs.declared.body.Body.{Body}
use Rattle.player_core.specs.declared.course.Course.{Course}
use Rattle.player_core.specs.declared.running.Running.{Running}
use Rattle.player_core.specs.Course.{case_on}
use Rattle.player_core.specs.Limits.{latest_ms}
use Rattle.player_core.specs.Parts.{is_ended}
use Rattle.player_core.specs.Quiet.{IsUntouched, glides}
use Rattle.player_core.specs.Seen.{CanGlide, CanIdle, CanTake, Follows, KnowsEnd, seen}
use Rattle.player_core.specs.Sound.{asked_size}
use Rattle.player_core.specs.State.{Case, Player}
use Rattle.shared_link.specs.Joint.{JointCase, case_at, instants, players_after, players_of, takers_in, takes_bits}
use Rattle.shared_link.specs.Table.{BodyGoesOn, HasEnded}

-- the number of takers in the millisecond of an instant
abbrev pub takers_at : JointCase → ℕ → ℕ
takers_at j t = takers_in (period_at j.periods t) (instants j (players_after j t)) (players_of j)

-- after its instant nothing happens to a player for so many milliseconds, as long as so many take
pub record IsCalm (j : JointCase) (takers t ms : ℕ) (c : Case) (q : Player) : Type 0 where
  pub untouched : IsUntouched c q ms
  pub lands : takes_bits (period_at j.periods t) q ≡ true → IfSome q.download (λ d. t + ms ≤ lands_on (lane_at j.periods takers) t d.job)
  pub begins : takes_bits (period_at j.periods t) q ≡ false → IfSome q.download (λ d. t + ms ≤ first_at j.periods d.asked (asked_size c d))

-- after the instants nothing happens to any player that goes on
abbrev pub AreCalm : JointCase → ℕ → ℕ → Type 0
AreCalm j t ms = (i : ℕ) → i < players_of j → is_ended (instants j (players_after j t) i).mode ≡ false
    → IsCalm j (takers_at j t) t ms (case_at j i) (instants j (players_after j t) i)

-- the milliseconds can be counted in which nothing happens to a body
pub record CanRestTogether (o : Course) (period : Period) (b : Body) : Type 0 where
  pub idles : CanIdle o.scene.now.film o.scene.now.setup o.scene.now.ahead b
  pub left : IfSome b.download (λ r. IsWithin 1 most_left r.job.left)
  pub begins : IfSome b.download (λ r. spends period r.job ≡ false → b.t < r.begins)

-- the same of a body whose instant lies in this period
pub record RestsAt (o : Course) (period : Period) (b : Body) : Type 0 where
  pub here : period ≡ period_at o.scene.now.periods b.t
  pub instant : b.t < latest_ms
  pub rest : CanRestTogether o period b

-- the same of each body that goes on, at one instant
pub record AllRestAt (o : Course) (period : Period) (t : ℕ) (bs : List Body) : Type 0 where
  pub here : period ≡ period_at o.scene.now.periods t
  pub instant : t < latest_ms
  pub rest : All (λ b. BodyGoesOn b → (b.t ≡ t) × CanRestTogether o period b) bs

-- a download can come from one instant to another at once
pub record CanRunOn (d : Running) (from until : ℕ) : Type 0 where
  pub later : from ≤ until
  pub instant : until ≤ latest_answer
  pub job : CanTake d

-- after its instant nothing happens to a body before another instant, as long as so many take
pub record StaysCalm (o : Course) (takers until : ℕ) (b : Body) : Type 0 where
  pub later : b.t < until
  pub untouched : (kind : RuleKind) (history : List ℕ) → IsUntouched (case_on o kind) (seen b history) (until - b.t)
  pub lands : IfSome b.download (λ r. spends (period_at o.scene.now.periods b.t) r.job ≡ true → until ≤ lands_on (lane_at o.scene.now.periods takers) b.t r.job)
  pub begins : IfSome b.download (λ r. spends (period_at o.scene.now.periods b.t) r.job ≡ false → until ≤ r.begins)

-- a case on the lane of each of so many takers
abbrev pub lane_case : Course → ℕ → RuleKind → Case
lane_case o takers kind = record (case_on o kind) { network = lane_at o.scene.now.periods takers }

-- a body has come to an instant at once, as one of so many takers, unless it has ended
pub record Glides (o : Course) (takers until : ℕ) (old new : Body) : Type 0 where
  pub over : HasEnded old → new ≡ old
  pub glides : BodyGoesOn old → KnowsEnd o old → (kind : RuleKind) → Follows (glides (lane_case o takers kind) (until - old.t)) old new
  pub timed : KnowsEnd o old → KnowsEnd o new

-- each has
pub record AllGlide (o : Course) (takers until : ℕ) (olds news : List Body) : Type 0 where
  pub count : length news ≡ length olds
  pub each : (i : ℕ) (b : Body) → i < length olds → Glides o takers until (get_or olds i b) (get_or news i b)

-- a body can come to an instant at once
pub record CanCome (until : ℕ) (b : Body) : Type 0 where
  pub later : b.t ≤ until
  pub glides : CanGlide b (until - b.t)
