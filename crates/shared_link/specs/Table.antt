-- Not part of the model: what the proofs keep.
-- What the bodies and rules of several players stand for, and what each step of the code makes of them.
use Rattle.std.specs.Prelude.{◌≡◌, ℕ, ◌+◌, ◌<◌, ◌≤◌, List, [], true, false, length, get_or}
use Rattle.lab_model.specs.Limits.{all_ahead}
use Rattle.std.specs.List.{All}
use Rattle.lab_model.specs.declared.trace.Period.{Period}
use Rattle.lab_model.specs.Film.{Film, rungs_of, segments_of}
use Rattle.lab_model.specs.Rules.{RuleKind}
use Rattle.player_core.specs.declared.body.Body.{Body}
use Rattle.player_core.specs.declared.course.Course.{Course}
use Rattle.player_core.specs.declared.session.Session.{Session}
use Rattle.player_core.specs.Course.{case_on}
use Rattle.player_core.specs.Limits.{latest_ms, most_played}
use Rattle.player_core.specs.Parts.{instant, is_ended, pass_in}
use Rattle.player_core.specs.Ready.{CanPass}
use Rattle.player_core.specs.Seen.{KnowsEnd, StandsFor, StepsOn, mode_of, seen}
use Rattle.player_core.specs.Session.{shown, shown_by}
use Rattle.player_core.specs.Sound.{IsCase, Sound}
use Rattle.player_core.specs.State.{Player, first_player}
use Rattle.shared_link.specs.Joint.{JointCase, joint_of, joint_session, players_of}

-- the joint case that a course makes with these rules
abbrev pub joint_on_course : Course → List RuleKind → JointCase
joint_on_course o rules = joint_of o.scene.now.film o.scene.now.periods o.scene.now.setup rules

-- a course without seeks, of a film on demand
pub record IsPlainCourse (o : Course) : Type 0 where
  pub seeks : o.seeks.now ≡ []
  pub ahead : o.scene.now.ahead ≡ all_ahead

-- bodies stand for players, place by place
abbrev pub Stand : (ℕ → Player) → List Body → Type 0
Stand ps bs = (i : ℕ) (b : Body) → i < length bs → StandsFor (ps i) (get_or bs i b)

-- a body has ended
abbrev pub HasEnded : Body → Type 0
HasEnded b = is_ended (mode_of b.mode) ≡ true

-- a body goes on
abbrev pub BodyGoesOn : Body → Type 0
BodyGoesOn b = is_ended (mode_of b.mode) ≡ false

-- so many bodies of players at the start
pub record AreFirstBodies (count : ℕ) (bs : List Body) : Type 0 where
  pub many : length bs ≡ count
  pub first : All (λ b. seen b [] ≡ first_player) bs

-- ---- the instant

-- an instant can come for a body that stands for a sound player, on whatever network
pub record CanMeet (o : Course) (rule : RuleKind) (b : Body) : Type 0 where
  pub network : ℕ → Period
  pub from : ℕ
  pub case : IsCase (record (case_on o rule) { network = network })
  pub sound : Sound (record (case_on o rule) { network = network }) from (seen b [])
  pub early : b.t < latest_ms
  pub keeps : o.scene.now.setup.abandon ≡ false
  pub plain : IsPlainCourse o

-- after an instant the body stands for what it makes of the player, and the rule was told what joined the history
pub record Meets {R : Type 0} (kind : R → RuleKind) (stands_for : R → List ℕ → Type 0) (o : Course) (old new : Body) (rule heard : R) : Type 0 where
  pub same : kind heard ≡ kind rule
  pub meets : (history : List ℕ) → stands_for rule history → seen new (instant (case_on o (kind rule)) (seen old history)).history ≡ instant (case_on o (kind rule)) (seen old history)
  pub told : (history : List ℕ) → stands_for rule history → stands_for heard (instant (case_on o (kind rule)) (seen old history)).history
  pub timed : KnowsEnd o old → KnowsEnd o new

-- the same of each place
pub record AllCanMeet {R : Type 0} (kind : R → RuleKind) (o : Course) (bs : List Body) (rs : List R) : Type 0 where
  pub count : length rs ≡ length bs
  pub each : (i : ℕ) (b : Body) (r : R) → i < length bs → CanMeet o (kind (get_or rs i r)) (get_or bs i b)

-- what meeting an instant makes of each player: its own instant, and its rule has heard what was told
pub record AllMeet {R : Type 0} (kind : R → RuleKind) (stands_for : R → List ℕ → Type 0) (o : Course) (olds news : List Body) (rules heard : List R) : Type 0 where
  pub bodies : length news ≡ length olds
  pub count : length heard ≡ length rules
  pub each : (i : ℕ) (b : Body) (r : R) → i < length olds → Meets kind stands_for o (get_or olds i b) (get_or news i b) (get_or rules i r) (get_or heard i r)

-- ---- the millisecond

-- a body has passed a millisecond on a share of the link, unless it has ended
pub record Passes (o : Course) (share : Period) (old new : Body) : Type 0 where
  pub over : HasEnded old → new ≡ old
  pub passes : BodyGoesOn old → StepsOn o (λ c p. pass_in c share p) old new

-- each has
pub record AllPass (o : Course) (share : Period) (olds news : List Body) : Type 0 where
  pub count : length news ≡ length olds
  pub each : (i : ℕ) (b : Body) → i < length olds → Passes o share (get_or olds i b) (get_or news i b)

-- a millisecond can pass for each that goes on
abbrev pub AllCanPass : List Body → Type 0
AllCanPass bs = All (λ b. BodyGoesOn b → CanPass (seen b [])) bs

-- ---- the sessions

-- the sessions show what these players show
pub record AreShown (ps : ℕ → Player) (count : ℕ) (ss : List Session) : Type 0 where
  pub many : length ss ≡ count
  pub each : (i : ℕ) (s : Session) → i < count → shown (get_or ss i s) ≡ shown_by (ps i)

-- the sessions are those of a joint session, in order
pub record AreSessions (j : JointCase) (ss : List Session) : Type 0 where
  pub count : length ss ≡ players_of j
  pub each : (i : ℕ) (s : Session) → i < players_of j → shown (get_or ss i s) ≡ joint_session j i

-- the session played at most 34000 segments of the film, ends before 10 ^ 15, and its times add up to no more than its end
pub record IsWholeSession (f : Film) (s : Session) : Type 0 where
  pub rungs : All (λ p. (p.rung < rungs_of f) × (p.segment < segments_of f)) s.played.items
  pub count : length s.played.items ≤ most_played
  pub ends : s.end < latest_ms
  pub times : s.startup_ms + s.stall_ms + s.seek_ms ≤ s.end
