-- What `simulate --players` answers: the joint session of one network, with a text for each player.
use Rattle.std.specs.Prelude.{◌≡◌, ℕ, zero, suc, ◌+◌, ◌<◌, ◌++◌, List, [], ◌∷◌, Bool, true, false, Option, Some, None, Ok, codes, get_or, length, map}
use Rattle.std.specs.Fmt.{decimal}
use Rattle.std.specs.List.{slice_get}
use Rattle.lab_io.specs.Piece.{fields_line}
use Rattle.lab_io.specs.Sink.{Text}
use Rattle.lab_model.specs.declared.trace.Period.{Period}
use Rattle.lab_model.specs.Steps.{◌>>=◌}
use Rattle.lab_model.specs.Weighing.{Weighing}
use Rattle.lab_inputs.specs.Inputs.{InputValues}
use Rattle.lab_inputs.specs.Settings.{settled}
use Rattle.player_core.specs.declared.session.Session.{Session}
use Rattle.player_core.specs.Session.{Shown, shown}
use Rattle.session_report.specs.Session.{session_text}
use Rattle.shared_link.specs.Joint.{JointCase, joint_of, joint_session, players_of}
use Rattle.abrlab_top.specs.Answer.{Outcome, printed, unless_stopped}
use Rattle.abrlab_top.specs.Simulate.{simulate}

-- the line of a player by its number, counted from 1
abbrev pub player_line : ℕ → Text
player_line number = fields_line (codes "player" ∷ decimal number ∷ [])

-- the texts of the first players, so many: of each its line, and the text of what it shows
unfoldable pub players_text : (ℕ → Shown) → Weighing → ℕ → Text
players_text shows w zero = []
players_text shows w (suc i) = players_text shows w i ++ (player_line (i + 1) ++ session_text (shows i) w)

-- these sessions show, place by place, what the players show
abbrev pub AreOf : (ℕ → Shown) → List Session → Type 0
AreOf shows ss = (i : ℕ) (s : Session) → i < length ss → shown (get_or ss i s) ≡ shows i

-- the text of a joint session
abbrev pub joint_text : JointCase → Text
joint_text j = players_text (joint_session j) j.setup.weights (players_of j)

-- the joint case of the rules of a command line on one network
abbrev pub joint_on : InputValues → List Period → JointCase
joint_on i periods = joint_of i.film periods i.setup (map (λ rule. rule.1) i.rules)

-- the answer on this network; a command line of `simulate --players` names one
abbrev pub play_jointly_on : InputValues → Option (Text × List Period) → Outcome
play_jointly_on i (Some network) = do
  ready ← unless_stopped (settled i)
  Ok (printed (joint_text (joint_on ready network.1)))
play_jointly_on i None = Ok (printed [])

-- what `simulate --players` answers, by its inputs
unfoldable pub play_jointly : InputValues → Outcome
play_jointly i = play_jointly_on i (slice_get i.networks 0)

-- what `simulate` answers, by whether its rules are those of several players
abbrev pub simulate_by : Bool → InputValues → Outcome
simulate_by false = simulate
simulate_by true = play_jointly
