-- The value of a rung list: the score of the session that plays it.
use Rattle.std.specs.Prelude.{ℕ, List, [], ℤ, false}
use Rattle.lab_model.specs.Limits.{all_ahead}
use Rattle.lab_model.specs.declared.trace.Period.{Period}
use Rattle.lab_model.specs.declared.setup.Setup.{Setup}
use Rattle.lab_model.specs.Film.{Film}
use Rattle.lab_model.specs.Rules.{listed}
use Rattle.quality_score.specs.Score.{score_of}
use Rattle.player_core.specs.State.{Case, case_of}
use Rattle.player_core.specs.Session.{session_of}

-- a rung list is played without abandonment and seeks
abbrev pub list_case : Film → List Period → Setup → ℕ → List ℕ → Case
list_case f periods set ahead rungs =
    case_of f periods (record set { abandon = false }) [] ahead (listed rungs)

-- the value of a rung list in a live session with so much media ahead
abbrev pub live_value_of : Film → List Period → Setup → ℕ → List ℕ → ℤ
live_value_of f periods set ahead rungs =
    let s = session_of (list_case f periods set ahead rungs) in score_of set.weights s.played s.stall_ms s.startup_ms

-- the value of a rung list of a film on demand
abbrev pub value_of : Film → List Period → Setup → List ℕ → ℤ
value_of f periods set rungs = live_value_of f periods set all_ahead rungs
