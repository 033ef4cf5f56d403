-- Rules are lists: without abandonment and seeks the session of any rule is that of the rung list which it played.
use Rattle.std.specs.Prelude.{◌≡◌, ℕ, List, [], map, false}
use Rattle.lab_model.specs.declared.trace.Period.{Period}
use Rattle.lab_model.specs.declared.setup.Setup.{Setup}
use Rattle.lab_model.specs.declared.context.Played.{Played}
use Rattle.lab_model.specs.Film.{Film}
use Rattle.lab_model.specs.Rules.{KindFits, RuleKind, listed}
use Rattle.player_core.specs.declared.session.Session.{Session}
use Rattle.player_core.specs.State.{Case}
use Rattle.player_core.specs.Scene.{IsTask, Task, case_in}
use Rattle.player_core.specs.Session.{session_of, shown}
use Rattle.player_core.specs.Value.{list_case}

-- the rungs of played segments
abbrev pub rungs_in : List Played → List ℕ
rungs_in ps = map (λ (q : Played). q.rung) ps

-- the rungs that a session played are a rung list of the film, and the session of that list is this one
pub record PlaysItsList (c : Case) : Type 0 where
  pub fits : KindFits (listed (rungs_in (session_of c).played)) c.film
  pub same : session_of (record c { rule = listed (rungs_in (session_of c).played) }) ≡ session_of c

-- the law: so it is without abandonment and seeks, whatever the rule
abbrev pub RulesAreLists : Type 0
RulesAreLists = (g : Task) (kind : RuleKind) → IsTask g → KindFits kind g.film → g.setup.abandon ≡ false → PlaysItsList (case_in g [] kind)

-- the same of a session in hand: its rungs are a rung list of the film, and it is the session of that list
pub record IsListed (f : Film) (periods : List Period) (set : Setup) (ahead : ℕ) (s : Session) : Type 0 where
  pub fits : KindFits (listed (rungs_in s.played.items)) f
  pub session : shown s ≡ session_of (list_case f periods set ahead (rungs_in s.played.items))
