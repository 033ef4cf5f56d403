-- Sessions end: a session of inputs within the limits, for a film on demand or live, ends before instant 10 ^ 15.
use Rattle.std.specs.Prelude.{◌≡◌, ◌<◌, List, true}
use Rattle.lab_model.specs.declared.context.Seek.{Seek}
use Rattle.lab_model.specs.Film.{segments_of}
use Rattle.lab_model.specs.Rules.{KindFits, RuleKind}
use Rattle.lab_model.specs.Seeks.{SeeksFit}
use Rattle.player_core.specs.Limits.{latest_ms}
use Rattle.player_core.specs.Scene.{IsTask, Task, case_in}
use Rattle.player_core.specs.Session.{end_of, ends_at}
use Rattle.player_core.specs.State.{Case}

-- the session of a case has ended at its end, which is early enough
pub record HasItsEnd (c : Case) : Type 0 where
  pub early : end_of c < latest_ms
  pub ended : ends_at c (end_of c) ≡ true

-- the law: so has every session within the limits
abbrev pub SessionsEnd : Type 0
SessionsEnd = (g : Task) (seeks : List Seek) (kind : RuleKind) → IsTask g → SeeksFit seeks (segments_of g.film) → KindFits kind g.film → HasItsEnd (case_in g seeks kind)
