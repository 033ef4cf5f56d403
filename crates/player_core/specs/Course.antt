-- Not part of the model: what the proofs keep.
-- What the player's code is given, and the case that it makes with a kind of rule.
use Rattle.lab_model.specs.Rules.{RuleKind}
use Rattle.player_core.specs.declared.course.Course.{Course}
use Rattle.player_core.specs.Scene.{case_in}
use Rattle.player_core.specs.State.{Case}

-- the case that a course makes with a kind of rule
abbrev pub case_on : Course → RuleKind → Case
case_on o kind = case_in o.scene.now o.seeks.now kind
