-- What each kind of rule chooses after a whole history.
use Rattle.std.specs.Prelude.{ℕ, List, slice_index}
use Rattle.lab_model.specs.declared.setup.Setup.{Setup}
use Rattle.lab_model.specs.declared.context.Context.{Context}
use Rattle.lab_model.specs.Film.{Film}
use Rattle.lab_model.specs.Rules.{RuleKind, fixed, listed, throughput, bola, mpc}
use Rattle.lab_model.specs.Throughput.{throughput_choice}
use Rattle.lab_model.specs.Bola.{bola_choice}
use Rattle.lab_model.specs.Mpc.{mpc_choice}

-- the choice of a rule of some kind, after a whole history
abbrev pub choice : RuleKind → Film → Setup → Context → List ℕ → ℕ
choice (fixed q) f s c history = q
choice (listed rungs) f s c history = slice_index rungs c.next
choice (throughput windows) f s c history = throughput_choice windows f history
choice (bola g) f s c history = bola_choice g f s c
choice (mpc horizon) f s c history = mpc_choice horizon f s c history
