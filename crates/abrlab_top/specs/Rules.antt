-- What the rules of a command line are.
use Rattle.std.specs.Prelude.{ℕ, List}
use Rattle.lab_model.specs.Rules.{RuleKind, fixed, listed, bola, mpc}
use Rattle.mpc_rule.specs.Recall as recall
use Rattle.throughput_rule.specs.Windows as windows
use Rattle.abrlab_top.specs.declared.rule.AnyRule.{AnyRule}
use Rattle.abrlab_top.specs.declared.rule.AnyRule.TheVariants as any

-- the kind of each rule
abbrev pub kind_of : AnyRule → RuleKind
kind_of (any.Fixed rule) = fixed rule.rung
kind_of (any.Listed rule) = listed rule
kind_of (any.Throughput rule) = windows.throughput_of rule
kind_of (any.Bola rule) = bola rule
kind_of (any.Mpc rule) = mpc rule.horizon

-- the histories that each rule stands for: some look at none
abbrev pub HasSeen : AnyRule → List ℕ → Type 0
HasSeen (any.Fixed rule) history = Unit {0}
HasSeen (any.Listed rule) history = Unit {0}
HasSeen (any.Throughput rule) history = windows.HoldLast rule history
HasSeen (any.Bola rule) history = Unit {0}
HasSeen (any.Mpc rule) history = recall.IsRecallOf rule history
