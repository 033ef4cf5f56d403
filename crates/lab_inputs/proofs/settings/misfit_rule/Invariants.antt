use Rattle.std.proofs.Common.{◌≡◌, ◌+◌, drop, map}
use Rattle.lab_words.specs.Command.{named}
use Rattle.lab_inputs.specs.Settings.{misfit_from}
use Rattle.lab_inputs.proofs.settings.misfit_rule.Given as goal

-- what the rules from here on say is said of them all
abbrev pub invariant-loop-index : goal.invariant-loop-index
invariant-loop-index l = misfit_from 1 (map named l.rules) l.m ≡ misfit_from (l.index + 1) (map named (drop l.index l.rules)) l.m
