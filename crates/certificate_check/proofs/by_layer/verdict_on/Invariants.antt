use Rattle.certificate_check.proofs.ByLayer.{StandsAt}
use Rattle.certificate_check.proofs.by_layer.verdict_on.Given as goal

-- what was found so far stands for all certificates that begin so
abbrev pub invariant-loop-segment : goal.invariant-loop-segment
invariant-loop-segment l = StandsAt l.scene l.fn.lines l.lines l.segment l.here.chains.items l.found
