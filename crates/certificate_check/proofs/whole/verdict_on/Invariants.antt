use Rattle.certificate_text.specs.Form.{certificate_parts}
use Rattle.certificate_check.proofs.Progress.{HasFound}
use Rattle.certificate_check.proofs.whole.verdict_on.Given as goal

abbrev pub invariant-loop-segment : goal.invariant-loop-segment
invariant-loop-segment l = HasFound l.scene (certificate_parts l.cert) l.segment l.found
