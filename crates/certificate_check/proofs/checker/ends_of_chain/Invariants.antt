use Rattle.std.proofs.Common.{◌≡◌}
use Rattle.labels.specs.Parts.{chain_parts}
use Rattle.certificate_check.specs.declared.verdict.Verdict.TheVariants.{Yes}
use Rattle.certificate_check.specs.Scheme.{first_no}
use Rattle.certificate_check.specs.Clauses.{end_verdict}
use Rattle.certificate_check.proofs.checker.ends_of_chain.Given as goal

abbrev pub invariant-loop-place : goal.invariant-loop-place
invariant-loop-place l =
    first_no (end_verdict l.scene l.bound l.segment l.rung (chain_parts l.chain)) l.place ≡ Yes
