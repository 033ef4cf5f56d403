use Rattle.std.proofs.Common.{◌≡◌, length}
use Rattle.labels.specs.Parts.{chain_parts}
use Rattle.certificate_check.specs.declared.verdict.Verdict.TheVariants.{Yes}
use Rattle.certificate_check.specs.Scheme.{first_no}
use Rattle.certificate_check.specs.Clauses.{chains_by_rung, name_verdict}
use Rattle.certificate_check.proofs.checker.names_of_chain.Given as goal

abbrev pub invariant-loop-place : goal.invariant-loop-place
invariant-loop-place l =
    first_no (name_verdict l.scene (length l.next) l.segment l.rung (chain_parts l.chain) (chains_by_rung l.next)) l.place ≡ Yes
