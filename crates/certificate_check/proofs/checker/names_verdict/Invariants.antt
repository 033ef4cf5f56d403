use Rattle.std.proofs.Common.{◌≡◌, length}
use Rattle.certificate_check.specs.declared.verdict.Verdict.TheVariants.{Yes}
use Rattle.certificate_check.specs.Scheme.{first_no}
use Rattle.certificate_check.specs.Clauses.{count_of, chains_by_rung, name_verdict}
use Rattle.certificate_check.proofs.checker.names_verdict.Given as goal

abbrev pub invariant-loop-rung : goal.invariant-loop-rung
invariant-loop-rung l =
    first_no (λ q. first_no (name_verdict l.scene (length l.next) l.segment q (chains_by_rung l.here q) (chains_by_rung l.next)) (count_of (chains_by_rung l.here q))) l.rung ≡ Yes
