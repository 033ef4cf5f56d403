use Rattle.std.proofs.Common.{◌≡◌}
use Rattle.certificate_check.specs.declared.verdict.Verdict.TheVariants.{Yes}
use Rattle.certificate_check.specs.Scheme.{first_no}
use Rattle.certificate_check.specs.Clauses.{count_of, end_verdict, chains_by_rung}
use Rattle.certificate_check.proofs.checker.ends_verdict.Given as goal

abbrev pub invariant-loop-rung : goal.invariant-loop-rung
invariant-loop-rung l =
    first_no (λ q. first_no (end_verdict l.scene l.bound l.segment q (chains_by_rung l.last q)) (count_of (chains_by_rung l.last q))) l.rung ≡ Yes
