use Rattle.std.proofs.Common.{◌≡◌, slice_index, nat_lt}
use Rattle.certificate_check.specs.declared.verdict.Verdict.TheVariants.{Yes}
use Rattle.certificate_check.specs.Scheme.{first_no, tested}
use Rattle.certificate_check.specs.Clauses.{count_of, chains_by_rung}
use Rattle.certificate_check.proofs.ranges.starts_verdict.Given as goal

abbrev pub invariant-loop-rung : goal.invariant-loop-rung
invariant-loop-rung l =
    first_no (λ q. tested 2 0 q 0 (nat_lt (slice_index l.starts q) (count_of (chains_by_rung l.first q)))) l.rung ≡ Yes
