use Rattle.std.proofs.Common.{◌≡◌, slice_index, nat_lt}
use Rattle.certificate_check.specs.declared.verdict.Verdict.TheVariants.{Yes}
use Rattle.certificate_check.specs.Scheme.{first_no, tested}
use Rattle.certificate_check.proofs.ranges.plan_verdict.Given as goal

abbrev pub invariant-loop-segment : goal.invariant-loop-segment
invariant-loop-segment l = first_no (λ i. tested 2 i 0 0 (nat_lt (slice_index l.plan i) l.rungs)) l.segment ≡ Yes
