use Rattle.std.proofs.Common.{◌≡◌, length, nat_lt}
use Rattle.labels.specs.Parts.{chain_parts}
use Rattle.certificate_check.specs.declared.verdict.Verdict.TheVariants.{Yes}
use Rattle.certificate_check.specs.Scheme.{first_no, tested}
use Rattle.certificate_check.specs.Clauses.{count_of, chains_by_rung, name_of}
use Rattle.certificate_check.proofs.ranges.name_ranges.Given as goal

abbrev pub invariant-loop-next_rung : goal.invariant-loop-next_rung
invariant-loop-next_rung l =
    first_no (λ r. tested 2 l.segment l.rung l.place (nat_lt (name_of (length l.next) (chain_parts l.chain) l.place r) (count_of (chains_by_rung l.next r)))) l.next_rung ≡ Yes
