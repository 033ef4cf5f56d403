use Rattle.std.proofs.Common.{◌≡◌, length, ◌+◌}
use Rattle.labels.specs.Parts.{chain_parts}
use Rattle.labels.specs.Labels.{dominates, next_label}
use Rattle.certificate_check.specs.declared.verdict.Verdict.TheVariants.{Yes}
use Rattle.certificate_check.specs.Scheme.{first_no, tested}
use Rattle.certificate_check.specs.Clauses.{label_of, chains_by_rung, name_of}
use Rattle.certificate_check.proofs.checker.name_verdict.Given as goal

abbrev pub invariant-loop-next_rung : goal.invariant-loop-next_rung
invariant-loop-next_rung l =
    first_no (λ r. tested 4 l.segment l.rung l.place (dominates (label_of (chains_by_rung l.next r) (name_of (length l.next) (chain_parts l.chain) l.place r)) (next_label l.scene (l.segment + 1) l.rung (label_of (chain_parts l.chain) l.place) r))) l.next_rung ≡ Yes
