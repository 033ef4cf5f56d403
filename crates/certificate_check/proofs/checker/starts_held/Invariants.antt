use Rattle.std.proofs.Common.{◌≡◌, slice_index}
use Rattle.labels.specs.Labels.{dominates, start_label}
use Rattle.certificate_check.specs.declared.verdict.Verdict.TheVariants.{Yes}
use Rattle.certificate_check.specs.Scheme.{first_no, tested}
use Rattle.certificate_check.specs.Clauses.{label_of, chains_by_rung}
use Rattle.certificate_check.proofs.checker.starts_held.Given as goal

abbrev pub invariant-loop-rung : goal.invariant-loop-rung
invariant-loop-rung l =
    first_no (λ q. tested 3 0 q (slice_index l.starts q) (dominates (label_of (chains_by_rung l.first q) (slice_index l.starts q)) (start_label l.scene q))) l.rung ≡ Yes
