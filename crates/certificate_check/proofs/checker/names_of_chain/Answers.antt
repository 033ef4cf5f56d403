use Rattle.std.proofs.Common.{◌∙◌, ap, ◌<◌, length, subst}
use Rattle.labels.specs.Parts.{chain_parts}
use Rattle.certificate_check.specs.Scheme.{first_no}
use Rattle.certificate_check.specs.Clauses.{count_of, chains_by_rung, range_verdict}
use Rattle.certificate_check.proofs.Scheme.{first_fails, first_more, first_none, yes_at}
use Rattle.certificate_check.proofs.checker.names_of_chain.Goals as goal

pub loop-place-init : goal.loop-place-init
loop-place-init c = first_none _

pub name_verdict-requires-clause-range : goal.name_verdict-requires-clause-range
name_verdict-requires-clause-range c =
    let k = c.loop-place.place in
    let count = c.count_of-place-end.ensures in
    let low = c.loop-place-test.true in
    yes_at (range_verdict (length c.args.next.now) c.args.segment c.args.rung (chain_parts c.args.chain.now) (chains_by_rung c.args.next.now)) (count_of (chain_parts c.args.chain.now)) k c.requires.ranges (subst (λ n. k < n) count low)

pub loop-place-preserved : goal.loop-place-preserved
loop-place-preserved c =
    first_more _ _ c.loop-place.invariant (c.in_ok-name_verdict.ensures)

pub returns-in_err-name_verdict : goal.returns-in_err-name_verdict
returns-in_err-name_verdict c =
    first_fails _ _ _ c.from_residual.result c.in_err-name_verdict.field-0.0 c.loop-place-test.true c.loop-place.invariant (c.in_err-name_verdict.ensures) c.from_residual.ensures.1 ∙ ap (first_no _) c.count_of-place-end.ensures
