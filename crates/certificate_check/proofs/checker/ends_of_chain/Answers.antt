use Rattle.std.proofs.Common.{◌∙◌, sym, ap, ◌<◌, ◌≤◌, [], subst, to_z, of_z, arith, rules, ap₂, ℤ}
use Rattle.lab_model.specs.declared.label.Label.{Label}
use Rattle.labels.specs.Parts.{chain_parts}
use Rattle.certificate_check.specs.Clauses.{count_of, end_verdict, chains_by_rung, range_verdict}
use Rattle.std.proofs.lemmas.Int.{to_z-of_z}
use Rattle.std.specs.Int.{w128}
use Rattle.std.specs.Prelude.{int_le}
use Rattle.labels.specs.Labels.{value_at_end}
use Rattle.lab_model.specs.declared.setup.Setup.{Setup}
use mir.Val.{SFits}
use Rattle.certificate_check.specs.Scheme.{first_no, tested}
use Rattle.certificate_check.proofs.InRange.{times_in}
use Rattle.certificate_check.proofs.Scheme.{first_fails, first_more, first_none, yes_at}
use Rattle.certificate_check.proofs.checker.ends_of_chain.Goals as goal

pub loop-place-init : goal.loop-place-init
loop-place-init c = first_none _

pub end_value-ends-requires : goal.end_value-ends-requires
end_value-ends-requires c =
    let k = c.loop-place.place in
    let count = c.count_of-place-end.ensures in
    let low = c.loop-place-test.true in
    let range = yes_at (range_verdict 0 c.args.segment c.args.rung (chain_parts c.args.chain.now) (chains_by_rung [])) (count_of (chain_parts c.args.chain.now)) k c.requires.ranges (subst (λ n. k < n) count low) in
    subst (λ (l : Label). l.p ≤ 2000000000000000) (sym c.label_of.ensures) (let near = (times_in 0 c.args.segment c.args.rung (chain_parts c.args.chain.now) (chains_by_rung []) k range).1 in omega (arith, near))

pub loop-place-preserved : goal.loop-place-preserved
loop-place-preserved c =
    let ends = c.end_value-ends.result in
    let fits : SFits w128 ends = search rules in
    first_more _ _ c.loop-place.invariant (c.in_ok-test.ensures ∙ ap (tested 5 c.args.segment c.args.rung c.loop-place.place) (ap (λ (z : ℤ). int_le z (to_z w128 (of_z w128 c.args.bound))) (to_z-of_z w128 ends fits ∙ c.end_value-ends.ensures ∙ ap₂ (λ (s : Setup) (l : Label). value_at_end s.weights l) c.setup.ensures.value c.label_of.ensures)))

pub returns-in_err-test : goal.returns-in_err-test
returns-in_err-test c =
    let ends = c.end_value-ends.result in
    let fits : SFits w128 ends = search rules in
    first_fails _ _ _ c.from_residual.result c.in_err-test.field-0.0 c.loop-place-test.true c.loop-place.invariant (c.in_err-test.ensures ∙ ap (tested 5 c.args.segment c.args.rung c.loop-place.place) (ap (λ (z : ℤ). int_le z (to_z w128 (of_z w128 c.args.bound))) (to_z-of_z w128 ends fits ∙ c.end_value-ends.ensures ∙ ap₂ (λ (s : Setup) (l : Label). value_at_end s.weights l) c.setup.ensures.value c.label_of.ensures))) c.from_residual.ensures.1 ∙ ap (first_no _) c.count_of-place-end.ensures ∙ ap (λ b. first_no (end_verdict c.args.scene.now b c.args.segment c.args.rung (chain_parts c.args.chain.now)) (count_of (chain_parts c.args.chain.now))) (to_z-of_z w128 c.args.bound c.ranges.bound)
