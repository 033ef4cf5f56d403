use Rattle.std.proofs.Common.{◌≡◌, ◌∙◌, [], ◌+◌, ◌-◌, ◌<◌, length, sym, ap, ap₂, subst, arith, rules, to_z, of_z}
use mir.Val.{SFits}
use Rattle.std.specs.Int.{w128}
use Rattle.std.proofs.lemmas.Int.{to_z-of_z}
use Rattle.certificate_text.specs.Form.{certificate_parts}
use Rattle.certificate_check.specs.Scheme.{both}
use Rattle.certificate_check.specs.Clauses.{counts_verdict, ends_verdict, chains_by_rung, plan_verdict, ranges_verdict, score_verdict, starts_held, starts_verdict}
use Rattle.certificate_check.specs.Layers.{IsLayer, MayEnd}
use Rattle.certificate_check.proofs.Scheme.{both_first}
use Rattle.certificate_check.proofs.Progress.{HasFound, are_both, may_end, stands_first, stands_last, stands_more}
use Rattle.certificate_check.proofs.Verdicts.{counts_match, per_inside, per_last}
use Rattle.certificate_check.proofs.whole.verdict_on.Goals as goal

pub found_first-found-requires : goal.found_first-found-requires
found_first-found-requires c =
    let parts = certificate_parts c.args.cert.now in
    let long = ap length c.deref-2.ensures.value in
    let starts = c.requires.head.starts.0 in
    let few = c.requires.head.rungs.1 in
    record {
      rungs = omega (arith, long, starts, few);
      chains = c.layer.ensures.own.count ∙ sym starts ∙ sym long;
      fits = λ passed. long ∙ starts ∙ (counts_match c.args.scene.now parts (both_first (counts_verdict c.args.scene.now parts.table parts.segments parts.rungs) _ (sym c.head_verdict-head.ensures ∙ passed))).rungs;
    }

pub loop-segment-init : goal.loop-segment-init
loop-segment-init c =
    let g = c.args.scene.now in
    let parts = certificate_parts c.args.cert.now in
    stands_first g parts c.head_verdict-head.result c.layer.result.now c.found_first-found.result c.requires.head.starts.0 c.layer.ensures.own
    (c.head_verdict-head.ensures ∙ ap (λ p. both (counts_verdict g parts.table parts.segments parts.rungs) (plan_verdict parts.segments parts.rungs p)) c.deref.ensures.value)
    (c.found_first-found.ensures.ranges ∙ ap (λ s. both c.head_verdict-head.result (starts_verdict (length s) s (chains_by_rung c.layer.result.now))) c.deref-2.ensures.value)
    (λ passed. c.found_first-found.ensures.claims passed ∙ ap (λ s. starts_held g (length s) s (chains_by_rung c.layer.result.now)) c.deref-2.ensures.value)

pub found_more-found-requires : goal.found_more-found-requires
found_more-found-requires c =
    let parts = certificate_parts c.args.cert.now in
    let i = c.loop-segment.segment in
    let low = c.loop-segment-test.true in
    let inside : i + 1 < parts.segments = omega (arith, low) in
    let few = c.requires.head.rungs.1 in
    let next = c.layer-next.ensures.own.count in
    record {
      form = subst (λ p. IsLayer p c.layer-here.result.now) (per_inside parts.segments parts.rungs i inside ∙ sym next) c.layer-here.ensures.form;
      next = omega (arith, few, next);
      fits = are_both c.args.scene.now parts i c.layer-here.result.now c.layer-next.result.now c.loop-segment.found inside c.layer-here.ensures.own c.layer-next.ensures.own c.loop-segment.invariant;
    }

pub loop-segment-preserved : goal.loop-segment-preserved
loop-segment-preserved c =
    let parts = certificate_parts c.args.cert.now in
    let i = c.loop-segment.segment in
    let low = c.loop-segment-test.true in
    let inside : i + 1 < parts.segments = omega (arith, low) in
    stands_more c.args.scene.now parts i c.layer-here.result.now c.layer-next.result.now c.loop-segment.found c.found_more-found.result inside c.layer-here.ensures.own c.layer-next.ensures.own c.loop-segment.invariant
    c.found_more-found.ensures.ranges c.found_more-found.ensures.claims

pub final_verdict-requires : goal.final_verdict-requires
final_verdict-requires c =
    let g = c.args.scene.now in
    let parts = certificate_parts c.args.cert.now in
    let some = c.requires.head.segments.0 in
    let past = c.loop-segment-test.false in
    let most = c.loop-segment.auto.segment-end in
    let last : c.loop-segment.segment ≡ parts.segments - 1 = omega (arith, past, most) in
    let end : parts.segments - 1 + 1 ≡ parts.segments = omega (arith, some) in
    let stands = subst (λ n. HasFound g parts n c.loop-segment.found) last c.loop-segment.invariant in
    record {
      form = subst (λ p. IsLayer p c.layer-2.result.now) (per_last parts.segments parts.rungs (parts.segments - 1) end) c.layer-2.ensures.form;
      fits = λ passed. subst (MayEnd g (parts.segments - 1) c.layer-2.result.now) (sym c.deref-3.ensures.value)
          (may_end g parts (parts.segments - 1) c.layer-2.result.now c.loop-segment.found end c.requires.head.plan.0 c.layer-2.ensures.own stands passed);
    }

pub returns : goal.returns
returns c =
    let g = c.args.scene.now in
    let parts = certificate_parts c.args.cert.now in
    let some = c.requires.head.segments.0 in
    let past = c.loop-segment-test.false in
    let most = c.loop-segment.auto.segment-end in
    let last : c.loop-segment.segment ≡ parts.segments - 1 = omega (arith, past, most) in
    let end : parts.segments - 1 + 1 ≡ parts.segments = omega (arith, some) in
    let stands = subst (λ n. HasFound g parts n c.loop-segment.found) last c.loop-segment.invariant in
    let value = c.args.cert.now.score in
    let fits : SFits w128 value = search rules in
    let bound = to_z-of_z w128 c.args.bound c.ranges.bound in
    let last_layer = c.layer-2.result.now in
    let found = c.loop-segment.found in
    let n = parts.segments - 1 in
    stands_last g parts c.args.bound n last_layer found c.final_verdict.result end c.layer-2.ensures.own stands
    (c.final_verdict.ensures
    ∙ ap (λ b. both (both found.ranges (ranges_verdict 0 (length last_layer) n (chains_by_rung last_layer) (chains_by_rung []))) (both found.claims (both (ends_verdict g b (length last_layer) n (chains_by_rung last_layer)) (score_verdict g c.deref-3.result.now (to_z w128 (of_z w128 value)))))) bound
    ∙ ap₂ (λ p z. both (both found.ranges (ranges_verdict 0 (length last_layer) n (chains_by_rung last_layer) (chains_by_rung []))) (both found.claims (both (ends_verdict g c.args.bound (length last_layer) n (chains_by_rung last_layer)) (score_verdict g p z)))) c.deref-3.ensures.value (to_z-of_z w128 value fits))
