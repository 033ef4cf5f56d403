use Rattle.std.proofs.Common.{◌≡◌, ◌∙◌, ℕ, ℤ, List, [], ◌-◌, ◌≤◌, length, refl, sym, ap, ap₂, subst, arith, rules}
use mir.Val.{SFits}
use Rattle.std.specs.Int.{w128}
use Rattle.std.proofs.lemmas.Int.{to_z-of_z}
use Rattle.labels.specs.declared.plans.Chain.{Chain}
use Rattle.lab_model.proofs.Refusals.{gives_error}
use Rattle.certificate_check.specs.Scheme.{both}
use Rattle.certificate_check.specs.Clauses.{counts_verdict, ends_verdict, chains_by_rung, names_verdict, plan_verdict, ranges_verdict, score_verdict, starts_held, starts_verdict}
use Rattle.certificate_check.proofs.ByLayer.{end_fits, fault_first, fault_said, first_read, head_read, more_fits, stands_begun, stands_on, still_inside, verdict_said}
use Rattle.certificate_check.proofs.Scheme.{both_first}
use Rattle.certificate_check.proofs.Verdicts.{counts_match}
use Rattle.certificate_check.proofs.by_layer.verdict_on.Goals as goal

pub head_verdict-head-requires : goal.head_verdict-head-requires
head_verdict-head-requires c =
    let form = (head_read c.args.lines c.requires).form in
    let long = form.plan.0 in
    let most = form.segments.1 in
    (ap length c.plan.ensures ∙ long ∙ sym c.segments.ensures, subst (λ n. n ≤ 2000) (sym c.segments.ensures) most)

pub next_layer-requires : goal.next_layer-requires
next_layer-requires c =
    let known = head_read c.args.lines c.requires in
    let some = known.form.segments.0 in
    let none = known.segment in
    omega (arith, some, none)

pub returns-in_err-here : goal.returns-in_err-here
returns-in_err-here c =
    gives_error _ c.from_residual.result c.in_err-here.field-0.0 _ c.from_residual.ensures.1 (fault_first _ c.args.bound c.args.lines c.in_err-here.field-0.0 c.requires c.in_err-here.ensures)

pub found_first-found-requires-clause-rungs : goal.found_first-found-requires-clause-rungs
found_first-found-requires-clause-rungs c =
    let known = head_read c.args.lines c.requires in
    let few = known.form.rungs.1 in
    let long = known.form.starts.0 in
    let r = first_read c.args.lines c.next_layer.new.lines c.in_ok-here.here.chains.items c.requires c.in_ok-here.ensures in
    subst (λ xs. length xs ≤ 16) (sym (c.starts.ensures ∙ ap (λ h. h.starts) r.head)) (omega (arith, few, long))

pub found_first-found-requires-clause-chains : goal.found_first-found-requires-clause-chains
found_first-found-requires-clause-chains c =
    let known = head_read c.args.lines c.requires in
    let r = first_read c.args.lines c.next_layer.new.lines c.in_ok-here.here.chains.items c.requires c.in_ok-here.ensures in
    ap length c.deref.ensures.value ∙ r.long ∙ sym known.form.starts.0 ∙ sym (ap length (c.starts.ensures ∙ ap (λ h. h.starts) r.head))

pub found_first-found-requires-clause-fits : goal.found_first-found-requires-clause-fits
found_first-found-requires-clause-fits c = λ passed.
    let h = c.args.lines.head in
    let known = head_read c.args.lines c.requires in
    let r = first_read c.args.lines c.next_layer.new.lines c.in_ok-here.here.chains.items c.requires c.in_ok-here.ensures in
    let said = c.head_verdict-head.ensures ∙ rw (c.table.ensures, c.segments.ensures, c.rungs.ensures, c.plan.ensures) refl in
    ap length (c.starts.ensures ∙ ap (λ x. x.starts) r.head) ∙ known.form.starts.0
    ∙ (counts_match c.args.scene.now h (both_first (counts_verdict c.args.scene.now h.table h.segments h.rungs) (plan_verdict h.segments h.rungs h.plan) (sym said ∙ passed))).rungs

pub loop-segment-init : goal.loop-segment-init
loop-segment-init c =
    let h = c.args.lines.head in
    let g = c.args.scene.now in
    let head = c.head_verdict-head.result in
    let r = first_read c.args.lines c.next_layer.new.lines c.in_ok-here.here.chains.items c.requires c.in_ok-here.ensures in
    let starts = c.starts.ensures ∙ ap (λ x. x.starts) r.head in
    stands_begun g c.args.lines c.next_layer.new.lines head c.in_ok-here.here.chains.items c.found_first-found.result c.requires c.in_ok-here.ensures
    (c.head_verdict-head.ensures ∙ rw (c.table.ensures, c.segments.ensures, c.rungs.ensures, c.plan.ensures) refl)
    (c.found_first-found.ensures.ranges ∙ ap₂ (λ s x. both head (starts_verdict (length s) s (chains_by_rung x))) starts c.deref.ensures.value)
    (λ passed. c.found_first-found.ensures.claims passed ∙ ap₂ (λ s x. starts_held g (length s) s (chains_by_rung x)) starts c.deref.ensures.value)

pub returns-in_err-next : goal.returns-in_err-next
returns-in_err-next c =
    let s = c.loop-segment.invariant in
    let low = c.loop-segment-test.true in
    let all = c.segments-last.ensures in
    gives_error _ c.from_residual-in_err-next.result c.in_err-next.field-0.0 _ c.from_residual-in_err-next.ensures.1
    (fault_said _ c.args.bound c.args.lines c.loop-segment.lines _ c.in_err-next.field-0.0
    (still_inside c.args.scene.now c.args.lines c.loop-segment.lines c.loop-segment.segment c.loop-segment.here.chains.items c.loop-segment.found (omega (arith, low, all)) s) s.rest c.in_err-next.ensures)

pub found_more-found-requires-clause-form : goal.found_more-found-requires-clause-form
found_more-found-requires-clause-form c =
    let low = c.loop-segment-test.true in
    let all = c.segments-last.ensures in
    let fit = more_fits c.args.scene.now c.args.lines c.loop-segment.lines c.next_layer-in-loop-segment.new.lines c.loop-segment.segment c.loop-segment.here.chains.items c.in_ok-next.next.chains.items c.loop-segment.found c.requires (omega (arith, low, all)) c.loop-segment.invariant c.in_ok-next.ensures in
    rw (c.deref-in-loop-segment.ensures.value, c.deref-in-loop-segment-2.ensures.value) fit.form

pub found_more-found-requires-clause-next : goal.found_more-found-requires-clause-next
found_more-found-requires-clause-next c =
    let low = c.loop-segment-test.true in
    let all = c.segments-last.ensures in
    let fit = more_fits c.args.scene.now c.args.lines c.loop-segment.lines c.next_layer-in-loop-segment.new.lines c.loop-segment.segment c.loop-segment.here.chains.items c.in_ok-next.next.chains.items c.loop-segment.found c.requires (omega (arith, low, all)) c.loop-segment.invariant c.in_ok-next.ensures in
    rw c.deref-in-loop-segment-2.ensures.value fit.few

pub found_more-found-requires-clause-fits : goal.found_more-found-requires-clause-fits
found_more-found-requires-clause-fits c =
    let low = c.loop-segment-test.true in
    let all = c.segments-last.ensures in
    let fit = more_fits c.args.scene.now c.args.lines c.loop-segment.lines c.next_layer-in-loop-segment.new.lines c.loop-segment.segment c.loop-segment.here.chains.items c.in_ok-next.next.chains.items c.loop-segment.found c.requires (omega (arith, low, all)) c.loop-segment.invariant c.in_ok-next.ensures in
    rw (c.deref-in-loop-segment.ensures.value, c.deref-in-loop-segment-2.ensures.value) fit.fits

pub loop-segment-preserved : goal.loop-segment-preserved
loop-segment-preserved c =
    let g = c.args.scene.now in
    let i = c.loop-segment.segment in
    let low = c.loop-segment-test.true in
    let all = c.segments-last.ensures in
    let f = c.loop-segment.found in
    stands_on g c.args.lines c.loop-segment.lines c.next_layer-in-loop-segment.new.lines i c.loop-segment.here.chains.items c.in_ok-next.next.chains.items f c.found_more-found.result c.requires (omega (arith, low, all)) c.loop-segment.invariant c.in_ok-next.ensures
    (c.found_more-found.ensures.ranges ∙ ap₂ (λ x y. both f.ranges (ranges_verdict (length y) (length x) i (chains_by_rung x) (chains_by_rung y))) c.deref-in-loop-segment.ensures.value c.deref-in-loop-segment-2.ensures.value)
    (λ passed. c.found_more-found.ensures.claims passed ∙ ap₂ (λ x y. both f.claims (names_verdict g (length y) (length x) i (chains_by_rung x) (chains_by_rung y))) c.deref-in-loop-segment.ensures.value c.deref-in-loop-segment-2.ensures.value)

pub final_verdict-verdict-requires-clause-form : goal.final_verdict-verdict-requires-clause-form
final_verdict-verdict-requires-clause-form c =
    let past = c.loop-segment-test.false in
    let most = c.loop-segment.auto.segment-end in
    let all = c.segments-last.ensures in
    let some = (head_read c.args.lines c.requires).form.segments.0 in
    let fit = end_fits c.args.scene.now c.args.lines c.loop-segment.lines c.loop-segment.segment c.loop-segment.here.chains.items c.loop-segment.found c.requires (omega (arith, past, most, all, some)) c.loop-segment.invariant in
    rw c.deref-2.ensures.value fit.form

pub final_verdict-verdict-requires-clause-fits : goal.final_verdict-verdict-requires-clause-fits
final_verdict-verdict-requires-clause-fits c =
    let past = c.loop-segment-test.false in
    let most = c.loop-segment.auto.segment-end in
    let all = c.segments-last.ensures in
    let some = (head_read c.args.lines c.requires).form.segments.0 in
    let fit = end_fits c.args.scene.now c.args.lines c.loop-segment.lines c.loop-segment.segment c.loop-segment.here.chains.items c.loop-segment.found c.requires (omega (arith, past, most, all, some)) c.loop-segment.invariant in
    let here : c.loop-segment.segment ≡ c.segments-last.result - 1 = omega (arith, past, most) in
    rw (← here, c.deref-2.ensures.value, c.plan-2.ensures, c.loop-segment.invariant.head) fit.fits

pub returns-in_err-next_layer : goal.returns-in_err-next_layer
returns-in_err-next_layer c =
    let past = c.loop-segment-test.false in
    let most = c.loop-segment.auto.segment-end in
    let all = c.segments-last.ensures in
    let some = (head_read c.args.lines c.requires).form.segments.0 in
    let s = c.loop-segment.invariant in
    gives_error _ c.from_residual-in_err-next_layer.result c.in_err-next_layer.field-0.0 _ c.from_residual-in_err-next_layer.ensures.1
    (fault_said _ c.args.bound c.args.lines c.loop-segment.lines _ c.in_err-next_layer.field-0.0
    (still_inside c.args.scene.now c.args.lines c.loop-segment.lines c.loop-segment.segment c.loop-segment.here.chains.items c.loop-segment.found (omega (arith, past, most, all, some)) s) s.rest c.in_err-next_layer.ensures.steps.0)

pub returns : goal.returns
returns c =
    let past = c.loop-segment-test.false in
    let most = c.loop-segment.auto.segment-end in
    let all = c.segments-last.ensures in
    let some = (head_read c.args.lines c.requires).form.segments.0 in
    let here : c.segments-last.result - 1 ≡ c.loop-segment.segment = omega (arith, past, most) in
    let s = c.loop-segment.invariant in
    let f = c.loop-segment.found in
    let body = λ (x : List Chain) (n : ℕ) (p : List ℕ) (z b : ℤ). both (both f.ranges (ranges_verdict 0 (length x) n (chains_by_rung x) (chains_by_rung []))) (both f.claims (both (ends_verdict c.args.scene.now b (length x) n (chains_by_rung x)) (score_verdict c.args.scene.now p z))) in
    let score = c.score-score.result in
    let bound = c.args.bound in
    let fits : SFits w128 score = search rules in
    verdict_said c.args.scene.now bound c.args.lines c.loop-segment.lines c.next_layer-2.new.self c.loop-segment.segment c.loop-segment.here.chains.items c.loop-segment.found c.in_ok-next_layer.field-0 c.final_verdict-verdict.result (omega (arith, past, most, all, some)) s c.in_ok-next_layer.ensures.steps
    (c.final_verdict-verdict.ensures
    ∙ ap₂ (body c.deref-2.result.now (c.segments-last.result - 1) c.plan-2.result.now) (to_z-of_z w128 score fits) (to_z-of_z w128 bound c.ranges.bound)
    ∙ ap₂ (λ x n. body x n c.plan-2.result.now score bound) c.deref-2.ensures.value here
    ∙ ap₂ (λ p z. body c.loop-segment.here.chains.items c.loop-segment.segment p z bound) (c.plan-2.ensures ∙ ap (λ h. h.plan) s.head) (c.score-score.ensures ∙ ap (λ h. h.score) s.head))
