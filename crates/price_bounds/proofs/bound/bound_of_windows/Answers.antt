use Rattle.std.proofs.Common.{◌≡◌, ◌∙◌, ◌^◌, ℕ, List, [], ap, sym, subst, arith, rules}
use Rattle.std.specs.Prelude.{ℤ, pos, ◌-ℤ◌, ◌<ℤ◌, ◌≤ℤ◌}
use Rattle.std.proofs.lemmas.Int.{to_z-of_z}
use Rattle.std.specs.Int.{int_max, w128}
use mir.Val.{of_z, to_z}
use Rattle.lab_model.specs.Film.{rungs_of, segments_of}
use Rattle.lab_model.specs.Number.{IsNear}
use Rattle.labels.specs.Form.{score_digits}
use Rattle.price_bounds.specs.Bound.{bound_on, rounded_up}
use Rattle.price_bounds.specs.Tables.{most_bound, most_plain_bound}
use Rattle.price_bounds.proofs.BoundParts.{bound_holds, bound_of_is, max_keeps}
use Rattle.price_bounds.proofs.ListSteps.{below_first, below_more}
use Rattle.price_bounds.proofs.Short.{bound_low, plain_short}
use Rattle.price_bounds.proofs.bound.bound_of_windows.Goals as goal

pub loop-rung-init : goal.loop-rung-init
loop-rung-init c =
    let best = c.in_ok-best.best in
    let own : to_z w128 (of_z w128 best) ≡ best = to_z-of_z w128 best (search rules) in
    record {
      best = below_first (bound_on c.args.scene.now c.args.windows.now) (to_z w128 (of_z w128 best)) (own ∙ c.in_ok-best.ensures.value);
      near = subst (IsNear most_bound) (sym own) c.in_ok-best.ensures.near;
      plain = λ none. subst (λ (z : ℤ). z ≤ℤ pos most_plain_bound) (sym own) (c.in_ok-best.ensures.plain none);
    }

pub loop-rung-preserved : goal.loop-rung-preserved
loop-rung-preserved c =
    let g = c.args.scene.now in
    let ws = c.args.windows.now in
    let best = to_z w128 c.loop-rung.best-bits in
    let next = c.in_ok-next.next in
    let top = to_z w128 (of_z w128 c.max-best.result) in
    let own : to_z w128 (of_z w128 next) ≡ next = to_z-of_z w128 next (search rules) in
    let most : top ≡ c.max-best.result = to_z-of_z w128 c.max-best.result (search rules) in
    let up : top ≡ int_max best next = most ∙ c.max-best.ensures.value ∙ ap (int_max best) own in
    record {
      best = below_more (bound_on g ws) c.loop-rung.rung best top (up ∙ ap (int_max best) c.in_ok-next.ensures.value) c.loop-rung.invariant.best;
      near = max_keeps (IsNear most_bound) best next top up c.loop-rung.invariant.near c.in_ok-next.ensures.near;
      plain = λ none. max_keeps (λ z. z ≤ℤ pos most_plain_bound) best next top up (c.loop-rung.invariant.plain none) (c.in_ok-next.ensures.plain none);
    }

pub returns-clause-value : goal.returns-clause-value
returns-clause-value c =
    let g = c.args.scene.now in
    let count = c.rungs-count.ensures.value in
    let some = c.rungs-count.ensures.task.film.rungs.0 in
    let end = c.loop-rung.auto.rung-end (omega (arith, count, some)) in
    let all : c.loop-rung.rung ≡ rungs_of g.film = omega (arith, count, end) in
    to_z-of_z w128 c.round_up.result (search rules)
    ∙ bound_of_is g c.args.windows.now c.loop-rung.rung (to_z w128 c.loop-rung.best-bits) c.round_up.result all c.loop-rung.invariant.best c.round_up.ensures

pub returns-clause-bounds : goal.returns-clause-bounds
returns-clause-bounds c =
    let bound = to_z w128 (of_z w128 c.round_up.result) in
    λ rungs fits. bound_holds c.args.scene.now c.args.windows.now c.rungs-count.ensures.task c.requires bound (returns-clause-value c) rungs fits

pub returns-clause-low : goal.returns-clause-low
returns-clause-low c =
    subst (λ (b : ℤ). (pos 0 -ℤ pos (10 ^ score_digits)) <ℤ b) (sym (returns-clause-value c)) (bound_low c.args.scene.now c.rungs-count.ensures.task c.args.windows.now c.requires.windows)

pub returns-clause-plain : goal.returns-clause-plain
returns-clause-plain c =
    let best = to_z w128 c.loop-rung.best-bits in
    let own : to_z w128 (of_z w128 c.round_up.result) ≡ rounded_up best = to_z-of_z w128 c.round_up.result (search rules) ∙ c.round_up.ensures in
    λ none. subst (λ (b : ℤ). b <ℤ pos (10 ^ score_digits)) (sym own) (plain_short best (c.loop-rung.invariant.plain none))
