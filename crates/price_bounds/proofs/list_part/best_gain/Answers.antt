use mir.Val.{SFits, of_z, to_z}
use Rattle.std.proofs.Common.{◌≡◌, ◌∙◌, ◌<◌, ap, sym, subst, arith, rules}
use Rattle.std.specs.Int.{int_max, w128}
use Rattle.std.specs.Prelude.{pos, ◌+ℤ◌, slice_index_or}
use Rattle.std.proofs.lemmas.Int.{ints}
use Rattle.std.proofs.lemmas.List.Elements.{All-get_or}
use Rattle.lab_model.specs.Film.{rungs_of}
use Rattle.lab_model.specs.Number.{IsNear}
use Rattle.price_bounds.specs.Tables.{IsBestBelow, most_list_worth, rung_gain}
use Rattle.price_bounds.proofs.ListSteps.{below_first, below_more, below_top}
use Rattle.price_bounds.proofs.ListTable.{gain_near}
use Rattle.price_bounds.proofs.list_part.best_gain.Goals as goal

pub overflow_add-best : goal.overflow_add-best
overflow_add-best c =
    let g = c.args.scene.now in
    let is = c.rungs-count.ensures.task in
    let some : 0 < rungs_of g.film = omega (arith, is.film.rungs.0) in
    let count = c.requires.count in
    let near = gain_near g is c.args.price c.args.segment c.args.before 0 c.requires.segment c.requires.before some c.requires.price in
    let behind = All-get_or (IsNear most_list_worth) c.args.behind.now 0 (pos 0) (omega (arith, count, some)) c.requires.near in
    let low = near.low in let high = near.high in let below = behind.low in let above = behind.high in
    omega (arith, ints, low, high, below, above)

pub loop-rung-init : goal.loop-rung-init
loop-rung-init c =
    let g = c.args.scene.now in
    let is = c.rungs-count.ensures.task in
    let some : 0 < rungs_of g.film = omega (arith, is.film.rungs.0) in
    let count = c.requires.count in
    let near = gain_near g is c.args.price c.args.segment c.args.before 0 c.requires.segment c.requires.before some c.requires.price in
    let behind = All-get_or (IsNear most_list_worth) c.args.behind.now 0 (pos 0) (omega (arith, count, some)) c.requires.near in
    let low = near.low in let high = near.high in let below = behind.low in let above = behind.high in
    below_first (λ r. rung_gain g c.args.price c.args.segment c.args.before r +ℤ slice_index_or c.args.behind.now r (pos 0)) _ (omega (arith, ints, low, high, below, above))

pub overflow_add-gain : goal.overflow_add-gain
overflow_add-gain c =
    let g = c.args.scene.now in
    let is = c.rungs-count.ensures.task in
    let r = c.loop-rung.rung in
    let value = c.rungs-count.ensures.value in
    let inside : r < rungs_of g.film = omega (arith, value) in
    let count = c.requires.count in
    let near = gain_near g is c.args.price c.args.segment c.args.before r c.requires.segment c.requires.before inside c.requires.price in
    let behind = All-get_or (IsNear most_list_worth) c.args.behind.now r (pos 0) (omega (arith, count, inside)) c.requires.near in
    let low = near.low in let high = near.high in let below = behind.low in let above = behind.high in
    omega (arith, ints, low, high, below, above)

pub loop-rung-preserved : goal.loop-rung-preserved
loop-rung-preserved c =
    let g = c.args.scene.now in
    let is = c.rungs-count.ensures.task in
    let r = c.loop-rung.rung in
    let old = slice_index_or c.args.behind.now r (pos 0) in
    let own = c.rung_gain-in-loop-rung.result in
    let value = c.rungs-count.ensures.value in
    let inside : r < rungs_of g.film = omega (arith, value) in
    let count = c.requires.count in
    let near = gain_near g is c.args.price c.args.segment c.args.before r c.requires.segment c.requires.before inside c.requires.price in
    let behind = All-get_or (IsNear most_list_worth) c.args.behind.now r (pos 0) (omega (arith, count, inside)) c.requires.near in
    let low = near.low in let high = near.high in let below = behind.low in let above = behind.high in
    let fits : SFits w128 c.max-best.result = search rules in
    let top : to_z w128 (of_z w128 c.max-best.result) ≡ int_max (to_z w128 c.loop-rung.best-bits) (to_z w128 (of_z w128 (to_z w128 (of_z w128 own) +ℤ to_z w128 (of_z w128 old)))) = omega (arith, ints, fits) in
    let gain : to_z w128 (of_z w128 (to_z w128 (of_z w128 own) +ℤ to_z w128 (of_z w128 old))) ≡ rung_gain g c.args.price c.args.segment c.args.before r +ℤ old = omega (arith, ints, low, high, below, above) in
    below_more (λ q. rung_gain g c.args.price c.args.segment c.args.before q +ℤ slice_index_or c.args.behind.now q (pos 0)) r (to_z w128 c.loop-rung.best-bits) _
    (top ∙ ap (int_max (to_z w128 c.loop-rung.best-bits)) gain) c.loop-rung.invariant

pub returns : goal.returns
returns c =
    let g = c.args.scene.now in
    let value = c.rungs-count.ensures.value in
    let some = c.rungs-count.ensures.task.film.rungs.0 in
    let all : c.loop-rung.rung ≡ rungs_of g.film = omega (arith, value, some) in
    let last = subst (λ n. IsBestBelow n (λ r. rung_gain g c.args.price c.args.segment c.args.before r +ℤ slice_index_or c.args.behind.now r (pos 0)) (to_z w128 c.loop-rung.best-bits)) all c.loop-rung.invariant in
    below_top (λ r. rung_gain g c.args.price c.args.segment c.args.before r +ℤ slice_index_or c.args.behind.now r (pos 0)) g c.args.before (to_z w128 c.loop-rung.best-bits) last
