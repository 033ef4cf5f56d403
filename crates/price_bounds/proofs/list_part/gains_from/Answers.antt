use mir.Val.{SFits}
use Rattle.std.proofs.Common.{◌≡◌, ◌∙◌, suc, ◌+◌, ◌-◌, ◌<◌, [], ◌∷◌, ◌++◌, sym, subst, arith, rules}
use Rattle.std.specs.Int.{w128}
use Rattle.std.specs.Prelude.{ℤ, pos, ◌+ℤ◌, slice_index_or}
use Rattle.std.proofs.lemmas.Int.{to_z-of_z}
use Rattle.lab_model.specs.Film.{rungs_of, segments_of}
use Rattle.price_bounds.specs.Steps.{IsMost, IsTop}
use Rattle.price_bounds.specs.Tables.{IsTableTo, rung_gain, rung_gains, rung_moves}
use Rattle.price_bounds.proofs.ListSteps.{table_all, table_first, table_more}
use Rattle.price_bounds.proofs.ListTable.{table_near}
use Rattle.price_bounds.proofs.PriceSums.{are_cheap, each_price}
use Rattle.price_bounds.proofs.Steps.{most_next}
use Rattle.price_bounds.proofs.list_part.gains_from.Goals as goal

pub price_of-price-requires : goal.price_of-price-requires
price_of-price-requires c = are_cheap (segments_of c.args.scene.now.film) c.args.windows.now c.requires.windows

pub loop-before-init : goal.loop-before-init
loop-before-init c =
    let g = c.args.scene.now in
    let ws = c.args.windows.now in
    let n = segments_of g.film - c.args.segment in
    subst (IsTableTo (rung_moves g) (rung_gains g ws) n c.args.segment 0) (sym c.new-gains.ensures.items) (table_first (rung_moves g) (rung_gains g ws) n c.args.segment)

pub best_gain-requires-clause-count : goal.best_gain-requires-clause-count
best_gain-requires-clause-count c = c.requires.behind.count

pub best_gain-requires-clause-near : goal.best_gain-requires-clause-near
best_gain-requires-clause-near c =
    let g = c.args.scene.now in
    let n = segments_of g.film in
    let inside = c.requires.segment.1 in
    table_near g c.rungs-count.ensures.task c.args.windows.now (each_price n c.args.windows.now c.requires.windows) (n - (c.args.segment + 1)) (c.args.segment + 1) c.args.behind.now (omega (arith, inside)) c.requires.behind

pub loop-before-preserved : goal.loop-before-preserved
loop-before-preserved c =
    let g = c.args.scene.now in
    let ws = c.args.windows.now in
    let n = segments_of g.film in
    let i = c.args.segment in
    let before = c.loop-before.before in
    let inside = c.requires.segment.1 in
    let value = c.best_gain.result in
    let steps : suc (n - (i + 1)) ≡ n - i = omega (arith, inside) in
    let top = subst (λ p. IsTop (rung_moves g) before (λ r. rung_gain g p i before r +ℤ slice_index_or c.args.behind.now r (pos 0)) value) c.price_of-price.ensures.value c.best_gain.ensures in
    let most = subst (λ k. IsMost (rung_moves g) (rung_gains g ws) k i before value) steps
    (most_next (rung_moves g) (rung_gains g ws) (n - (i + 1)) i before (λ r. slice_index_or c.args.behind.now r (pos 0)) value c.requires.behind.each top) in
    let fits : SFits w128 value = search rules in
    subst (IsTableTo (rung_moves g) (rung_gains g ws) (n - i) i (before + 1)) (sym c.in_ok-push.ensures.items)
    (subst (λ (v : ℤ). IsTableTo (rung_moves g) (rung_gains g ws) (n - i) i (before + 1) (c.loop-before.gains.items ++ v ∷ [])) (sym (to_z-of_z w128 value fits))
    (table_more (rung_moves g) (rung_gains g ws) (n - i) i before c.loop-before.gains.items value c.loop-before.invariant most))

pub returns : goal.returns
returns c =
    let g = c.args.scene.now in
    let value = c.rungs-count.ensures.value in
    let all : c.loop-before.before ≡ rungs_of g.film = omega (arith, value) in
    table_all (rung_moves g) (rung_gains g c.args.windows.now) (segments_of g.film - c.args.segment) c.args.segment c.loop-before.before c.loop-before.gains.items all c.loop-before.invariant
