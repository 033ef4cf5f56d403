use Rattle.std.proofs.Common.{◌≡◌, ◌∙◌, ℕ, List, [], ap, sym, subst, arith}
use Rattle.std.specs.Prelude.{ℤ, pos, ◌≤ℤ◌}
use Rattle.std.proofs.lemmas.Int.{ints}
use Rattle.lab_model.specs.declared.label.Label.{Label}
use Rattle.price_bounds.specs.declared.window.Window.{Window}
use Rattle.price_bounds.specs.LinkPart.{link_part}
use Rattle.price_bounds.specs.Tables.{most_plain_bound}
use Rattle.price_bounds.proofs.BoundParts.{bound_on_is, first_near}
use Rattle.price_bounds.proofs.Short.{link_none, plain_low}
use Rattle.price_bounds.proofs.bound.bound_on.Goals as goal

pub start_worth-start-requires-clause-first : goal.start_worth-start-requires-clause-first
start_worth-start-requires-clause-first c =
    let near = first_near c.args.scene.now c.start_on-first.ensures.task c.args.rung c.requires.rung in
    let same = ap (λ (l : Label). l.p) c.start_on-first.ensures.label in
    omega (arith, near, same)

pub link_part-requires-clause-first : goal.link_part-requires-clause-first
link_part-requires-clause-first c =
    let near = first_near c.args.scene.now c.start_on-first.ensures.task c.args.rung c.requires.rung in
    let same = ap (λ (l : Label). l.p) c.start_on-first.ensures.label in
    omega (arith, near, same)

pub returns-clause-value : goal.returns-clause-value
returns-clause-value c =
    let g = c.args.scene.now in
    let ws = c.args.windows.now in
    let q = c.args.rung in
    let at = ap (λ (l : Label). l.p) c.start_on-first.ensures.label in
    let e = bound_on_is g ws q c.start_on-first.result.p c.start_worth-start.result c.args.gain c.in_ok-link.link at c.start_worth-start.ensures.value c.requires.gain c.in_ok-link.ensures.value in
    omega (arith, ints, e)

pub returns-clause-plain : goal.returns-clause-plain
returns-clause-plain c = λ none.
    let none_worth = subst (λ (ws : List Window). link_part c.args.scene.now ws c.start_on-first.result.p ≤ℤ pos 0) (sym none) (link_none c.args.scene.now c.start_on-first.result.p) in
    let link : c.in_ok-link.link ≤ℤ pos 0 = subst (λ (z : ℤ). z ≤ℤ pos 0) (sym c.in_ok-link.ensures.value) none_worth in
    let low = plain_low c.start_worth-start.result c.args.gain c.in_ok-link.link c.start_worth-start.ensures.near c.requires.near link in
    omega (arith, ints, low)
