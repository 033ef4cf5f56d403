use Rattle.std.proofs.Common.{◌≡◌, ◌∙◌, ◌+◌, ◌-◌, ◌<◌, ◌≤◌, ⊎_elim, get_or, ap, sym, arith}
use Rattle.std.proofs.lemmas.Bool.{cases_lt}
use Rattle.std.proofs.lemmas.List.{get_or_default}
use Rattle.frontier_planner.specs.Parents.{no_candidate}
use Rattle.frontier_planner.proofs.grow.are_in_order.Goals as goal

pub loop-place-preserved : goal.loop-place-preserved
loop-place-preserved c =
    let cs = c.args.candidates.now in
    let place = c.loop-place.place in
    let low = c.loop-place-test.true in
    λ k d start high.
    ⊎_elim (λ (before : k + 1 < place). c.loop-place.invariant k d start before)
    (λ (last : place ≤ k + 1).
    let here : get_or cs (k + 1) d ≡ get_or cs place no_candidate = ap (λ n. get_or cs n d) (omega (arith, high, last)) ∙ get_or_default cs place d no_candidate low in
    let there : get_or cs k d ≡ get_or cs (place - 1) no_candidate = ap (λ n. get_or cs n d) (omega (arith, high, last)) ∙ get_or_default cs (place - 1) d no_candidate (omega (arith, low)) in
    rw (here, there) (sym c.comes_before.ensures ∙ c.if-comes_before.false)) (cases_lt (k + 1) place)

pub returns : goal.returns
returns c = let late = c.loop-place-test.false in λ t k d start high. c.loop-place.invariant k d start (omega (arith, late, high))
