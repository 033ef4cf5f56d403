use Rattle.std.proofs.Common.{ℕ, ◌*◌, ◌≤◌, arith, mul-le-mul_left, subst, sym}
use Rattle.std.specs.Prelude.{Some}
use Rattle.std.proofs.Math.Nat.{mul-le-mul}
use Rattle.lab_model.specs.Weighing.{Weighing, change_of, utility_of}
use Rattle.frontier_planner.proofs.thin.dearest_change.Goals as goal

-- a change between utilities that aren't above a number costs no more than a change by it
change_below : (w : Weighing) (i q r top : ℕ) → utility_of w i q ≤ top → utility_of w i r ≤ top → w.switch * change_of w i (Some q) r ≤ w.switch * top
change_below w i q r top one two = mul-le-mul_left w.switch (omega (arith, one, two))

pub returns-clause-most : goal.returns-clause-most
returns-clause-most c = λ q r before rung.
    let w = c.weights-weights.result.now in
    let all = c.rungs-rung-end.ensures.value in
    let end = c.loop-rung-test.false in
    let most = c.loop-rung.invariant.most in
    subst (λ (x : Weighing). x.switch * change_of x c.args.segment (Some q) r ≤ c.switch.result * c.loop-rung.top) c.weights-weights.ensures.value
    (subst (λ n. w.switch * change_of w c.args.segment (Some q) r ≤ n * c.loop-rung.top) (sym c.switch.ensures.value)
    (change_below w c.args.segment q r c.loop-rung.top (most q (omega (arith, all, end, before))) (most r (omega (arith, all, end, rung)))))

pub returns-clause-limit : goal.returns-clause-limit
returns-clause-limit c = subst (λ n. n * c.loop-rung.top ≤ 1000000000000) (sym c.switch.ensures.value) (mul-le-mul c.switch.ensures.weighing.weights.switch_fits c.loop-rung.invariant.limit)
