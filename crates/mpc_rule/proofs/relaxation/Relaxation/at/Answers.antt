use Rattle.std.proofs.Common.{◌≡◌, ◌∙◌, ◌+◌, ◌-◌, ◌*◌, ◌<◌, ℕ, length, length-set, refl, ap, subst, arith}
use Rattle.std.specs.Prelude.{ℤ, ◌≤ℤ◌}
use Rattle.std.proofs.lemmas.Int.{ints}
use Rattle.mpc_rule.specs.Relaxations.{IsMostToCome, promise_of}
use Rattle.mpc_rule.proofs.Places.{filled_more}
use Rattle.mpc_rule.proofs.Prospects.{most_last, most_more, price_most}
use Rattle.mpc_rule.proofs.relaxation.Relaxation.at.Goals as goal

pub loop-n-init : goal.loop-n-init
loop-n-init c =
    let o = c.args.forecast.now in let m = c.greatest_promise-sum.result in
    let last : c.span-span.result - 1 ≡ o.span - 1 = omega arith in
    let sum = most_last o c.args.price (o.span - 1) m _ c.requires
    (λ r low. subst (λ (k : ℕ). promise_of o c.args.price (o.context.next + k) r ≤ℤ m) last (c.greatest_promise-sum.ensures.most r low)) c.greatest_promise-sum.ensures.limits
    (omega (arith, ints)) in
    record { places = refl; sum = sum; most = λ k z low. let first : k ≡ 0 = omega (arith, low) in rw first sum }

pub overflow_add-sum : goal.overflow_add-sum
overflow_add-sum c =
    let load = price_most c.args.price c.seg_ms.result 60000 (omega arith) (omega arith) in
    omega (arith, ints, load)

pub overflow_add-sum-in-loop-n : goal.overflow_add-sum-in-loop-n
overflow_add-sum-in-loop-n c =
    let load = price_most c.args.price c.seg_ms.result 60000 (omega arith) (omega arith) in
    omega (arith, ints, load)

pub loop-n-preserved : goal.loop-n-preserved
loop-n-preserved c =
    let o = c.args.forecast.now in let p = c.args.price in let n = c.loop-n.n in
    let load = price_most p c.seg_ms.result 60000 (omega arith) (omega arith) in
    let media : p * c.seg_ms.result ≡ p * o.film.seg_ms = ap (λ (s : ℕ). p * s) c.seg_ms.ensures.value in
    let place : c.span-span.result - 1 - n ≡ o.span - (n + 1) = omega arith in
    let before : o.span - n ≡ o.span - (n + 1) + 1 = omega arith in
    let room : n < length c.loop-n.sums = omega arith in
    let m = c.greatest_promise.result in
    let sum = most_more o p n (o.span - (n + 1)) m c.loop-n.sum _ c.requires (omega arith) (omega arith)
    (λ r low. subst (λ (k : ℕ). promise_of o p (o.context.next + k) r ≤ℤ m) place (c.greatest_promise.ensures.most r low)) c.greatest_promise.ensures.limits
    (subst (λ (k : ℕ). IsMostToCome o p n k c.loop-n.sum) before (subst (IsMostToCome o p n (o.span - n)) c.loop-n.sum-is c.loop-n.invariant.sum)) (omega (arith, ints, load, media)) in
    record {
      places = length-set c.loop-n.sums n _ ∙ c.loop-n.invariant.places;
      sum = sum;
      most = filled_more (λ (k : ℕ) (z : ℤ). IsMostToCome o p (k + 1) (o.span - (k + 1)) z) c.loop-n.sums n _ room c.loop-n.invariant.most sum;
    }
