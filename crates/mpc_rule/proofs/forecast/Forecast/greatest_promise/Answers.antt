use Rattle.std.proofs.Common.{◌+◌, ℕ, arith}
use Rattle.std.specs.Prelude.{◌≤ℤ◌}
use Rattle.std.proofs.lemmas.Int.{clamps, ints}
use borrow.Author.Count.{below_more}
use Rattle.mpc_rule.specs.Relaxations.{promise_of}
use Rattle.mpc_rule.proofs.forecast.Forecast.greatest_promise.Goals as goal

pub loop-rung-preserved : goal.loop-rung-preserved
loop-rung-preserved c =
    let o = c.args.self.now in let segment = o.context.next + c.args.count in
    let value = c.max-most.ensures.value in let promise = c.promise.ensures.value in
    let own = c.max-most.ensures.self_bound in let other = c.max-most.ensures.other_bound in
    record {
      most = λ rung low.
          let most = below_more (λ (r : ℕ). promise_of o c.args.price segment r ≤ℤ c.max-most.result) c.loop-rung.rung
          (λ r less. let before = c.loop-rung.invariant.most r less in omega (arith, ints, before, own)) (omega (arith, ints, promise, other)) rung low in
          omega (arith, ints, most);
      limits = record { least = omega (arith, ints, own); most = omega (arith, ints, clamps, value) };
    }
