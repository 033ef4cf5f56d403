use Rattle.std.proofs.Common.{◌≡◌, ◌+◌, ◌-◌, ◌*◌, ap, arith}
use Rattle.std.proofs.lemmas.Int.{ints}
use Rattle.mpc_rule.specs.declared.outlook.Foretold.{Foretold}
use Rattle.lab_model.specs.Weighing.{utility_of}
use Rattle.mpc_rule.specs.Lookahead.{room_of, weights_of}
use Rattle.mpc_rule.specs.Search.{wait_at}
use Rattle.mpc_rule.proofs.Drafts.{promise_most}
use Rattle.mpc_rule.proofs.forecast.Forecast.promise.Goals as goal

pub overflow_sub-result : goal.overflow_sub-result
overflow_sub-result c =
    let most = promise_most c.args.price c.stall_weight.result c.foretold-told.result.wait c.saturating_sub-stall.result (omega arith) (omega arith) (omega arith) (omega arith) in
    omega (arith, ints, most)

pub returns-clause-value : goal.returns-clause-value
returns-clause-value c =
    let o = c.args.self.now in let p = c.args.price in let segment = o.context.next + c.args.count in
    let wait : c.foretold-told.result.wait ≡ wait_at o segment c.args.rung = ap (λ (t : Foretold). t.wait) c.foretold-told.ensures.value in
    let utility : c.foretold-told.result.utility ≡ utility_of (weights_of o) segment c.args.rung = ap (λ (t : Foretold). t.utility) c.foretold-told.ensures.value in
    let over : c.saturating_sub-stall.result ≡ wait_at o segment c.args.rung - room_of o = omega (arith, wait) in
    let lost : p * c.foretold-told.result.wait + (c.stall_weight.result - p) * c.saturating_sub-stall.result
    ≡ p * wait_at o segment c.args.rung + ((weights_of o).stall - p) * (wait_at o segment c.args.rung - room_of o) =
    λ i. p * wait i + (c.stall_weight.ensures.value i - p) * over i in
    let most = promise_most p c.stall_weight.result c.foretold-told.result.wait c.saturating_sub-stall.result (omega arith) (omega arith) (omega arith) (omega arith) in
    omega (arith, ints, most, lost, utility)

pub returns-clause-limits : goal.returns-clause-limits
returns-clause-limits c =
    let most = promise_most c.args.price c.stall_weight.result c.foretold-told.result.wait c.saturating_sub-stall.result (omega arith) (omega arith) (omega arith) (omega arith) in
    record { least = omega (arith, ints, most); most = omega (arith, ints, most) }
