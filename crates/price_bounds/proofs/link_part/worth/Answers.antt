use Rattle.std.proofs.Common.{◌≡◌, ◌∙◌, ◌*◌, ◌≤◌, ap, sym, arith}
use Rattle.network_clock.specs.Flow.{carried_in, flow}
use Rattle.price_bounds.specs.LinkPart.{carried_to}
use Rattle.price_bounds.proofs.LinkTable.{carried_most, priced_most}
use Rattle.price_bounds.proofs.link_part.worth.Goals as goal

pub returns-then-price-eq0-clause-value : goal.returns-then-price-eq0-clause-value
returns-then-price-eq0-clause-value c =
    let none = ap (λ p. p * carried_to c.args.scene.now c.args.instant) c.if-price-eq0.true in
    omega (arith, none)

pub overflow_mul-result : goal.overflow_mul-result
overflow_mul-result c =
    let is = c.carried_before.ensures.value ∙ ap (λ ps. flow carried_in ps c.args.instant) c.clock.ensures.value in
    let low = carried_most c.args.scene.now c.clock.ensures.task c.args.instant c.requires.instant in
    let most = priced_most c.args.price c.carried_before.result c.requires.price (omega (arith, is, low)) in
    omega (arith, most)

pub returns-clause-value : goal.returns-clause-value
returns-clause-value c =
    ap (λ n. c.args.price * n) (c.carried_before.ensures.value ∙ ap (λ ps. flow carried_in ps c.args.instant) c.clock.ensures.value)

pub returns-clause-limit : goal.returns-clause-limit
returns-clause-limit c =
    let is = c.carried_before.ensures.value ∙ ap (λ ps. flow carried_in ps c.args.instant) c.clock.ensures.value in
    let low = carried_most c.args.scene.now c.clock.ensures.task c.args.instant c.requires.instant in
    priced_most c.args.price c.carried_before.result c.requires.price (omega (arith, is, low))
