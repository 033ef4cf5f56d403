use Rattle.std.proofs.Common.{◌≡◌, ◌∙◌, ◌<◌, IfSome, refl, sym, subst, false, arith}
use Rattle.network_clock.specs.Network.{spends}
use Rattle.player_core.specs.declared.running.Running.{Running}
use Rattle.shared_link.proofs.Stays.{stays_none, stays_taker, stays_waiter}
use Rattle.shared_link.proofs.calm.calm_until.Goals as goal

pub returns-in-None : goal.returns-in-None
returns-in-None c =
    stays_none c.args.lane.now.stage.course.now c.args.lane.now.takers _ c.args.body.now c.untouched_ms.result c.in-None.is c.untouched_ms.ensures.some c.untouched_ms.ensures.untouched refl

pub returns-in-Some : goal.returns-in-Some
returns-in-Some c =
    let t = c.args.body.now.t in
    let some = c.untouched_ms.ensures.some in
    let past = c.lands.ensures.later in
    let least = c.min.ensures in
    stays_taker c.args.lane.now.stage.course.now c.args.lane.now.takers c.min.result c.args.body.now c.untouched_ms.result c.in-Some.d c.in-Some.is some c.untouched_ms.ensures.untouched
    c.args.period c.requires.here c.args.lane.now.stage.link.now.periods c.lands.result c.args.lane.now.stage.same (sym c.spends.ensures ∙ c.if-spends.true) past c.lands.ensures.lands
    (omega (arith, some, past, least)) (omega (arith, least)) (omega (arith, least))

pub returns-in-Some-2 : goal.returns-in-Some-2
returns-in-Some-2 c =
    let t = c.args.body.now.t in
    let some = c.untouched_ms.ensures.some in
    let both = sym c.in-Some.is ∙ c.in-Some-2.is in
    let same : c.in-Some.d ≡ c.in-Some-2.d = cc both in
    let delay = subst (λ (d : Running). spends c.args.period d.job ≡ false) same (sym c.spends.ensures ∙ c.if-spends.false) in
    let rest = subst (λ o. IfSome o (λ r. spends c.args.period r.job ≡ false → t < r.begins)) c.in-Some-2.is c.requires.rest.begins in
    let past : t < c.in-Some-2.d.begins = rest delay in
    let least = c.min-in-Some-2.ensures in
    stays_waiter c.args.lane.now.stage.course.now c.args.lane.now.takers c.min-in-Some-2.result c.args.body.now c.untouched_ms.result c.in-Some-2.d c.in-Some-2.is some c.untouched_ms.ensures.untouched
    c.args.period c.requires.here delay (omega (arith, some, past, least)) (omega (arith, least)) (omega (arith, least))
