use Rattle.std.proofs.Common.{◌<◌, ap, subst, arith}
use Rattle.std.proofs.lemmas.Int.{ints}
use Rattle.mpc_rule.specs.Lookahead.{Lookahead}
use Rattle.mpc_rule.proofs.Lists.{found_is}
use Rattle.mpc_rule.proofs.search.Search.first_rung.Goals as goal

pub overflow_sub-below : goal.overflow_sub-below
overflow_sub-below c =
    let few = c.self.invariant.0.few in let span = ap (λ (x : Lookahead). x.span) c.self.view_is in
    let is = c.incumbent-below.ensures.draft in
    let count = is.count in let least = is.least in omega (arith, ints, few, span, count, least)

pub returns : goal.returns
returns c =
    let few = c.self.invariant.0.few in let span = ap (λ (x : Lookahead). x.span) c.self.view_is in
    let is = c.incumbent-below.ensures.draft in
    let count = is.count in let least = is.least in
    let some = subst (λ (x : Lookahead). 0 < x.span) c.self.view_is c.self.invariant.0.some in
    found_is c.args.self.now c.start-start.result _ _ c.incumbent-below.result (rw c.self.view_is at c.start-start.ensures.value) some c.best_after.ensures c.incumbent-below.ensures (omega (arith, ints, few, span, count, least))
