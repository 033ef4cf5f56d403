use Rattle.std.proofs.Common.{◌-◌, ◌<◌, sym, subst, pos, arith, ap, ℕ}
use Rattle.std.specs.Prelude.{slice_index_or}
use Rattle.std.proofs.lemmas.Int.{ints}
use Rattle.mpc_rule.specs.Lookahead.{Lookahead}
use Rattle.mpc_rule.specs.Search.{IsDraft}
use Rattle.mpc_rule.proofs.Prospects.{price_most, reach_is}
use Rattle.mpc_rule.proofs.relaxation.Relaxation.bound.Goals as goal

pub overflow_add-result-2 : goal.overflow_add-result-2
overflow_add-result-2 c =
    let d = c.args.draft.now in
    let is = subst (λ (o : Lookahead). IsDraft o d) (sym c.self.view_is) c.requires.draft in
    let room = subst (λ (o : Lookahead). d.count < o.span) (sym c.self.view_is) c.requires.room in
    let most = c.self.invariant.most (c.span.result - d.count - 1) (pos 0) (omega (arith, room)) in
    let least = most.least in let greatest = most.most in
    let price = price_most c.self.inside.price d.level 10000000 (omega arith) (omega (arith, is)) in
    omega (arith, ints, least, greatest, price, is, room)

pub returns : goal.returns
returns c =
    let o = c.self.inside.forecast.now in let d = c.args.draft.now in
    let is = subst (λ (x : Lookahead). IsDraft x d) (sym c.self.view_is) c.requires.draft in
    let room = subst (λ (x : Lookahead). d.count < x.span) (sym c.self.view_is) c.requires.room in
    let most = c.self.invariant.most (c.span.result - d.count - 1) (pos 0) (omega (arith, room)) in
    let least = most.least in let greatest = most.most in
    let price = price_most c.self.inside.price d.level 10000000 (omega arith) (omega (arith, is)) in
    let place = ap (λ (n : ℕ). slice_index_or c.self.inside.sums (n - d.count - 1) (pos 0)) c.span.ensures.value in
    rw (← c.self.view_is) (reach_is o c.self.inside.price c.self.inside.sums d (pos 0) _ c.self.invariant is room (omega (arith, ints, least, greatest, price, place)))
