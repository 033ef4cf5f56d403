use Rattle.std.proofs.Common.{◌≡◌, ◌∙◌, ap, subst, arith}
use Rattle.std.proofs.lemmas.Int.{clamps, ints}
use Rattle.mpc_rule.specs.Lookahead.{Lookahead}
use Rattle.mpc_rule.specs.Search.{rungs_left}
use Rattle.mpc_rule.specs.Relaxations.{IsCeiling}
use Rattle.mpc_rule.proofs.Parts.{whole_under}
use Rattle.mpc_rule.proofs.search.Search.prospect.Goals as goal

pub returns-then-draft-span : goal.returns-then-draft-span
returns-then-draft-span c = λ k e h.
    let o = c.args.self.now in let d = c.args.draft.now in
    let span = ap (λ (x : Lookahead). x.span) c.self.view_is in
    let none : rungs_left o d ≡ 0 = omega (arith, span) in
    let under = whole_under o (rungs_left o d) d none k e h in omega (arith, ints, under)

pub returns : goal.returns
returns c = λ k e h.
    let d = c.args.draft.now in
    let free = subst (λ (x : Lookahead). IsCeiling x d c.bound.result) (c.self.invariant.1 ∙ c.self.view_is) c.bound.ensures k e h in
    let tight = subst (λ (x : Lookahead). IsCeiling x d c.bound-2.result) (c.self.invariant.2 ∙ c.self.view_is) c.bound-2.ensures k e h in
    omega (arith, ints, clamps, free, tight)
