use Rattle.std.proofs.Common.{◌≡◌, ◌∙◌, ◌<◌, ℕ, ap, subst, arith}
use Rattle.mpc_rule.specs.Lookahead.{Lookahead}
use Rattle.mpc_rule.proofs.Parts.{part_more, part_start, part_whole}
use Rattle.mpc_rule.proofs.search.Search.constant.Goals as goal

pub loop-i-init : goal.loop-i-init
loop-i-init c = part_start c.args.self.now c.start-draft.result (rw c.self.view_is at c.start-draft.ensures.value) (rw c.self.view_is at c.start-draft.ensures.draft)

pub loop-i-preserved : goal.loop-i-preserved
loop-i-preserved c =
    let span = ap (λ (x : Lookahead). x.span) c.self.view_is in
    part_more c.args.self.now c.loop-i.i c.loop-i.draft c.with_rung-draft.result c.args.rung c.loop-i.invariant (subst (λ (n : ℕ). c.loop-i.i < n) (c.span-i-end.ensures.value ∙ span) c.loop-i-test.true) c.requires (rw c.self.view_is at c.with_rung-draft.ensures.value)
    (rw c.self.view_is at c.with_rung-draft.ensures.draft)

pub returns : goal.returns
returns c =
    let span = ap (λ (x : Lookahead). x.span) c.self.view_is in
    let all : c.loop-i.i ≡ c.args.self.now.span = omega (arith, span) in
    part_whole c.args.self.now c.loop-i.i c.loop-i.draft all c.loop-i.invariant
