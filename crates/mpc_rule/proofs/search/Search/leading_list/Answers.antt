use Rattle.std.proofs.Common.{◌≡◌, ◌∙◌, ◌<◌, ℕ, ap, subst, arith}
use Rattle.mpc_rule.specs.Lookahead.{Lookahead}
use Rattle.mpc_rule.proofs.Parts.{part_more, part_start, part_whole}
use Rattle.mpc_rule.proofs.search.Search.leading_list.Goals as goal

pub loop-count-init : goal.loop-count-init
loop-count-init c = part_start c.args.self.now c.start-draft.result (rw c.self.view_is at c.start-draft.ensures.value) (rw c.self.view_is at c.start-draft.ensures.draft)

pub loop-count-preserved : goal.loop-count-preserved
loop-count-preserved c =
    let span = ap (λ (x : Lookahead). x.span) c.self.view_is in
    part_more c.args.self.now c.loop-count.count c.loop-count.draft c.with_rung-draft.result c.lead.result c.loop-count.invariant (subst (λ (n : ℕ). c.loop-count.count < n) (c.span-count-end.ensures.value ∙ span) c.loop-count-test.true) c.lead.ensures
    (rw c.self.view_is at c.with_rung-draft.ensures.value) (rw c.self.view_is at c.with_rung-draft.ensures.draft)

pub returns : goal.returns
returns c =
    let all : c.loop-count.count ≡ c.args.self.now.span = let span = ap (λ (x : Lookahead). x.span) c.self.view_is in omega (arith, span) in
    part_whole c.args.self.now c.loop-count.count c.loop-count.draft all c.loop-count.invariant
