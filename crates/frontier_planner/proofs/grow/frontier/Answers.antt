use Rattle.std.proofs.Common.{◌∙◌, ◌<◌, ◌∷◌, ◌++◌, [], ap, subst, sym, arith}
use Rattle.std.proofs.lemmas.Result.{IfOk-weaker}
use Rattle.lab_model.specs.Number.{IsNear}
use Rattle.labels.specs.Grid.{rounded}
use Rattle.labels.proofs.Follows.{start_rounds}
use Rattle.frontier_planner.specs.Parents.{AreFirst, HaveParents}
use Rattle.frontier_planner.proofs.FirstParents.{first_start, next_parents}
use Rattle.frontier_planner.proofs.grow.frontier.Goals as goal

pub round-requires : goal.round-requires
round-requires c =
    let g = c.args.brief.now.scene in
    subst (λ l. IsNear 900000000000000000 l.v) (sym c.start-start.ensures) (start_rounds c.args.brief.now.grid g c.segments.ensures.can c.args.rung c.requires.rung)

pub returns-then-segment-eq0 : goal.returns-then-segment-eq0
returns-then-segment-eq0 c =
    let d = c.args.brief.now.grid in
    let g = c.args.brief.now.scene in
    first_start d g c.args.segment c.args.rung _ c.round.result c.if-segment-eq0.true (c.round.ensures ∙ ap (rounded d) c.start-start.ensures)
    (c.in_ok-push.ensures.items ∙ ap (λ ks. ks ++ record { label = c.round.result; parent = 0 } ∷ []) c.new-only.ensures.items)

pub returns : goal.returns
returns c =
    let d = c.args.brief.now.grid in
    let g = c.args.brief.now.scene in
    let some = c.if-segment-eq0.false in
    let some' : 0 < c.args.segment = omega arith in
    IfOk-weaker c.first_undominated.result (λ v. AreFirst c.in_ok-candidates.candidates.items v.items) (λ v. HaveParents d g c.args.segment c.args.rung v.items)
    (λ v h. next_parents d g c.segments.ensures.can c.args.segment c.args.rung c.args.followed.now c.in_ok-candidates.candidates.items v.items some' c.requires.segment c.requires.rung (c.requires.followed some') c.in_ok-candidates.ensures h)
    c.first_undominated.ensures
