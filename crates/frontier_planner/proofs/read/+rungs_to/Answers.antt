use Rattle.std.proofs.Common.{◌∙◌, ◌++◌, ◌∷◌, [], ap, sym, arith}
use Rattle.labels.specs.Grown.{grown}
use Rattle.labels.proofs.ReadBack.{back_first}
use Rattle.frontier_planner.specs.Layers.{rungs_read}
use Rattle.frontier_planner.specs.Linked.{pair_of}
use Rattle.frontier_planner.proofs.Reading.{rungs_next}
use Rattle.frontier_planner.proofs.read.+rungs_to.Goals as goal

pub returns-then-segment-eq0 : goal.returns-then-segment-eq0
returns-then-segment-eq0 t c =
    let d = c.args.brief.now.grid in
    let g = c.args.brief.now.scene in
    let h = c.in_ok-push.ensures.items in
    let k = c.in_ok-rungs.ensures.items in
    h ∙ ap (λ rs. rs ++ c.args.reached.rung ∷ []) k ∙ sym (back_first d g (grown d g) (pair_of c.args.reached)) ∙ ap (λ i. rungs_read d g i (pair_of c.args.reached)) (sym c.if-segment-eq0.true)

pub returns : goal.returns
returns t c =
    let d = c.args.brief.now.grid in
    let g = c.args.brief.now.scene in
    let some = c.if-segment-eq0.false in
    c.in_ok-push-2.ensures.items ∙ ap (λ rs. rs ++ c.args.reached.rung ∷ []) c.in_ok-rungs-2.ensures
    ∙ sym (rungs_next d g c.args.segment (pair_of c.args.reached) (pair_of c.parent-old.result) (omega arith) c.parent-old.ensures.parent)
