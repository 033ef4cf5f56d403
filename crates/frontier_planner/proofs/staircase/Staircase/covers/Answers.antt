use Rattle.std.proofs.Common.{◌∙◌, ◌≤◌, ◌<◌, length, sym, subst}
use Rattle.std.specs.Prelude.{◌≤ℤ◌}
use Rattle.std.specs.List.{AllWithin}
use Rattle.lab_model.specs.declared.label.Label.{Label}
use Rattle.frontier_planner.specs.Staircase.{IsRising}
use Rattle.frontier_planner.proofs.Steps.{covers_last, int_le_true, le_int_le, under_last}
use Rattle.frontier_planner.proofs.staircase.Staircase.covers.Goals as goal

pub steps_up_to-count-requires : goal.steps_up_to-count-requires
steps_up_to-count-requires c = subst IsRising (sym c.deref-2.ensures.value) c.requires

pub returns-then-count-gt0 : goal.returns-then-count-gt0
returns-then-count-gt0 c =
    let steps = c.args.self.now.steps.items in
    let l = c.args.l in
    let count = c.steps_up_to-count.result in
    let x = c.index.result.now in
    let same = c.deref-2.ensures.value in
    let bound = subst (λ ss. count ≤ length ss) same c.steps_up_to-count.ensures.bound in
    let below = subst (λ ss. AllWithin (λ (s : Label). s.p ≤ l.p) ss 0 count) same c.steps_up_to-count.ensures.below in
    let above = subst (λ ss. AllWithin (λ (s : Label). l.p < s.p) ss count (length ss)) same c.steps_up_to-count.ensures.above in (
      λ t. under_last steps count l.p l.v x bound below c.if-count-gt0.true (subst (λ (s : Label). l.v ≤ℤ s.v) c.index.ensures (int_le_true l.v x.v (sym c.is_worth.ensures ∙ t))),
      λ h. c.is_worth.ensures ∙ le_int_le l.v x.v (subst (λ (s : Label). l.v ≤ℤ s.v) (sym c.index.ensures) (covers_last steps count l.p l.v x c.requires bound above h).1),
    )
