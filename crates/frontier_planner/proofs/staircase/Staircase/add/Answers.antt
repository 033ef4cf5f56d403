use Rattle.std.proofs.Common.{◌∙◌, ◌≤◌, ◌<◌, ◌⊎◌, length, sym, subst}
use Rattle.std.specs.Prelude.{◌≤ℤ◌, ◌<ℤ◌, ◌↔◌}
use Rattle.std.specs.List.{AllWithin}
use Rattle.lab_model.specs.declared.label.Label.{Label}
use Rattle.frontier_planner.specs.Staircase.{IsRising}
use Rattle.frontier_planner.specs.Sweep.{HasUnder}
use Rattle.frontier_planner.proofs.Steps.{next_rises, next_under, worth_before}
use Rattle.frontier_planner.proofs.staircase.Staircase.add.Goals as goal

pub steps_before-from-requires : goal.steps_before-from-requires
steps_before-from-requires c = subst IsRising (sym c.deref.ensures.value) c.requires.rising

pub steps_worth-to-requires-clause-rising : goal.steps_worth-to-requires-clause-rising
steps_worth-to-requires-clause-rising c = subst IsRising (sym c.deref-2.ensures.value) c.requires.rising

pub steps_worth-to-requires-clause-bound : goal.steps_worth-to-requires-clause-bound
steps_worth-to-requires-clause-bound c = subst (λ ss. c.steps_before-from.result ≤ length ss) (c.deref.ensures.value ∙ sym c.deref-2.ensures.value) c.steps_before-from.ensures.bound

pub steps_worth-to-requires-clause-below : goal.steps_worth-to-requires-clause-below
steps_worth-to-requires-clause-below c =
    let l = c.args.l in
    let from = c.steps_before-from.result in
    let one = c.deref.ensures.value in
    subst (λ ss. AllWithin (λ (s : Label). s.v ≤ℤ l.v) ss 0 from) (sym c.deref-2.ensures.value)
    (worth_before c.args.self.now.steps.items l from c.requires.free (subst (λ ss. from ≤ length ss) one c.steps_before-from.ensures.bound)
    (subst (λ ss. AllWithin (λ (s : Label). s.p < l.p) ss 0 from) one c.steps_before-from.ensures.below))

pub returns-clause-rising : goal.returns-clause-rising
returns-clause-rising c =
    let steps = c.args.self.now.steps.items in
    let l = c.args.l in
    let from = c.steps_before-from.result in
    let to = c.steps_worth-to.result in
    let one = c.deref.ensures.value in
    let two = c.deref-2.ensures.value in
    let before = subst (λ ss. AllWithin (λ (s : Label). s.p < l.p) ss 0 from) one c.steps_before-from.ensures.below in
    let behind = subst (λ ss. AllWithin (λ (s : Label). l.p ≤ s.p) ss from (length ss)) one c.steps_before-from.ensures.above in
    let worth = subst (λ ss. AllWithin (λ (s : Label). s.v ≤ℤ l.v) ss 0 to) two c.steps_worth-to.ensures.below in
    let more = subst (λ ss. AllWithin (λ (s : Label). l.v <ℤ s.v) ss to (length ss)) two c.steps_worth-to.ensures.above in
    let bound = subst (λ ss. to ≤ length ss) two c.steps_worth-to.ensures.bound in
    let order = c.steps_worth-to.ensures.order in
    subst IsRising (sym c.in_ok-put_step.ensures)
    (next_rises steps l from to c.requires.rising c.requires.free order bound before behind worth more)

pub returns-clause-adds : goal.returns-clause-adds
returns-clause-adds c =
    let steps = c.args.self.now.steps.items in
    let l = c.args.l in
    let from = c.steps_before-from.result in
    let to = c.steps_worth-to.result in
    let one = c.deref.ensures.value in
    let two = c.deref-2.ensures.value in
    let before = subst (λ ss. AllWithin (λ (s : Label). s.p < l.p) ss 0 from) one c.steps_before-from.ensures.below in
    let behind = subst (λ ss. AllWithin (λ (s : Label). l.p ≤ s.p) ss from (length ss)) one c.steps_before-from.ensures.above in
    let worth = subst (λ ss. AllWithin (λ (s : Label). s.v ≤ℤ l.v) ss 0 to) two c.steps_worth-to.ensures.below in
    let more = subst (λ ss. AllWithin (λ (s : Label). l.v <ℤ s.v) ss to (length ss)) two c.steps_worth-to.ensures.above in
    let bound = subst (λ ss. to ≤ length ss) two c.steps_worth-to.ensures.bound in
    let order = c.steps_worth-to.ensures.order in
    λ p v. subst (λ ss. HasUnder ss p v ↔ (HasUnder steps p v ⊎ ((l.p ≤ p) × (v ≤ℤ l.v))))
    (sym c.in_ok-put_step.ensures)
    (next_under steps l from to c.requires.rising c.requires.free order bound before behind worth more p v)
