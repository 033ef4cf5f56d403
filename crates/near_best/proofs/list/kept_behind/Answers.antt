use Rattle.std.proofs.Common.{◌≡◌, ◌∙◌, ◌+◌, ap, arith, sym, subst}
use Rattle.player_core.specs.Scene.{IsTask}
use Rattle.labels.specs.Labels.{next_label}
use Rattle.labels.specs.OnRung.{OnRung}
use Rattle.near_best.specs.Kept.{IsInReach}
use Rattle.near_best.proofs.Reach.{later_reach}
use Rattle.near_best.proofs.list.kept_behind.Goals as goal

pub kept_of-requires-clause-label : goal.kept_of-requires-clause-label
kept_of-requires-clause-label c =
    let g = c.args.scene.now in
    let old = c.args.old in
    let kept = c.requires.old in
    let some = c.requires.segment.0 in
    let made = c.new.ensures.value in
    let task = subst IsTask (ap (λ (l : OnRung). l.scene) made) c.next-label.ensures.within.task in
    let label : c.next-label.result ≡ next_label g c.args.segment old.rung old.label c.args.rung =
    c.next-label.ensures.label ∙ ap (λ (l : OnRung). next_label l.scene (l.segment + 1) l.rung l.label c.args.rung) made
    ∙ ap (λ n. next_label g n old.rung old.label c.args.rung) (omega (arith, some)) in
    subst (IsInReach c.args.segment) (sym label)
    (later_reach g task c.args.segment old.rung c.args.rung old.label some c.requires.segment.1 kept.rung c.requires.rung kept.reach)
