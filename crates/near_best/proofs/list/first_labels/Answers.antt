use Rattle.std.proofs.Common.{◌∙◌, [], ◌∷◌, length, length-append, sym, ap, subst, arith}
use Rattle.std.specs.List.{All}
use Rattle.std.proofs.lemmas.List.Elements.{All-push}
use Rattle.lab_model.specs.Film.{rungs_of}
use Rattle.near_best.specs.Kept.{IsInReach, IsKept}
use Rattle.near_best.proofs.Reach.{first_reach}
use Rattle.near_best.proofs.list.first_labels.Goals as goal

pub kept_of-requires-clause-label : goal.kept_of-requires-clause-label
kept_of-requires-clause-label c =
    let count = c.rungs-count.ensures.value ∙ ap rungs_of c.film-2.ensures.value in
    subst (IsInReach 0) (sym c.start_on-label.ensures.label) (first_reach c.args.scene.now c.film.ensures.task c.loop-rung.rung (omega (arith, count)))

pub loop-rung-preserved : goal.loop-rung-preserved
loop-rung-preserved c =
    let items = c.in_ok-push.ensures.items in
    let long = ap length items ∙ length-append c.loop-rung.labels.items (c.kept_of.result ∷ []) in
    let before = c.loop-rung.invariant.count in
    record {
      count = omega (arith, long, before);
      each = subst (All (IsKept c.args.scene.now 0)) (sym items) (All-push (IsKept c.args.scene.now 0) c.loop-rung.labels.items c.kept_of.result c.loop-rung.invariant.each c.kept_of.ensures);
    }
