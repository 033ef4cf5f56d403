use mir.Val.{SFits}
use Rattle.std.proofs.Common.{◌∙◌, ◌+◌, ◌*◌, [], ◌∷◌, ◌++◌, sym, ap, subst, arith, rules}
use Rattle.std.specs.Int.{w64}
use Rattle.std.specs.Prelude.{ℤ}
use Rattle.std.proofs.lemmas.Int.{to_z-of_z}
use Rattle.lab_model.specs.Film.{rungs_of}
use Rattle.completion_bounds.specs.Table.{AreStepGainsTo}
use Rattle.completion_bounds.proofs.LayerLaws.{steps_all, steps_more}
use Rattle.completion_bounds.proofs.layers.step_gains.Goals as goal

pub loop-rung-preserved : goal.loop-rung-preserved
loop-rung-preserved c =
    let g = c.args.scene.now in
    let before = c.loop-before.before in
    let rung = c.loop-rung.rung in
    let value = c.step_gain.result in
    let fits : SFits w64 value = search rules in
    let rungs = c.rungs-rung-end.ensures.value ∙ ap rungs_of c.film.ensures.value in
    let to = before * rungs_of g.film + (rung + 1) in
    subst (AreStepGainsTo g c.args.segment to) (sym c.in_ok-push.ensures.items)
    (subst (λ (v : ℤ). AreStepGainsTo g c.args.segment to (c.loop-rung.gains.items ++ v ∷ [])) (sym (to_z-of_z w64 value fits))
    (steps_more g c.args.segment before rung c.loop-rung.gains.items value (omega (arith, rungs)) c.loop-rung.invariant c.step_gain.ensures))

pub returns : goal.returns
returns c =
    let value = c.kinds-before-end.ensures.value in
    steps_all c.args.scene.now c.args.segment c.loop-before.before c.loop-before.gains.items (omega (arith, value)) c.loop-before.invariant
