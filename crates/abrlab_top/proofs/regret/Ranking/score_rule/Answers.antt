use Rattle.std.proofs.Common.{◌∙◌, ap, rules}
use Rattle.std.specs.Int.{w128}
use Rattle.std.proofs.lemmas.Int.{to_z-of_z}
use Rattle.lab_model.specs.Film.{segments_of}
use Rattle.lab_words.specs.Rules.{spoken}
use Rattle.lab_inputs.specs.Inputs.{InputValues}
use Rattle.player_core.specs.Session.{shown}
use Rattle.abrlab_top.specs.Plan.{task_on}
use Rattle.abrlab_top.specs.Rules.{kind_of}
use Rattle.abrlab_top.proofs.Behind.{can_score, no_seeks, rule_scored}
use Rattle.abrlab_top.proofs.regret.Ranking.score_rule.Goals as goal

pub scene_on-requires : goal.scene_on-requires
scene_on-requires c = rw c.inputs-inputs.ensures.value c.inputs-inputs.ensures.can.fits.setup

pub play_from-requires-clause-rule : goal.play_from-requires-clause-rule
play_from-requires-clause-rule c = rw (c.in_ok-played.ensures.kind, c.scene_on.ensures.value, c.inputs-inputs.ensures.value) c.requires.fits

pub play_from-requires-clause-seeks : goal.play_from-requires-clause-seeks
play_from-requires-clause-seeks c = no_seeks (segments_of c.scene_on.result.film)

pub score-requires-clause-played : goal.score-requires-clause-played
score-requires-clause-played c =
    rw c.deref.ensures.value (can_score c.scene_on.result.film c.setup.result.now c.in_ok-session.session.played.items
    (rw (c.setup.ensures, c.scene_on.ensures.value, c.inputs-inputs.ensures.value) c.inputs-inputs.ensures.can.fits.setup) c.in_ok-session.ensures.rungs c.in_ok-session.ensures.count)

pub returns : goal.returns
returns c =
    let i = c.args.self.now.inputs in
    let seen = c.scene_on.ensures.value ∙ ap (λ (v : InputValues). task_on v c.args.clock.now) c.inputs-inputs.ensures.value in
    to_z-of_z w128 c.score.result (search rules)
    ∙ rule_scored i c.args.clock.now c.scene_on.result c.setup.result.now (kind_of c.in_ok-played.played) (spoken c.args.rule.now.rule) (shown c.in_ok-session.session) c.score.result c.in_ok-session.ensures.session
    seen (c.setup.ensures ∙ ap (λ (v : InputValues). v.setup) c.inputs-inputs.ensures.value) c.in_ok-played.ensures.kind (rw c.deref.ensures.value at c.score.ensures)
