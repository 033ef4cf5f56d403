use Rattle.abrlab_top.specs.Players.{play_jointly}
use Rattle.abrlab_top.specs.Stages.{at_the_end}
use Rattle.abrlab_top.proofs.Jointly.{for_players}
use Rattle.abrlab_top.proofs.Whole.{about_ends, read_failed}
use Rattle.abrlab_top.proofs.players.players.Goals as goal

pub returns-in_err-inputs : goal.returns-in_err-inputs
returns-in_err-inputs g c =
    read_failed at_the_end play_jointly c.args.words _ _ _ c.read_inputs.result c.from_residual.result _ c.in_err-inputs.was c.from_residual.ensures.1 (rw c.into_film_words.ensures.value at c.read_inputs.ensures.comes)

pub write_joint_session-requires-clause-players : goal.write_joint_session-requires-clause-players
write_joint_session-requires-clause-players g c =
    (for_players c.args.words c.in_ok-inputs.inputs (rw c.into_film_words.ensures.value at c.in_ok-inputs.ensures.kept) c.into_film_words.ensures.players c.into_film_words.ensures.keeps).0

pub write_joint_session-requires-clause-keeps : goal.write_joint_session-requires-clause-keeps
write_joint_session-requires-clause-keeps g c =
    (for_players c.args.words c.in_ok-inputs.inputs (rw c.into_film_words.ensures.value at c.in_ok-inputs.ensures.kept) c.into_film_words.ensures.players c.into_film_words.ensures.keeps).1

pub returns : goal.returns
returns g c =
    about_ends at_the_end play_jointly c.args.words c.in_ok-inputs.inputs _ _ _ _ _ (λ r h. cc) (rw c.into_film_words.ensures.value at c.in_ok-inputs.ensures.comes) c.write_joint_session.ensures
