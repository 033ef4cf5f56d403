use Rattle.std.proofs.lemmas.Result.{IfOk-weaker}
use Rattle.player_core.proofs.Chain.{session_count, session_ends, session_rungs, session_times, task_case}
use Rattle.player_core.proofs.Lists.{session_listed}
use Rattle.player_core.proofs.player.play_from.Goals as goal

pub session_on-requires-clause-case : goal.session_on-requires-clause-case
session_on-requires-clause-case g c = task_case c.args.scene.now c.args.seeks.now (g.T.Rule.kind c.args.rule) c.film.ensures.task c.requires.seeks c.requires.rule

pub returns : goal.returns
returns g c =
    let is = task_case c.args.scene.now c.args.seeks.now (g.T.Rule.kind c.args.rule) c.film.ensures.task c.requires.seeks c.requires.rule in
    let session = c.session_on.ensures in
    record {
      session = session;
      rungs = IfOk-weaker c.session_on.result _ _ (session_rungs _ is) session;
      count = IfOk-weaker c.session_on.result _ _ (session_count _ is) session;
      ends = IfOk-weaker c.session_on.result _ _ (session_ends _ is) session;
      times = IfOk-weaker c.session_on.result _ _ (session_times _ is) session;
      listed = λ off none. IfOk-weaker c.session_on.result _ _ (session_listed _ _ _ _ _ _ is off none) session;
    }
