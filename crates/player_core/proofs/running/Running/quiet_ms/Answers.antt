use Rattle.std.proofs.Common.{subst, arith}
use Rattle.lab_model.specs.Film.{Film}
use Rattle.player_core.specs.Course.{case_on}
use Rattle.player_core.specs.Ready.{KeepsFor}
use Rattle.player_core.specs.Seen.{download_of}
use Rattle.player_core.proofs.Kept.{keeps_less, kept_until}
use Rattle.player_core.proofs.running.Running.quiet_ms.Goals as goal

pub returns-clause-keeps : goal.returns-clause-keeps
returns-clause-keeps c = λ on kind is runs m after before.
    let d = download_of c.args.self.now in
    let keeps = subst (λ (f : Film). KeepsFor f c.args.t d c.kept_ms.result) c.film.ensures.value c.kept_ms.ensures in
    kept_until (case_on c.args.course.now kind) is c.args.t c.min-kept.result c.due_in.result d runs
    (keeps_less _ c.args.t d c.kept_ms.result c.min-kept.result keeps (omega (arith, c.min-kept.ensures)))
    c.due_in.ensures.none_before m after (omega (arith, before, c.min.ensures))
