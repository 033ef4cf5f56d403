use Rattle.std.proofs.Common.{◌∙◌, ap, rules}
use Rattle.std.specs.Int.{w128}
use Rattle.std.proofs.lemmas.Int.{to_z-of_z}
use Rattle.lab_io.proofs.Puts.{puts_as, puts_failed, puts_more}
use Rattle.player_core.specs.Session.{shown}
use Rattle.session_report.specs.Session.{counter_lines}
use Rattle.session_report.proofs.session.write_session.Goals as goal

pub returns-in_err-put_events : goal.returns-in_err-put_events
returns-in_err-put_events g c = puts_failed _ _ _ _ _ c.from_residual.result _ c.in_err-put_events.was c.from_residual.ensures.1 (rw c.deref.ensures.value at c.put_events.ensures)

pub returns : goal.returns
returns g c =
    let score = to_z-of_z w128 c.score_of.result (search rules) ∙ c.score_of.ensures in
    puts_more _ _ _ _ _ _ _ _ c.in_ok-put_events.was (rw c.deref.ensures.value at c.put_events.ensures)
    (puts_as _ _ _ _ _ (ap (λ z. counter_lines (shown c.args.s.now) z) score) c.put_summary.ensures)
