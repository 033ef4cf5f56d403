use Rattle.std.proofs.Common.{◌≡◌, ◌∙◌, ◌<◌, sym, ap, subst, ltb, lt-ltb}
use Rattle.std.proofs.lemmas.Bool.{cond-true}
use Rattle.std.proofs.lemmas.Result.{IfOk-weaker}
use Rattle.player_core.specs.State.{Case, Player, playing}
use Rattle.player_core.specs.Course.{case_on}
use Rattle.player_core.specs.Parts.{passes_in, plays, stalls_on}
use Rattle.player_core.specs.Seen.{mode_of, seen}
use Rattle.player_core.proofs.body.Body.pass_in_mode.Goals as goal

-- before the end of what is loaded a millisecond of play is one of the mode
plays_on : (k : Case) (p : Player) → p.mode ≡ playing → p.x < p.y → plays k p ≡ passes_in k p p.mode
plays_on k p on low = sym (ap (passes_in k p) on ∙ cond-true (ltb p.x p.y) (plays k p) (stalls_on p) (lt-ltb p.x p.y low))

pub returns-in-Playing-clause-passes : goal.returns-in-Playing-clause-passes
returns-in-Playing-clause-passes c =
    IfOk-weaker c.play.result _ _
    (λ x played kind history.
    subst (λ (q : Player). seen c.play.new.self q.history ≡ q) (plays_on (case_on c.args.course.now kind) (seen c.args.self.now history) (ap mode_of c.in-Playing.is) c.if-self.true) (played kind history))
    c.play.ensures.plays
