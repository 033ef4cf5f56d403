use Rattle.std.proofs.Common.{◌∙◌, Some, Option, option_map, sym, ap, subst}
use Rattle.player_core.specs.State.{Download}
use Rattle.player_core.specs.Course.{case_on}
use Rattle.player_core.specs.Quiet.{taken_ms}
use Rattle.player_core.specs.Seen.{IsTimed, download_of, seen}
use Rattle.player_core.proofs.body.Body.take_all.Goals as goal

pub returns-in-Some-clause-takes : goal.returns-in-Some-clause-takes
returns-in-Some-clause-takes c = λ knows kind history.
    let k = case_on c.args.course.now kind in
    let timed : IsTimed k.film k.network (Some c.in-Some.d) = subst (IsTimed k.film k.network) c.in-Some.is knows in
    ap (λ (d : Option Download). record (seen c.args.self.now history) { download = d })
    (ap Some (c.after.ensures.takes kind timed.0) ∙ ap (λ o. option_map (taken_ms k c.args.self.now.t c.args.ms) (option_map download_of o)) (sym c.in-Some.is))
