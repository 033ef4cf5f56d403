use Rattle.std.proofs.Common.{◌≡◌, ◌∙◌, ◌-◌, List, Some, Option, option_map, sym, ap, subst}
use Rattle.lab_model.specs.declared.trace.Period.{Period}
use Rattle.network_clock.specs.Network.{first_at, lane_at}
use Rattle.player_core.specs.State.{Download}
use Rattle.player_core.specs.Course.{case_on}
use Rattle.player_core.specs.Quiet.{taken_ms}
use Rattle.player_core.specs.Seen.{IsTimed, download_of, seen}
use Rattle.player_core.specs.Sound.{asked_size}
use Rattle.shared_link.specs.Calm.{lane_case}
use Rattle.shared_link.proofs.calm.take_all.Goals as goal

pub returns-in-Some-clause-takes : goal.returns-in-Some-clause-takes
returns-in-Some-clause-takes c = λ knows kind history.
    let k = case_on c.args.lane.now.stage.course.now kind in
    let ms = c.args.until - c.args.body.now.t in
    let timed : IsTimed k.film k.network (Some c.in-Some.d) = subst (IsTimed k.film k.network) c.in-Some.is knows in
    let taken = subst (λ (ps : List Period). download_of c.run_on.result ≡ taken_ms (record k { network = λ s. lane_at ps c.args.lane.now.takers s }) c.args.body.now.t ms (download_of c.in-Some.d)) c.args.lane.now.stage.same
    (c.run_on.ensures.takes k (subst (λ (ps : List Period). c.in-Some.d.begins ≡ first_at ps c.in-Some.d.asked (asked_size k (download_of c.in-Some.d))) (sym c.args.lane.now.stage.same) timed.0)) in
    ap (λ (d : Option Download). record (seen c.args.body.now history) { download = d })
    (ap Some taken ∙ ap (λ o. option_map (taken_ms (lane_case c.args.lane.now.stage.course.now c.args.lane.now.takers kind) c.args.body.now.t ms) (option_map download_of o)) (sym c.in-Some.is))
