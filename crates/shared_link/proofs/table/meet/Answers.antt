use Rattle.std.proofs.Common.{◌∙◌, sym}
use Rattle.std.proofs.lemmas.Result.{IfOk-weaker}
use Rattle.player_core.proofs.Follow.{load_ready, ok_both}
use Rattle.shared_link.proofs.Instants.{asks_ready, met_asked, met_ended}
use Rattle.shared_link.proofs.table.meet.Goals as goal

pub stop-requires : goal.stop-requires
stop-requires g c = record { ready = load_ready _ c.requires.case _ c.args.body.now c.requires.sound }

pub returns-then-is_ended : goal.returns-then-is_ended
returns-then-is_ended g c =
    met_ended g.T.Rule.kind g.T.Rule.stands_for c.args.course.now c.args.body.now c.stop.new.self c.args.rule.now c.stop.new.rule
    c.requires c.in_ok-stop.ensures.stops c.in_ok-stop.ensures.told (sym c.is_ended.ensures ∙ c.if-is_ended.true)

pub request-requires : goal.request-requires
request-requires g c = record {
  ready = asks_ready g.T.Rule.kind g.T.Rule.stands_for c.args.course.now c.args.body.now c.stop.new.self c.args.rule.now c.stop.new.rule
      c.requires c.in_ok-stop.ensures.stops c.in_ok-stop.ensures.told;
}

pub returns : goal.returns
returns g c =
    IfOk-weaker c.request.result _ _
    (λ x both.
    met_asked g.T.Rule.kind g.T.Rule.stands_for c.args.course.now c.args.body.now c.stop.new.self c.args.rule.now c.stop.new.rule
    c.requires c.in_ok-stop.ensures.stops c.in_ok-stop.ensures.told (sym c.is_ended.ensures ∙ c.if-is_ended.false) c.request.new.self both.0 both.1)
    (ok_both c.request.result _ _ c.request.ensures.requests c.request.ensures.timed)
