use Rattle.std.proofs.Common.{◌∙◌, sym, arith}
use Rattle.std.proofs.lemmas.Result.{IfOk-weaker}
use Rattle.player_core.specs.Course.{case_on}
use Rattle.player_core.proofs.Chain.{at_early, at_stop, at_top, left_ended, left_gone, ruled_case, ruled_sound, told_ended, told_gone, told_stop}
use Rattle.player_core.proofs.Follow.{body_instant, body_sound, load_ready, ok_both}
use Rattle.player_core.proofs.body.Body.instant.Goals as goal

pub stop-requires : goal.stop-requires
stop-requires g c = record { ready = load_ready _ c.requires.case _ c.args.self.now (body_sound _ _ _ _ _ (at_top _ c.requires.case c.args.self.now c.requires.stands)) }

pub go_on-requires : goal.go_on-requires
go_on-requires g c =
    let k = case_on c.args.course.now (g.T.Rule.kind c.args.rule.now) in
    let stop = at_stop _ c.requires.case c.args.self.now c.requires.stands c.stop.new.self (c.in_ok-stop.ensures.stops k.rule) in
    let early = at_early _ c.requires.case c.args.self.now c.requires.stands in
    let at = body_instant _ _ _ _ c.stop.new.self stop in
    record {
      case = ruled_case _ c.requires.case _ c.in_ok-stop.ensures.told.same;
      sound = ruled_sound _ c.requires.case c.args.self.now c.requires.stands c.stop.new.self stop _ c.in_ok-stop.ensures.told.same;
      instant = omega (arith, early, at);
      timed = (c.in_ok-stop.ensures.stops k.rule).timed k.film k.network c.requires.stands.timed;
    }

pub returns-then-is_ended : goal.returns-then-is_ended
returns-then-is_ended g c =
    let k = case_on c.args.course.now (g.T.Rule.kind c.args.rule.now) in
    let step = c.in_ok-stop.ensures.stops k.rule in
    let hears = c.in_ok-stop.ensures.told in
    let stop = at_stop _ c.requires.case c.args.self.now c.requires.stands c.stop.new.self step in
    let ended = sym c.is_ended.ensures ∙ c.if-is_ended.true in
    let left = left_ended _ c.requires.case c.args.self.now c.requires.stands c.stop.new.self stop (step.timed k.film k.network c.requires.stands.timed) ended in
    record {
      instant = left.1;
      left = left.0;
      told = record { same = hears.same; told = λ h told. told_ended (case_on c.args.course.now (g.T.Rule.kind c.args.rule.now)) c.args.self.now c.stop.new.self step h (g.T.Rule.stands_for c.stop.new.rule) ended (hears.told h told) };
    }

pub returns : goal.returns
returns g c =
    let step = c.in_ok-stop.ensures.stops (g.T.Rule.kind c.args.rule.now) in
    let hears = c.in_ok-stop.ensures.told in
    let on = sym c.is_ended.ensures ∙ c.if-is_ended.false in
    let stop = at_stop _ c.requires.case c.args.self.now c.requires.stands c.stop.new.self step in
    let told = told_stop _ c.args.self.now c.requires.stands (g.T.Rule.stands_for c.stop.new.rule) (hears.told _ c.requires.told) in
    let left = IfOk-weaker c.go_on.result _ _
    (λ x both. left_gone _ c.requires.case c.args.self.now c.requires.stands c.stop.new.self stop on _ hears.same c.go_on.new.self (both.0 _ told) both.1)
    (ok_both c.go_on.result _ _ c.go_on.ensures.goes c.go_on.ensures.timed)
    in
    record {
      instant = IfOk-weaker c.go_on.result _ _ (λ x both. both.1) left;
      left = IfOk-weaker c.go_on.result _ _ (λ x both. both.0) left;
      told = IfOk-weaker c.go_on.result _ _
          (λ x later. record {
            same = later.same ∙ hears.same;
            told = λ h told. told_gone (case_on c.args.course.now (g.T.Rule.kind c.args.rule.now)) c.args.self.now c.stop.new.self step h (g.T.Rule.stands_for c.go_on.new.rule) on _ hears.same (later.told _ (hears.told h told));
          })
          c.go_on.ensures.told;
    }
