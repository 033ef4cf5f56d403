use Rattle.std.proofs.Common.{[], ◌+◌}
use Rattle.std.proofs.lemmas.Result.{IfOk-weaker}
use Rattle.player_core.specs.Course.{case_on}
use Rattle.player_core.proofs.Chain.{goes_on_same, goes_on_told, now_left, ruled_ready, ruled_request, sound_given}
use Rattle.player_core.proofs.Follow.{judge_ready, request_ready, room_ready, wasted_ready}
use Rattle.player_core.proofs.body.Body.go_on.Goals as goal

pub abandon-requires-clause-judge : goal.abandon-requires-clause-judge
abandon-requires-clause-judge g c = judge_ready _ c.requires.case _ c.args.self.now c.requires.sound

pub seek-requires : goal.seek-requires
seek-requires g c =
    let sound = sound_given _ c.requires.case c.args.self.now c.requires.sound c.abandon.new.self (c.in_ok-abandon.ensures.abandons (g.T.Rule.kind c.args.rule.now)) in
    record {
      judge = judge_ready _ c.requires.case _ c.abandon.new.self sound;
      loaded = sound.loaded;
      room = room_ready _ c.requires.case _ c.abandon.new.self sound;
      wasted = wasted_ready _ c.requires.case _ c.abandon.new.self sound;
      targets = c.requires.case.seeks.targets;
    }

pub request-requires : goal.request-requires
request-requires g c =
    let left = now_left _ c.requires.case c.args.self.now c.requires.sound c.abandon.new.self (c.in_ok-abandon.ensures.abandons (g.T.Rule.kind c.args.rule.now)) c.seek.new.self (c.in_ok-seek.ensures (g.T.Rule.kind c.args.rule.now)) [] in
    record {
      ready = ruled_ready _ c.requires.case _ c.in_ok-abandon.ensures.told.same c.seek.new.self
          (request_ready _ c.requires.case c.args.self.now.t (c.args.self.now.t + 1) _ c.seek.new.self c.requires.instant left);
    }

pub returns-clause-goes : goal.returns-clause-goes
returns-clause-goes g c =
    IfOk-weaker c.request.result _ _
    (λ x asked history told.
    goes_on_same _ c.requires.case c.args.self.now c.requires.sound c.abandon.new.self (c.in_ok-abandon.ensures.abandons (g.T.Rule.kind c.args.rule.now)) c.seek.new.self (c.in_ok-seek.ensures (g.T.Rule.kind c.args.rule.now))
    c.request.new.self history (g.T.Rule.stands_for c.abandon.new.rule)
    (λ h there. ruled_request _ c.requires.case _ c.in_ok-abandon.ensures.told.same c.seek.new.self c.request.new.self h (asked h there)) (c.in_ok-abandon.ensures.told.told history told))
    c.request.ensures.requests

pub returns-clause-told : goal.returns-clause-told
returns-clause-told g c =
    IfOk-weaker c.request.result _ _
    (λ x asked. record {
      same = c.in_ok-abandon.ensures.told.same;
      told = λ history told.
          goes_on_told _ c.requires.case c.args.self.now c.requires.sound c.abandon.new.self (c.in_ok-abandon.ensures.abandons (g.T.Rule.kind c.args.rule.now)) history (g.T.Rule.stands_for c.abandon.new.rule)
          (c.in_ok-abandon.ensures.told.told history told);
    })
    c.request.ensures.requests

pub returns-clause-timed : goal.returns-clause-timed
returns-clause-timed g c =
    IfOk-weaker c.request.result _ _
    (λ x keeps.
    let k = case_on c.args.course.now (g.T.Rule.kind c.args.rule.now) in
    keeps ((c.in_ok-seek.ensures k.rule).timed k.film k.network ((c.in_ok-abandon.ensures.abandons k.rule).timed k.film k.network c.requires.timed)))
    c.request.ensures.timed
