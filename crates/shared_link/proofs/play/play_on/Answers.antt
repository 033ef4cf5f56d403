use Rattle.std.proofs.Common.{◌≡◌, ◌∙◌, ℕ, ◌<◌, false, ◌++◌, length, take, drop, map, refl, sym, ap, ap₂, subst, arith}
use Rattle.std.specs.List.{All}
use Rattle.std.proofs.lemmas.Bool.{true≢false}
use Rattle.lab_model.specs.declared.trace.Period.{Period}
use Rattle.network_clock.specs.Network.{parted, period_at}
use Rattle.shared_link.specs.Calm.{AllGlide, CanCome, CanRestTogether, StaysCalm, takers_at}
use Rattle.shared_link.specs.Joint.{all_end_at, instants, players_after, takers_in}
use Rattle.shared_link.specs.Laws.{share_at}
use Rattle.shared_link.specs.Table.{AllCanPass, AreFirstBodies, AllPass, BodyGoesOn, HasEnded, Stand, joint_on_course}
use Rattle.shared_link.proofs.Rounds.{round_meets, round_met, written}
use Rattle.shared_link.proofs.Top.{Sit, all_can_pass, ended_sessions, going_all, top_early, top_first, top_passed}
use Rattle.shared_link.proofs.Turns.{all_can_come, all_can_rest, going_on, top_glided}
use Rattle.shared_link.proofs.play.play_on.Goals as goal

pub loop-turn-init : goal.loop-turn-init
loop-turn-init g c = record {
  top = top_first c.args.stage.now.course.now (map g.T.Rule.kind c.args.rules.items) c.requires.joint c.args.stage.now.plain g.T.Rule.kind g.T.Rule.stands_for c.in_ok-bodies.bodies.items c.args.rules.items refl
      (subst (λ k. AreFirstBodies k c.in_ok-bodies.bodies.items) (c.len.ensures ∙ c.args.rules.ok.0) c.in_ok-bodies.ensures) c.requires.told;
  later = omega arith;
}

pub meet_all-requires : goal.meet_all-requires
meet_all-requires g c =
    let kind = g.T.Rule.kind in
    let stands = g.T.Rule.stands_for in
    let o = c.args.stage.now.course.now in
    let kinds = map g.T.Rule.kind c.args.rules.items in
    let is = c.requires.joint in
    let plain = c.args.stage.now.plain in
    let n = c.loop-turn.t in
    let top = c.loop-turn.invariant.top in
    round_meets o kinds is plain kind stands n c.loop-turn.bodies.items c.deref_mut.result.now c.loop-turn.rules.items c.deref_mut-in-loop-turn.result.now c.deref_mut.ensures.value c.deref_mut-in-loop-turn.ensures.value top

pub returns-then-have_all_ended : goal.returns-then-have_all_ended
returns-then-have_all_ended g c =
    let kind = g.T.Rule.kind in
    let stands = g.T.Rule.stands_for in
    let o = c.args.stage.now.course.now in
    let kinds = map g.T.Rule.kind c.args.rules.items in
    let is = c.requires.joint in
    let plain = c.args.stage.now.plain in
    let n = c.loop-turn.t in
    let top = c.loop-turn.invariant.top in
    let j = joint_on_course o kinds in
    let d0 = c.deref_mut.result.now in
    let r0 = c.deref_mut-in-loop-turn.result.now in
    let v0 = c.loop-turn.bodies.items in
    let b1 = c.meet_all.new.bodies in
    let h1 = c.meet_all.new.rules in
    let size = c.loop-turn.bodies.len in
    let was : length v0 ≡ size = ap length (sym c.deref_mut.ensures.value) ∙ c.deref_mut.ensures.len in
    let long1 : length b1 ≡ size = c.in_ok-meet_all.ensures.bodies ∙ c.deref_mut.ensures.len in
    let met : Sit kind stands o kinds (instants j (players_after j n)) b1 h1 =
    round_met o kinds is plain kind stands n v0 d0 c.loop-turn.rules.items r0 c.deref_mut.ensures.value c.deref_mut-in-loop-turn.ensures.value top b1 h1 c.in_ok-meet_all.ensures in
    let back1 = written size v0 b1 was long1 in
    let early : n < 1000000000000000 = top_early o kinds is plain n top.going in
    let v1 = take size (b1 ++ drop (length b1) v0) in
    let all : All HasEnded v1 = subst (All HasEnded) c.deref.ensures.value (c.have_all_ended.ensures.0 c.if-have_all_ended.true) in
    let sit : Sit kind stands o kinds (instants j (players_after j n)) v1 h1 = subst (λ bs. Sit kind stands o kinds (instants j (players_after j n)) bs h1) (sym back1) met in
    ended_sessions o kinds is plain kind stands n v1 h1 c.in_ok-sessions_of.field-0.items sit top.going all c.in_ok-sessions_of.ensures

pub all_calm_until-until-requires : goal.all_calm_until-until-requires
all_calm_until-until-requires g c =
    let kind = g.T.Rule.kind in
    let stands = g.T.Rule.stands_for in
    let o = c.args.stage.now.course.now in
    let kinds = map g.T.Rule.kind c.args.rules.items in
    let is = c.requires.joint in
    let plain = c.args.stage.now.plain in
    let n = c.loop-turn.t in
    let top = c.loop-turn.invariant.top in
    let j = joint_on_course o kinds in
    let d0 = c.deref_mut.result.now in
    let r0 = c.deref_mut-in-loop-turn.result.now in
    let v0 = c.loop-turn.bodies.items in
    let b1 = c.meet_all.new.bodies in
    let h1 = c.meet_all.new.rules in
    let size = c.loop-turn.bodies.len in
    let was : length v0 ≡ size = ap length (sym c.deref_mut.ensures.value) ∙ c.deref_mut.ensures.len in
    let long1 : length b1 ≡ size = c.in_ok-meet_all.ensures.bodies ∙ c.deref_mut.ensures.len in
    let met : Sit kind stands o kinds (instants j (players_after j n)) b1 h1 =
    round_met o kinds is plain kind stands n v0 d0 c.loop-turn.rules.items r0 c.deref_mut.ensures.value c.deref_mut-in-loop-turn.ensures.value top b1 h1 c.in_ok-meet_all.ensures in
    let back1 = written size v0 b1 was long1 in
    let early : n < 1000000000000000 = top_early o kinds is plain n top.going in
    let period : c.period_at-period.result ≡ period_at o.scene.now.periods n = c.period_at-period.ensures.value ∙ ap (λ ps. period_at ps n) (c.clock.ensures.value ∙ c.args.stage.now.same) in
    let rest : All (λ b. BodyGoesOn b → (b.t ≡ n) × CanRestTogether o (period_at o.scene.now.periods n) b) b1 = λ i b low. all_can_rest o kinds is plain kind stands n 0 0 b1 h1 met i b low in
    record {
      here = period;
      instant = early;
      rest = subst (All (λ b. BodyGoesOn b → (b.t ≡ n) × CanRestTogether o c.period_at-period.result b)) (sym (c.deref-in-loop-turn-2.ensures.value ∙ back1))
          (subst (λ p. All (λ b. BodyGoesOn b → (b.t ≡ n) × CanRestTogether o p b) b1) (sym period) rest);
    }

pub pass_all-requires : goal.pass_all-requires
pass_all-requires g c =
    let kind = g.T.Rule.kind in
    let stands = g.T.Rule.stands_for in
    let o = c.args.stage.now.course.now in
    let kinds = map g.T.Rule.kind c.args.rules.items in
    let is = c.requires.joint in
    let plain = c.args.stage.now.plain in
    let n = c.loop-turn.t in
    let top = c.loop-turn.invariant.top in
    let j = joint_on_course o kinds in
    let d0 = c.deref_mut.result.now in
    let r0 = c.deref_mut-in-loop-turn.result.now in
    let v0 = c.loop-turn.bodies.items in
    let b1 = c.meet_all.new.bodies in
    let h1 = c.meet_all.new.rules in
    let size = c.loop-turn.bodies.len in
    let was : length v0 ≡ size = ap length (sym c.deref_mut.ensures.value) ∙ c.deref_mut.ensures.len in
    let long1 : length b1 ≡ size = c.in_ok-meet_all.ensures.bodies ∙ c.deref_mut.ensures.len in
    let met : Sit kind stands o kinds (instants j (players_after j n)) b1 h1 =
    round_met o kinds is plain kind stands n v0 d0 c.loop-turn.rules.items r0 c.deref_mut.ensures.value c.deref_mut-in-loop-turn.ensures.value top b1 h1 c.in_ok-meet_all.ensures in
    let back1 = written size v0 b1 was long1 in
    let early : n < 1000000000000000 = top_early o kinds is plain n top.going in
    subst AllCanPass (sym (c.deref_mut-in-loop-turn-2.ensures.value ∙ back1)) (all_can_pass o kinds is plain kind stands n b1 h1 met early)

pub glide_all-requires : goal.glide_all-requires
glide_all-requires g c =
    let kind = g.T.Rule.kind in
    let stands = g.T.Rule.stands_for in
    let o = c.args.stage.now.course.now in
    let kinds = map g.T.Rule.kind c.args.rules.items in
    let is = c.requires.joint in
    let plain = c.args.stage.now.plain in
    let n = c.loop-turn.t in
    let top = c.loop-turn.invariant.top in
    let j = joint_on_course o kinds in
    let d0 = c.deref_mut.result.now in
    let r0 = c.deref_mut-in-loop-turn.result.now in
    let v0 = c.loop-turn.bodies.items in
    let b1 = c.meet_all.new.bodies in
    let h1 = c.meet_all.new.rules in
    let size = c.loop-turn.bodies.len in
    let was : length v0 ≡ size = ap length (sym c.deref_mut.ensures.value) ∙ c.deref_mut.ensures.len in
    let long1 : length b1 ≡ size = c.in_ok-meet_all.ensures.bodies ∙ c.deref_mut.ensures.len in
    let met : Sit kind stands o kinds (instants j (players_after j n)) b1 h1 =
    round_met o kinds is plain kind stands n v0 d0 c.loop-turn.rules.items r0 c.deref_mut.ensures.value c.deref_mut-in-loop-turn.ensures.value top b1 h1 c.in_ok-meet_all.ensures in
    let back1 = written size v0 b1 was long1 in
    let early : n < 1000000000000000 = top_early o kinds is plain n top.going in
    let period : c.period_at-period.result ≡ period_at o.scene.now.periods n = c.period_at-period.ensures.value ∙ ap (λ ps. period_at ps n) (c.clock.ensures.value ∙ c.args.stage.now.same) in
    let listed : c.deref-in-loop-turn.result.now ≡ b1 = c.deref-in-loop-turn.ensures.value ∙ back1 in
    let takers = c.count_takers-takers.result in
    let stand : Stand (instants j (players_after j n)) c.deref-in-loop-turn.result.now = subst (Stand (instants j (players_after j n))) (sym listed) met.stand in
    let same : takers ≡ takers_at j n = c.count_takers-takers.ensures.takers (instants j (players_after j n)) stand
    ∙ ap₂ (λ (p : Period) (m : ℕ). takers_in p (instants j (players_after j n)) m) period (ap length listed ∙ met.count) in
    let until = c.all_calm_until-until.result in
    let calm : All (λ b. BodyGoesOn b → StaysCalm o takers until b) b1 = subst (All (λ b. BodyGoesOn b → StaysCalm o takers until b)) (c.deref-in-loop-turn-2.ensures.value ∙ back1) c.all_calm_until-until.ensures.calm in
    let b2 = c.pass_all.new.bodies in
    let share : c.share_of.result ≡ share_at j n = c.share_of.ensures ∙ ap₂ parted same period in
    let d2 : c.deref_mut-in-loop-turn-2.result.now ≡ b1 = c.deref_mut-in-loop-turn-2.ensures.value ∙ back1 in
    let passed : AllPass o (share_at j n) b1 b2 = subst (λ s. AllPass o s b1 b2) share (subst (λ bs. AllPass o c.share_of.result bs b2) d2 c.in_ok-pass_all.ensures) in
    let mid = top_passed o kinds is plain kind stands n b1 h1 (share_at j n) b2 refl met passed in
    let long2 : length b2 ≡ size = passed.count ∙ long1 in
    let v1 = take size (b1 ++ drop (length b1) v0) in
    let back2 = written size v1 b2 (ap length back1 ∙ long1) long2 in
    let later = c.all_calm_until-until.ensures.later in
    let most = c.all_calm_until-until.ensures.limit in
    subst (All (λ b. BodyGoesOn b → CanCome until b)) (sym (c.deref_mut-in-loop-turn-3.ensures.value ∙ back2))
    (all_can_come o kinds is plain kind stands n takers until b1 h1 met same calm later early most b2 passed mid)

pub loop-turn-preserved : goal.loop-turn-preserved
loop-turn-preserved g c =
    let kind = g.T.Rule.kind in
    let stands = g.T.Rule.stands_for in
    let o = c.args.stage.now.course.now in
    let kinds = map g.T.Rule.kind c.args.rules.items in
    let is = c.requires.joint in
    let plain = c.args.stage.now.plain in
    let n = c.loop-turn.t in
    let top = c.loop-turn.invariant.top in
    let j = joint_on_course o kinds in
    let d0 = c.deref_mut.result.now in
    let r0 = c.deref_mut-in-loop-turn.result.now in
    let v0 = c.loop-turn.bodies.items in
    let b1 = c.meet_all.new.bodies in
    let h1 = c.meet_all.new.rules in
    let size = c.loop-turn.bodies.len in
    let was : length v0 ≡ size = ap length (sym c.deref_mut.ensures.value) ∙ c.deref_mut.ensures.len in
    let long1 : length b1 ≡ size = c.in_ok-meet_all.ensures.bodies ∙ c.deref_mut.ensures.len in
    let met : Sit kind stands o kinds (instants j (players_after j n)) b1 h1 =
    round_met o kinds is plain kind stands n v0 d0 c.loop-turn.rules.items r0 c.deref_mut.ensures.value c.deref_mut-in-loop-turn.ensures.value top b1 h1 c.in_ok-meet_all.ensures in
    let back1 = written size v0 b1 was long1 in
    let early : n < 1000000000000000 = top_early o kinds is plain n top.going in
    let period : c.period_at-period.result ≡ period_at o.scene.now.periods n = c.period_at-period.ensures.value ∙ ap (λ ps. period_at ps n) (c.clock.ensures.value ∙ c.args.stage.now.same) in
    let listed : c.deref-in-loop-turn.result.now ≡ b1 = c.deref-in-loop-turn.ensures.value ∙ back1 in
    let takers = c.count_takers-takers.result in
    let stand : Stand (instants j (players_after j n)) c.deref-in-loop-turn.result.now = subst (Stand (instants j (players_after j n))) (sym listed) met.stand in
    let same : takers ≡ takers_at j n = c.count_takers-takers.ensures.takers (instants j (players_after j n)) stand
    ∙ ap₂ (λ (p : Period) (m : ℕ). takers_in p (instants j (players_after j n)) m) period (ap length listed ∙ met.count) in
    let until = c.all_calm_until-until.result in
    let calm : All (λ b. BodyGoesOn b → StaysCalm o takers until b) b1 = subst (All (λ b. BodyGoesOn b → StaysCalm o takers until b)) (c.deref-in-loop-turn-2.ensures.value ∙ back1) c.all_calm_until-until.ensures.calm in
    let b2 = c.pass_all.new.bodies in
    let share : c.share_of.result ≡ share_at j n = c.share_of.ensures ∙ ap₂ parted same period in
    let d2 : c.deref_mut-in-loop-turn-2.result.now ≡ b1 = c.deref_mut-in-loop-turn-2.ensures.value ∙ back1 in
    let passed : AllPass o (share_at j n) b1 b2 = subst (λ s. AllPass o s b1 b2) share (subst (λ bs. AllPass o c.share_of.result bs b2) d2 c.in_ok-pass_all.ensures) in
    let mid = top_passed o kinds is plain kind stands n b1 h1 (share_at j n) b2 refl met passed in
    let long2 : length b2 ≡ size = passed.count ∙ long1 in
    let v1 = take size (b1 ++ drop (length b1) v0) in
    let back2 = written size v1 b2 (ap length back1 ∙ long1) long2 in
    let later = c.all_calm_until-until.ensures.later in
    let most = c.all_calm_until-until.ensures.limit in
    let b3 = c.glide_all.new.bodies in
    let d3 : c.deref_mut-in-loop-turn-3.result.now ≡ b2 = c.deref_mut-in-loop-turn-3.ensures.value ∙ back2 in
    let glided : AllGlide o takers until b2 b3 = subst (λ bs. AllGlide o takers until bs b3) d3 (record { count = c.glide_all.ensures.count; each = c.glide_all.ensures.each }) in
    let long3 : length b3 ≡ size = glided.count ∙ long2 in
    let v2 = take size (b2 ++ drop (length b2) v1) in
    let back3 = written size v2 b3 (ap length back2 ∙ long2) long3 in
    let w0 = c.loop-turn.rules.items in
    let told = written c.loop-turn.rules.len w0 h1 (ap length (sym c.deref_mut-in-loop-turn.ensures.value) ∙ c.deref_mut-in-loop-turn.ensures.len) (c.in_ok-meet_all.ensures.count ∙ c.deref_mut-in-loop-turn.ensures.len) in
    let some : all_end_at j n ≡ false = going_all o kinds is plain kind stands n b1 h1 met
    (λ all. true≢false (sym (c.have_all_ended.ensures.1 (subst (All HasEnded) (sym (c.deref.ensures.value ∙ back1)) all)) ∙ c.if-have_all_ended.false)) in
    let turns = c.loop-turn.invariant.later in
    let sit = top_glided o kinds is plain kind stands n takers until b1 h1 met same calm later early most b2 passed mid b3 glided in
    record {
      top = record {
        sit = subst (λ bs. Sit kind stands o kinds (players_after j until) bs (take c.loop-turn.rules.len (h1 ++ drop (length h1) w0))) (sym back3)
            (subst (λ rs. Sit kind stands o kinds (players_after j until) b3 rs) (sym told) sit);
        going = going_on o kinds is plain kind stands n takers until b1 h1 met same calm later early most some;
      };
      later = omega (arith, turns, later);
    }

pub unreachable-requires : goal.unreachable-requires
unreachable-requires g c =
    let kind = g.T.Rule.kind in
    let stands = g.T.Rule.stands_for in
    let o = c.args.stage.now.course.now in
    let kinds = map g.T.Rule.kind c.args.rules.items in
    let is = c.requires.joint in
    let plain = c.args.stage.now.plain in
    let n = c.loop-turn.t in
    let top = c.loop-turn.invariant.top in
    let early = top_early o kinds is plain n top.going in
    let turns = c.loop-turn.invariant.later in
    let past = c.loop-turn-test.false in
    absurd (omega (arith, early, turns, past))
