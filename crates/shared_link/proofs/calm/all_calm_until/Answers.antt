use Rattle.std.proofs.Common.{◌≡◌, ◌∙◌, ℕ, ◌<◌, length, get_or, sym, ap, subst, true, arith}
use Rattle.std.proofs.lemmas.Bool.{true≢false}
use Rattle.player_core.specs.declared.body.Body.{Body}
use Rattle.player_core.specs.Parts.{is_ended}
use Rattle.player_core.specs.Seen.{mode_of}
use Rattle.shared_link.specs.Calm.{StaysCalm}
use Rattle.shared_link.specs.Table.{BodyGoesOn}
use Rattle.shared_link.proofs.Stays.{calm_next, stays_less}
use Rattle.shared_link.proofs.calm.all_calm_until.Goals as goal
use Rattle.shared_link.proofs.calm.all_calm_until.Goals.{then-not-is_ended, else-not-is_ended}

pub loop-body-preserved : goal.loop-body-preserved
loop-body-preserved c =
    let h = c.loop-body.invariant in
    let later = h.later in
    let limit = h.limit in
    let o = c.args.lane.now.stage.course.now in
    let bodies = c.args.bodies.now in
    let body = c.body-item.result in
    let times = λ (i : ℕ) (d : Body) (low : i < length bodies) (on : BodyGoesOn (get_or bodies i d)). (c.requires.rest i d low on).0 in
    let inside = c.loop-body-test.true in
    let mode = c.is_ended.ensures in
    elim c.if-not-is_ended.branch [
      | then-not-is_ended w ↦
          let goes : BodyGoesOn body = sym mode ∙ w.if-not-is_ended.true in
          let at : body.t ≡ c.args.t = ap (λ (b : Body). b.t) c.body-item.is ∙ times c.loop-body.body-index body inside (subst BodyGoesOn c.body-item.is goes) in
          let calm : StaysCalm o c.args.lane.now.takers w.calm_until.result body = w.calm_until.ensures in
          let past = calm.later in
          let least = w.min-until.ensures in
          let now = w.until-is in
          let after : c.args.t < c.if-not-is_ended.until = omega (arith, later, past, at, least, now) in
          record {
            later = after;
            limit = omega (arith, limit, least, now);
            calm = calm_next o c.args.lane.now.takers c.loop-body.until c.if-not-is_ended.until c.loop-body.body-index c.args.t bodies body h.calm times inside c.body-item.is after (omega (arith, least, now))
                (λ on. stays_less o c.args.lane.now.takers w.calm_until.result c.if-not-is_ended.until body calm (omega (arith, after, at)) (omega (arith, least, now)));
          }
      | else-not-is_ended w ↦
          let over : is_ended (mode_of body.mode) ≡ true = sym mode ∙ w.if-not-is_ended.false in
          let now = w.until-is in
          let after : c.args.t < c.if-not-is_ended.until = omega (arith, later, now) in
          record {
            later = after;
            limit = omega (arith, limit, now);
            calm = calm_next o c.args.lane.now.takers c.loop-body.until c.if-not-is_ended.until c.loop-body.body-index c.args.t bodies body h.calm times inside c.body-item.is after (omega (arith, now))
                (λ on. absurd (true≢false (sym over ∙ on)));
          }
    ]
