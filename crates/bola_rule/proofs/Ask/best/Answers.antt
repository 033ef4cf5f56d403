use Rattle.std.proofs.Common.{◌≡◌, ◌∙◌, ◌<◌, sym, subst, arith}
use Rattle.lab_model.specs.Bola.{bola_at_most}
use Rattle.lab_model.specs.Film.{IsFilm, rungs_of}
use Rattle.bola_rule.proofs.Leader.{IsLeader, leader_chosen, leads_now, leads_on}
use Rattle.bola_rule.proofs.Order.{scores_order}
use Rattle.bola_rule.proofs.Ask.best.Goals as goal
use Rattle.bola_rule.proofs.Ask.best.Goals.{else-not-is_at_most, then-not-is_at_most}

pub loop-rung-preserved : goal.loop-rung-preserved
loop-rung-preserved c =
    let film : IsFilm c.args.self.now.film = rw (← c.self.view_is) c.rungs-rung-end.ensures.film in
    let rungs : c.rungs-rung-end.result ≡ rungs_of c.args.self.now.film = rw (← c.self.view_is) c.rungs-rung-end.ensures.value in
    let ordered = scores_order c.args.self.now.g c.args.self.now.film c.args.self.now.setup c.args.self.now.context film in
    let low : c.loop-rung.rung < rungs_of c.args.self.now.film = omega (arith, c.loop-rung-test.true, rungs) in
    elim c.if-not-is_at_most.branch [
      | then-not-is_at_most w ↦ rw w.best-is (leads_now _ _ _ _ ordered low c.loop-rung.invariant (sym c.is_at_most.ensures ∙ w.if-not-is_at_most.true))
      | else-not-is_at_most w ↦ rw w.best-is (leads_on _ _ _ c.loop-rung.invariant (sym c.is_at_most.ensures ∙ w.if-not-is_at_most.false))
    ]

pub returns-clause-choice : goal.returns-clause-choice
returns-clause-choice c =
    let film : IsFilm c.args.self.now.film = rw (← c.self.view_is) c.rungs-rung-end.ensures.film in
    let rungs : c.rungs-rung-end.result ≡ rungs_of c.args.self.now.film = rw (← c.self.view_is) c.rungs-rung-end.ensures.value in
    let all : c.loop-rung.rung ≡ rungs_of c.args.self.now.film = omega (arith, c.loop-rung-test.false, c.loop-rung.auto.rung-end, rungs, film.rungs) in
    leader_chosen (bola_at_most c.args.self.now.g c.args.self.now.film c.args.self.now.setup c.args.self.now.context) (rungs_of c.args.self.now.film) c.loop-rung.best
    (subst (λ n. IsLeader (bola_at_most c.args.self.now.g c.args.self.now.film c.args.self.now.setup c.args.self.now.context) n c.loop-rung.best) all c.loop-rung.invariant)
