use Rattle.std.proofs.Common.{◌≡◌, ◌∙◌, length, Ok, ap, arith, subst}
use Rattle.lab_io.specs.Sink.{Puts}
use Rattle.player_core.specs.Session.{shown}
use Rattle.abrlab_top.specs.Players.{players_text}
use Rattle.abrlab_top.proofs.Jointly.{line_cut, players_more, players_none, session_cut}
use Rattle.abrlab_top.proofs.players.write_players.Goals as goal

pub loop-place-init : goal.loop-place-init
loop-place-init g c = record { most = omega arith; told = λ shows are. players_none shows c.args.weights.now (g.O.Sink.seen c.args.out.now) }

pub loop-place-preserved : goal.loop-place-preserved
loop-place-preserved g c = record {
  most = let low = c.loop-place-test.true in omega (arith, low);
  told = λ shows are.
      players_more shows c.args.weights.now _ _ _ _ c.loop-place.place (shown c.index-sessions-place.result) c.put_player.result c.write_session.result _ _ c.in_ok-put_player.was c.in_ok-write_session.was
      (ap shown c.index-sessions-place.is ∙ are c.loop-place.place c.index-sessions-place.result c.loop-place-test.true) (c.loop-place.invariant.told shows are) c.put_player.ensures c.write_session.ensures;
}

pub returns-in_err-put_player : goal.returns-in_err-put_player
returns-in_err-put_player g c = λ shows are.
    line_cut shows c.args.weights.now _ _ _ c.loop-place.place (length c.args.sessions.now) _ c.from_residual.result _ c.loop-place-test.true c.in_err-put_player.was c.from_residual.ensures.1
    (c.loop-place.invariant.told shows are) c.put_player.ensures

pub returns-in_err-write_session : goal.returns-in_err-write_session
returns-in_err-write_session g c = λ shows are.
    session_cut shows c.args.weights.now _ _ _ _ c.loop-place.place (length c.args.sessions.now) (shown c.index-sessions-place.result) _ _ c.from_residual-in_err-write_session.result _ _ c.loop-place-test.true c.in_ok-put_player.was c.in_err-write_session.was c.from_residual-in_err-write_session.ensures.1
    (ap shown c.index-sessions-place.is ∙ are c.loop-place.place c.index-sessions-place.result c.loop-place-test.true) (c.loop-place.invariant.told shows are) c.put_player.ensures c.write_session.ensures

pub returns : goal.returns
returns g c = λ shows are.
    let most = c.loop-place.invariant.most in
    let least = c.loop-place-test.false in
    let all : c.loop-place.place ≡ length c.args.sessions.now = omega (arith, most, least) in
    subst (λ n. Puts (g.O.Sink.seen c.args.out.now) (players_text shows c.args.weights.now n) (g.O.Sink.seen c.loop-place.out) (Ok tt)) all (c.loop-place.invariant.told shows are)
