use Rattle.std.proofs.Common.{◌≡◌, ◌∙◌, ◌+◌, ◌<◌, length, map, refl, sym, arith}
use Rattle.std.proofs.lemmas.Bool.Decides.{nat_tests}
use Rattle.std.proofs.lemmas.List.{map_push}
use Rattle.lab_model.proofs.Refusals.{fails_on, gives_error}
use Rattle.session_reader.specs.Form.{line_count, most_players, telling}
use Rattle.session_reader.proofs.Loops.{players_ended, players_full, players_more, players_stopped, players_unnamed}
use Rattle.session_reader.proofs.reader.read_players.Goals as goal

pub returns-then-is_empty : goal.returns-then-is_empty
returns-then-is_empty c =
    let none : length c.loop-i.rest.now ≡ 0 = grind (arith, nat_tests, c.if-is_empty.ensures) in
    sym c.loop-i.invariant.sessions ∙ players_ended (map telling c.loop-i.sessions.items) _ _ c.loop-i.row c.loop-i.rest.now none

pub returns-in_err-behind : goal.returns-in_err-behind
returns-in_err-behind c =
    let some : 0 < length c.loop-i.rest.now = grind (arith, nat_tests, c.if-is_empty.ensures) in
    gives_error _ c.from_residual.result c.in_err-behind.field-0.0 _ c.from_residual.ensures.1
    (fails_on _ _ _ c.in_err-behind.ensures
    (λ y h. sym c.loop-i.invariant.sessions ∙ players_unnamed (map telling c.loop-i.sessions.items) most_players c.loop-i.i c.loop-i.row c.loop-i.rest.now y c.loop-i-test.true some h))

pub returns-in_err-told : goal.returns-in_err-told
returns-in_err-told c =
    let some : 0 < length c.loop-i.rest.now = grind (arith, nat_tests, c.if-is_empty.ensures) in
    gives_error _ c.from_residual-in_err-told.result c.in_err-told.field-0.0 _ c.from_residual-in_err-told.ensures.1
    (fails_on _ _ _ c.in_err-told.ensures.told
    (λ y h. sym c.loop-i.invariant.sessions
    ∙ players_stopped (map telling c.loop-i.sessions.items) most_players c.loop-i.i c.loop-i.row c.loop-i.rest.now c.in_ok-behind.behind.now y c.loop-i-test.true some c.in_ok-behind.ensures h))

pub loop-i-preserved : goal.loop-i-preserved
loop-i-preserved c =
    let some : 0 < length c.loop-i.rest.now = grind (arith, nat_tests, c.if-is_empty.ensures) in
    let own = telling c.in_ok-told.told in
    let further : c.loop-i.row + (1 + line_count own) ≡ c.loop-i.row + 1 + line_count own = omega arith in
    record {
      sessions = rw (c.in_ok-push.ensures.ok, map_push telling c.loop-i.sessions.items c.in_ok-told.told, c.line_count.ensures, further)
          (players_more (map telling c.loop-i.sessions.items) own most_players c.loop-i.i c.loop-i.row c.loop-i.rest.now c.in_ok-behind.behind.now c.in_ok-told.behind.now c.loop-i-test.true some c.in_ok-behind.ensures c.in_ok-told.ensures.told
          ∙ c.loop-i.invariant.sessions);
      low = omega (arith, c.loop-i.invariant.low, c.line_count.ensures, c.in_ok-told.ensures.few);
    }

pub returns-in_err-read_nothing : goal.returns-in_err-read_nothing
returns-in_err-read_nothing c =
    gives_error _ c.from_residual-in_err-read_nothing.result c.in_err-read_nothing.field-0.0 _ c.from_residual-in_err-read_nothing.ensures.1
    (fails_on _ _ _ c.in_err-read_nothing.ensures
    (λ y h. sym c.loop-i.invariant.sessions ∙ players_full (map telling c.loop-i.sessions.items) most_players c.loop-i.i (c.loop-i.i + 1) c.loop-i.row c.loop-i.rest.now c.loop-i-test.false ∙ rw h refl))

pub returns : goal.returns
returns c =
    sym c.loop-i.invariant.sessions ∙ players_full (map telling c.loop-i.sessions.items) most_players c.loop-i.i (c.loop-i.i + 1) c.loop-i.row c.loop-i.rest.now c.loop-i-test.false ∙ rw c.in_ok-read_nothing.ensures refl
