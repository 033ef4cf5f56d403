use Rattle.std.proofs.Common.{◌≡◌, ◌∙◌, sym, ap, true}
use Rattle.std.proofs.lemmas.Bool.{cond-false}
use Rattle.player_core.specs.Course.{case_on}
use Rattle.player_core.specs.Parts.{asks, can_ask, rung_for}
use Rattle.player_core.specs.Seen.{seen}
use Rattle.player_core.proofs.body.Body.request.Goals as goal

pub returns-then-not-can_ask-clause-requests : goal.returns-then-not-can_ask-clause-requests
returns-then-not-can_ask-clause-requests g c = λ history told.
    let k = case_on c.args.course.now (g.T.Rule.kind c.args.rule.now) in
    let p = seen c.args.self.now history in
    sym (cond-false (can_ask k p) (asks k p (rung_for k p)) p (sym (c.can_ask.ensures.asks k.rule) ∙ c.if-not-can_ask.true))

pub returns-clause-requests : goal.returns-clause-requests
returns-clause-requests g c = λ history told.
    let k = case_on c.args.course.now (g.T.Rule.kind c.args.rule.now) in
    let there : can_ask k (seen c.args.self.now history) ≡ true = sym (c.can_ask.ensures.asks k.rule) ∙ c.if-not-can_ask.false in
    rw there (c.in_ok-ask.ensures.asks k.rule history ∙ ap (asks k (seen c.args.self.now history)) (c.rung_for-rung.ensures.value history told))
