use Rattle.std.proofs.Common.{◌≡◌, ◌∙◌, ◌<◌, sym, length, refl, arith}
use Rattle.std.proofs.lemmas.Bool.{eqb-false, eqb-true}
use Rattle.mpc_rule.proofs.History.{stands_first, stands_more}
use Rattle.mpc_rule.proofs.RobustMpcRule.observe.Goals as goal
use Rattle.mpc_rule.proofs.RobustMpcRule.observe.Goals.{then-not-is_empty, else-not-is_empty}

pub returns-clause-told : goal.returns-clause-told
returns-clause-told c = λ history s.
    let before = rw (← c.self.view_is) at s in
    elim c.if-not-is_empty.branch [
      | then-not-is_empty w ↦
          let rates = rw w.self-inside-is at c.push-2.ensures in
          let some : 0 < length c.self.inside.rates = let no = eqb-false _ _ (sym c.is_empty.ensures ∙ w.if-not-is_empty.true) in omega (arith, no) in
          rw w.self-inside-is (stands_more _ _ history c.args.s.rate w.error.result before some w.error.ensures.value rates w.push.ensures)
      | else-not-is_empty w ↦
          let rates = rw w.self-inside-is at c.push-2.ensures in
          let none : length c.self.inside.rates ≡ 0 = eqb-true _ _ (sym c.is_empty.ensures ∙ w.if-not-is_empty.false) in
          rw w.self-inside-is (stands_first _ _ history c.args.s.rate before none rates refl)
    ]
