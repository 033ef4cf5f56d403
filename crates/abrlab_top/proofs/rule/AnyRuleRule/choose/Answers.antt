use Rattle.abrlab_top.proofs.rule.AnyRuleRule.choose.Goals as goal

pub returns-in-Fixed-clause-choice : goal.returns-in-Fixed-clause-choice
returns-in-Fixed-clause-choice c = λ history h. rw c.in-Fixed.is (c.choose.ensures.choice history tt)

pub returns-in-Listed-clause-choice : goal.returns-in-Listed-clause-choice
returns-in-Listed-clause-choice c = λ history h. rw c.in-Listed.is (c.choose-in-Listed.ensures.choice history tt)

pub returns-in-Bola-clause-choice : goal.returns-in-Bola-clause-choice
returns-in-Bola-clause-choice c = λ history h. rw c.in-Bola.is (c.choose-in-Bola.ensures.choice history tt)
