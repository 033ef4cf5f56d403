use Rattle.std.proofs.Common.{refl, sym}
use Rattle.lab_words.specs.Command.{named}
use Rattle.abrlab_top.specs.Rows.{session_row}
use Rattle.abrlab_top.proofs.RowByRow.{rows_as, rows_end, rows_failed, rows_from, rows_more, rows_none}
use Rattle.abrlab_top.proofs.row.Bench.write_rows.Goals as goal

pub loop-rule-preserved : goal.loop-rule-preserved
loop-rule-preserved g c = λ end answer h.
    c.loop-rule.invariant end answer (rows_as _ _ _ _ _ (sym (rows_from (session_row c.args.self.now) named c.args.rules.now c.loop-rule.rule-index c.rule-item.result c.loop-rule-test.true c.rule-item.is))
    (rows_more _ _ _ _ _ _ _ _ c.in_ok-write_row.was c.write_row.ensures h))

pub returns-in_err-write_row : goal.returns-in_err-write_row
returns-in_err-write_row g c =
    c.loop-rule.invariant _ _ (rows_as _ _ _ _ _ (sym (rows_from (session_row c.args.self.now) named c.args.rules.now c.loop-rule.rule-index c.rule-item.result c.loop-rule-test.true c.rule-item.is))
    (rows_failed _ _ _ _ _ c.from_residual.result _ c.in_err-write_row.was c.from_residual.ensures.1 c.write_row.ensures))

pub returns : goal.returns
returns g c = c.loop-rule.invariant _ _ (rw (rows_end (session_row c.args.self.now) named c.args.rules.now c.loop-rule.rule-index c.loop-rule-test.false) (rows_none _ _ refl))
