use Rattle.std.proofs.Common.{◌∙◌, ap, refl, sym}
use Rattle.std.specs.List.{flat_map}
use Rattle.lab_io.proofs.Puts.{puts_as, puts_failed, puts_more, puts_none}
use Rattle.lab_words.specs.Command.{named}
use Rattle.session_report.specs.Regret.{sums_line}
use Rattle.abrlab_top.specs.Regret.{sums_row, tops_of}
use Rattle.abrlab_top.proofs.RowByRow.{rows_end, rows_from}
use Rattle.abrlab_top.proofs.Regrets.{all_wide, total_is}
use Rattle.abrlab_top.proofs.regret.put_totals.Goals as goal

pub loop-index-init : goal.loop-index-init
loop-index-init g c = λ end answer h. puts_as _ _ _ _ _ (ap (flat_map (sums_row c.args.by c.args.inputs.now (tops_of c.args.table.now))) c.rules-rules.ensures.value) h

pub total_at-requires-clause-few : goal.total_at-requires-clause-few
total_at-requires-clause-few g c = c.requires.table.few

pub total_at-requires-clause-wide : goal.total_at-requires-clause-wide
total_at-requires-clause-wide g c = all_wide c.args.inputs.now c.args.table.now c.rules-rules.result.now c.loop-index.index c.rules-rules.ensures.value c.requires.table.values c.loop-index-test.true

pub total_at-requires-clause-ranked : goal.total_at-requires-clause-ranked
total_at-requires-clause-ranked g c = c.requires.table.ranked

pub loop-index-preserved : goal.loop-index-preserved
loop-index-preserved g c = λ end answer h.
    let line = total_is c.args.by c.args.inputs.now c.args.table.now c.loop-index.index c.rules-rules.result.now c.index-rules-index.result c.total_at.result c.rules-rules.ensures.value c.requires.table.values c.loop-index-test.true c.index-rules-index.is c.total_at.ensures in
    c.loop-index.invariant end answer
    (puts_as _ _ _ _ _ (sym (rows_from (sums_row c.args.by c.args.inputs.now (tops_of c.args.table.now)) named c.rules-rules.result.now c.loop-index.index c.index-rules-index.result c.loop-index-test.true c.index-rules-index.is))
    (puts_more _ _ _ _ _ _ _ _ c.in_ok-put_total.was (puts_as _ _ _ _ _ (ap (λ name. sums_line c.args.by name c.total_at.result) c.deref.ensures ∙ line) c.put_total.ensures) h))

pub returns-in_err-put_total : goal.returns-in_err-put_total
returns-in_err-put_total g c =
    let line = total_is c.args.by c.args.inputs.now c.args.table.now c.loop-index.index c.rules-rules.result.now c.index-rules-index.result c.total_at.result c.rules-rules.ensures.value c.requires.table.values c.loop-index-test.true c.index-rules-index.is c.total_at.ensures in
    c.loop-index.invariant _ _
    (puts_as _ _ _ _ _ (sym (rows_from (sums_row c.args.by c.args.inputs.now (tops_of c.args.table.now)) named c.rules-rules.result.now c.loop-index.index c.index-rules-index.result c.loop-index-test.true c.index-rules-index.is))
    (puts_failed _ _ _ _ _ c.from_residual.result _ c.in_err-put_total.was c.from_residual.ensures.1 (puts_as _ _ _ _ _ (ap (λ name. sums_line c.args.by name c.total_at.result) c.deref.ensures ∙ line) c.put_total.ensures)))

pub returns : goal.returns
returns g c = c.loop-index.invariant _ _ (rw (rows_end (sums_row c.args.by c.args.inputs.now (tops_of c.args.table.now)) named c.rules-rules.result.now c.loop-index.index c.loop-index-test.false) (puts_none _ _ refl))
