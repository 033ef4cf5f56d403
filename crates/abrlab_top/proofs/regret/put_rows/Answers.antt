use Rattle.std.proofs.Common.{◌<◌, refl, rules, string_bytes, subst, sym}
use Rattle.std.specs.Int.{w128}
use Rattle.std.proofs.lemmas.Int.{to_z-of_z}
use Rattle.lab_io.proofs.Puts.{puts_as, puts_failed, puts_more, puts_none}
use Rattle.abrlab_top.proofs.Regrets.{row_as, rows_next, rows_over}
use Rattle.abrlab_top.proofs.regret.put_rows.Goals as goal

pub loop-index-preserved : goal.loop-index-preserved
loop-index-preserved g c = λ end answer h.
    let low = subst (λ n. c.loop-index.index < n) (sym c.requires.count) c.loop-index-test.true in
    let score = to_z-of_z w128 c.index.result.now (search rules) in
    let top = to_z-of_z w128 c.args.scored.now.top (search rules) in
    c.loop-index.invariant end answer
    (puts_as _ _ _ _ _ (sym (rows_next c.args.by c.args.rules.now c.args.scored.now.scores.items c.args.scored.now.top c.loop-index.index c.index-rules-index.result c.index.result.now c.loop-index-test.true c.index-rules-index.is low c.index.ensures))
    (puts_more _ _ _ _ _ _ _ _ c.in_ok-put_row.was (puts_as _ _ _ _ _ (row_as c.args.by _ (string_bytes c.index-rules-index.result.name) _ _ c.index.result.now c.args.scored.now.top c.deref.ensures score top) c.put_row.ensures) h))

pub returns-in_err-put_row : goal.returns-in_err-put_row
returns-in_err-put_row g c =
    let low = subst (λ n. c.loop-index.index < n) (sym c.requires.count) c.loop-index-test.true in
    let score = to_z-of_z w128 c.index.result.now (search rules) in
    let top = to_z-of_z w128 c.args.scored.now.top (search rules) in
    c.loop-index.invariant _ _
    (puts_as _ _ _ _ _ (sym (rows_next c.args.by c.args.rules.now c.args.scored.now.scores.items c.args.scored.now.top c.loop-index.index c.index-rules-index.result c.index.result.now c.loop-index-test.true c.index-rules-index.is low c.index.ensures))
    (puts_failed _ _ _ _ _ c.from_residual.result _ c.in_err-put_row.was c.from_residual.ensures.1 (puts_as _ _ _ _ _ (row_as c.args.by _ (string_bytes c.index-rules-index.result.name) _ _ c.index.result.now c.args.scored.now.top c.deref.ensures score top) c.put_row.ensures)))

pub returns : goal.returns
returns g c = c.loop-index.invariant _ _ (rw (rows_over c.args.by c.args.rules.now c.args.scored.now.scores.items c.args.scored.now.top c.loop-index.index c.loop-index-test.false) (puts_none _ _ refl))
