use Rattle.std.proofs.Common.{Some}
use Rattle.lab_io.proofs.Puts.{puts_as}
use Rattle.abrlab_top.specs.Answer.{printed}
use Rattle.abrlab_top.specs.Regret.{first_spent, regret, regret_text}
use Rattle.abrlab_top.specs.Stages.{at_the_end}
use Rattle.abrlab_top.proofs.Regrets.{best_text, regret_spent, regret_stopped, regretted, table_given, unspent_err}
use Rattle.abrlab_top.proofs.Whole.{all_settled, exit, put_done, put_failed, settings_stop, unsettled}
use Rattle.abrlab_top.proofs.regret.write_regrets.Goals as goal

pub returns-in_err-fit : goal.returns-in_err-fit
returns-in_err-fit g c =
    let i = c.args.inputs.now in
    let stop = unsettled i c.fit.result _ c.in_err-fit.was c.fit.ensures in
    exit at_the_end (regret c.args.budget i) _ _ c.from_residual.result _ c.from_residual.ensures.1 (settings_stop at_the_end i (regret c.args.budget i) _ _ stop (regret_stopped c.args.budget i _ stop))

pub score_all-requires : goal.score_all-requires
score_all-requires g c = record { fits = (all_settled c.args.inputs.now c.fit.result _ c.in_ok-fit.was c.fit.ensures).1; calm = c.requires }

pub returns-in_err-table : goal.returns-in_err-table
returns-in_err-table g c =
    let i = c.args.inputs.now in
    let done = all_settled i c.fit.result _ c.in_ok-fit.was c.fit.ensures in
    exit at_the_end (regret c.args.budget i) _ _ c.from_residual-in_err-table.result _ c.from_residual-in_err-table.ensures.1
    (regret_spent c.args.budget i _ _ done.0 (unspent_err (first_spent i (Some c.args.budget) 1 i.networks) _ c.score_all.result _ c.in_err-table.was c.score_all.ensures))

pub put_regrets-requires : goal.put_regrets-requires
put_regrets-requires g c =
    let i = c.args.inputs.now in
    let compared = table_given i (Some c.args.budget) c.score_all.result c.in_ok-table.table c.in_ok-table.was c.score_all.ensures in
    record { table = rw c.deref.ensures.value compared.1.scored }

pub returns-in_err-put_regrets : goal.returns-in_err-put_regrets
returns-in_err-put_regrets g c =
    let i = c.args.inputs.now in
    let done = all_settled i c.fit.result _ c.in_ok-fit.was c.fit.ensures in
    let compared = table_given i (Some c.args.budget) c.score_all.result c.in_ok-table.table c.in_ok-table.was c.score_all.ensures in
    exit at_the_end (regret c.args.budget i) _ _ c.from_residual-in_err-put_regrets.result _ c.from_residual-in_err-put_regrets.ensures.1
    (put_failed at_the_end (regret c.args.budget i) (printed (regret_text i)) _ _ c.put_regrets.result _ (regretted c.args.budget i done.0 compared.0) tt c.in_err-put_regrets.was
    (puts_as _ _ _ _ _ (best_text i c.args.budget c.in_ok-table.table.items compared.1) (rw c.deref.ensures.value at c.put_regrets.ensures)))

pub returns : goal.returns
returns g c =
    let i = c.args.inputs.now in
    let done = all_settled i c.fit.result _ c.in_ok-fit.was c.fit.ensures in
    let compared = table_given i (Some c.args.budget) c.score_all.result c.in_ok-table.table c.in_ok-table.was c.score_all.ensures in
    put_done at_the_end (regret c.args.budget i) (regret_text i) _ _ c.put_regrets.result _ (regretted c.args.budget i done.0 compared.0) c.in_ok-put_regrets.was
    (puts_as _ _ _ _ _ (best_text i c.args.budget c.in_ok-table.table.items compared.1) (rw c.deref.ensures.value at c.put_regrets.ensures))
