use Rattle.std.proofs.Common.{[], None}
use Rattle.abrlab_top.specs.declared.ending.Ending.TheVariants as ending
use Rattle.abrlab_top.specs.Answer.{printed}
use Rattle.abrlab_top.specs.Regret.{first_spent, near_regret, ranked_text, tops_of}
use Rattle.abrlab_top.specs.Stages.{at_the_end}
use Rattle.session_report.specs.declared.regret.Top.TheVariants as top
use Rattle.abrlab_top.proofs.Chosen.{bounds_unwritten}
use Rattle.abrlab_top.proofs.Regrets.{bounded, bounds_of, bounds_stopped, only_memory, table_given, unspent_err}
use Rattle.abrlab_top.proofs.Whole.{all_settled, exit, put_done, put_failed, settings_stop, unsettled, wanting}
use Rattle.abrlab_top.proofs.regret.write_near_regrets.Goals as goal

pub returns-in_err-fit : goal.returns-in_err-fit
returns-in_err-fit g c =
    let i = c.args.inputs.now in
    let stop = unsettled i c.fit.result _ c.in_err-fit.was c.fit.ensures in
    bounds_unwritten i _ _ c.from_residual.result _ c.from_residual.ensures.1 (λ h. h) (settings_stop at_the_end i (near_regret [] i) _ _ stop (bounds_stopped [] i _ stop))

pub score_all-requires : goal.score_all-requires
score_all-requires g c = record { fits = (all_settled c.args.inputs.now c.fit.result _ c.in_ok-fit.was c.fit.ensures).1; calm = c.requires }

pub returns-in_err-table : goal.returns-in_err-table
returns-in_err-table g c =
    let i = c.args.inputs.now in
    let memory = only_memory i _ (unspent_err (first_spent i None 1 i.networks) _ c.score_all.result _ c.in_err-table.was c.score_all.ensures) in
    bounds_unwritten i _ _ c.from_residual-in_err-table.result ending.NoMemory (rw memory at c.from_residual-in_err-table.ensures.1) (λ h. h) (wanting at_the_end (near_regret [] i) _)

pub put_regrets-requires : goal.put_regrets-requires
put_regrets-requires g c =
    let i = c.args.inputs.now in
    let compared = table_given i None c.score_all.result c.in_ok-table.table c.in_ok-table.was c.score_all.ensures in
    record { table = rw c.deref.ensures.value compared.1.scored }

pub returns-in_err-put_regrets : goal.returns-in_err-put_regrets
returns-in_err-put_regrets g c =
    let i = c.args.inputs.now in
    let done = all_settled i c.fit.result _ c.in_ok-fit.was c.fit.ensures in
    let compared = table_given i None c.score_all.result c.in_ok-table.table c.in_ok-table.was c.score_all.ensures in
    let tops = tops_of c.in_ok-table.table.items in
    record {
      bounds = tops;
      are = λ h. bounds_of i c.in_ok-table.table.items compared.1;
      writes = exit at_the_end (near_regret tops i) _ _ c.from_residual-in_err-put_regrets.result _ c.from_residual-in_err-put_regrets.ensures.1
          (put_failed at_the_end (near_regret tops i) (printed (ranked_text top.Bound i tops)) _ _ c.put_regrets.result _ (bounded tops i done.0) tt c.in_err-put_regrets.was (rw c.deref.ensures.value at c.put_regrets.ensures));
    }

pub returns : goal.returns
returns g c =
    let i = c.args.inputs.now in
    let done = all_settled i c.fit.result _ c.in_ok-fit.was c.fit.ensures in
    let compared = table_given i None c.score_all.result c.in_ok-table.table c.in_ok-table.was c.score_all.ensures in
    let tops = tops_of c.in_ok-table.table.items in
    record {
      bounds = tops;
      are = λ h. bounds_of i c.in_ok-table.table.items compared.1;
      writes = put_done at_the_end (near_regret tops i) (ranked_text top.Bound i tops) _ _ c.put_regrets.result _ (bounded tops i done.0) c.in_ok-put_regrets.was (rw c.deref.ensures.value at c.put_regrets.ensures);
    }
