use Rattle.std.proofs.Common.{Option, subst}
use Rattle.labels.specs.Grid.{Rounding}
use Rattle.lab_io.specs.Sink.{Puts}
use Rattle.abrlab_top.specs.Plan.{list_lines, planned_on}
use Rattle.abrlab_top.specs.Stages.{at_the_end}
use Rattle.abrlab_top.proofs.Plans.{list_failed, list_given, list_said}
use Rattle.abrlab_top.proofs.Whole.{exit, put_done, put_failed}
use Rattle.abrlab_top.proofs.plan.write_list.Goals as goal

pub returns-in_err-list : goal.returns-in_err-list
returns-in_err-list g c =
    let o = c.args.options in
    let t = c.args.scene.now in
    exit at_the_end (planned_on o t) _ _ c.from_residual.result _ c.from_residual.ensures.1 (list_failed o t _ c.list_on.result _ c.in_err-list.was c.list_on.ensures.answer)

pub returns-in_err-put_list : goal.returns-in_err-put_list
returns-in_err-put_list g c =
    let o = c.args.options in
    let t = c.args.scene.now in
    let said = list_said o t c.in_ok-list.list c.requires.list (list_given o t c.list_on.result _ c.in_ok-list.was c.list_on.ensures.answer) in
    let puts = subst (λ (grid : Option Rounding). Puts (g.O.Sink.seen c.args.out.now) (list_lines grid c.in_ok-list.list.score c.in_ok-list.list.bound c.in_ok-list.list.labels c.in_ok-list.list.rungs.items) (g.O.Sink.seen c.put_list.new.out) c.put_list.result) c.grid.ensures c.put_list.ensures in
    exit at_the_end (planned_on o t) _ _ c.from_residual-in_err-put_list.result _ c.from_residual-in_err-put_list.ensures.1 (put_failed at_the_end (planned_on o t) _ _ _ c.put_list.result _ said tt c.in_err-put_list.was puts)

pub returns : goal.returns
returns g c =
    let o = c.args.options in
    let t = c.args.scene.now in
    let said = list_said o t c.in_ok-list.list c.requires.list (list_given o t c.list_on.result _ c.in_ok-list.was c.list_on.ensures.answer) in
    let puts = subst (λ (grid : Option Rounding). Puts (g.O.Sink.seen c.args.out.now) (list_lines grid c.in_ok-list.list.score c.in_ok-list.list.bound c.in_ok-list.list.labels c.in_ok-list.list.rungs.items) (g.O.Sink.seen c.put_list.new.out) c.put_list.result) c.grid.ensures c.put_list.ensures in
    put_done at_the_end (planned_on o t) _ _ _ c.put_list.result _ said c.in_ok-put_list.was puts
