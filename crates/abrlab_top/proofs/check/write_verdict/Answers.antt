use Rattle.std.proofs.Common.{subst, sym}
use Rattle.abrlab_top.specs.Check.{check}
use Rattle.abrlab_top.specs.Stages.{Writes, of_a_check}
use Rattle.abrlab_top.proofs.Judged.{judge_failed, judge_given, no_network, verdict_done, verdict_failed}
use Rattle.abrlab_top.proofs.Whole.{exit, none_there, nothing_printed, some_there}
use Rattle.abrlab_top.proofs.check.write_verdict.Goals as goal

pub returns-in_default : goal.returns-in_default
returns-in_default g c = nothing_printed of_a_check (check c.args.gap c.args.inputs.now) (g.O.Sink.seen c.args.out.now) (no_network c.args.gap c.args.inputs.now (none_there _ _ _ c.in_default.is c.network.ensures))

pub judge-requires : goal.judge-requires
judge-requires g c = record { network = some_there _ _ _ _ c.in-Some.is c.network.ensures }

pub returns-in_err-said : goal.returns-in_err-said
returns-in_err-said g c =
    exit of_a_check (check c.args.gap c.args.inputs.now) _ _ c.from_residual.result _ c.from_residual.ensures.1 (judge_failed c.args.gap c.args.inputs.now _ c.judge.result _ c.in_err-said.was c.judge.ensures)

pub returns-in_err-put_judgement : goal.returns-in_err-put_judgement
returns-in_err-put_judgement g c =
    let i = c.args.inputs.now in
    exit of_a_check (check c.args.gap i) _ _ c.from_residual-in_err-put_judgement.result _ c.from_residual-in_err-put_judgement.ensures.1
    (verdict_failed c.args.gap i c.in_ok-said.said _ _ c.put_judgement.result _ (judge_given c.args.gap i c.judge.result _ c.in_ok-said.was c.judge.ensures) c.in_err-put_judgement.was c.put_judgement.ensures)

pub returns : goal.returns
returns g c =
    let i = c.args.inputs.now in
    subst (λ e. Writes of_a_check (check c.args.gap i) (g.O.Sink.seen c.args.out.now) e (g.O.Sink.seen c.put_judgement.new.out)) (sym c.verdict_end.ensures)
    (verdict_done c.args.gap i c.in_ok-said.said _ _ c.put_judgement.result _ (judge_given c.args.gap i c.judge.result _ c.in_ok-said.was c.judge.ensures) c.in_ok-put_judgement.was c.put_judgement.ensures)
