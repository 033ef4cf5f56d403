use Rattle.std.proofs.Common.{Option, subst}
use Rattle.labels.specs.Grid.{Rounding}
use Rattle.lab_io.specs.Sink.{Puts}
use Rattle.labels.specs.Parts.{plan_parts}
use Rattle.abrlab_top.specs.Plan.{certificate_lines, planned_on}
use Rattle.abrlab_top.specs.Stages.{at_the_end}
use Rattle.abrlab_top.proofs.Plans.{certificate_said, plan_failed, plan_given}
use Rattle.abrlab_top.proofs.Whole.{exit, put_done, put_failed}
use Rattle.abrlab_top.proofs.plan.write_proof.Goals as goal

pub returns-in_err-planned : goal.returns-in_err-planned
returns-in_err-planned g c =
    let o = c.args.options in
    let t = c.args.scene.now in
    exit at_the_end (planned_on o t) _ _ c.from_residual.result _ c.from_residual.ensures.1 (plan_failed o t _ c.plan_on.result _ c.in_err-planned.was c.plan_on.ensures)

pub returns-in_err-put_certificate : goal.returns-in_err-put_certificate
returns-in_err-put_certificate g c =
    let o = c.args.options in
    let t = c.args.scene.now in
    let said = certificate_said o t c.in_ok-planned.planned c.requires.certificate (plan_given o t c.plan_on.result _ c.in_ok-planned.was c.plan_on.ensures) in
    let puts = subst (λ (grid : Option Rounding). Puts (g.O.Sink.seen c.args.out.now) (certificate_lines grid (plan_parts c.args.scene.now.film c.in_ok-planned.planned.plan) c.in_ok-planned.planned.bound) (g.O.Sink.seen c.put_certificate.new.out) c.put_certificate.result) c.grid.ensures (rw c.film.ensures.value at c.put_certificate.ensures) in
    exit at_the_end (planned_on o t) _ _ c.from_residual-in_err-put_certificate.result _ c.from_residual-in_err-put_certificate.ensures.1 (put_failed at_the_end (planned_on o t) _ _ _ c.put_certificate.result _ said tt c.in_err-put_certificate.was puts)

pub returns : goal.returns
returns g c =
    let o = c.args.options in
    let t = c.args.scene.now in
    let said = certificate_said o t c.in_ok-planned.planned c.requires.certificate (plan_given o t c.plan_on.result _ c.in_ok-planned.was c.plan_on.ensures) in
    let puts = subst (λ (grid : Option Rounding). Puts (g.O.Sink.seen c.args.out.now) (certificate_lines grid (plan_parts c.args.scene.now.film c.in_ok-planned.planned.plan) c.in_ok-planned.planned.bound) (g.O.Sink.seen c.put_certificate.new.out) c.put_certificate.result) c.grid.ensures (rw c.film.ensures.value at c.put_certificate.ensures) in
    put_done at_the_end (planned_on o t) _ _ _ c.put_certificate.result _ said c.in_ok-put_certificate.was puts
