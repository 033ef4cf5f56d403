use Rattle.std.proofs.Common.{Err, subst, sym}
use Rattle.abrlab_top.specs.Stages.{Judges}
use Rattle.abrlab_top.proofs.Judged.{bad_judged, misfit_judged, rest_fails, rest_read}
use Rattle.abrlab_top.proofs.check.misfit_behind.Goals as goal

pub returns-in-Ok : goal.returns-in-Ok
returns-in-Ok c = λ i n one fits is. misfit_judged c.args.gap i n c.args.why one fits (rest_read c.args.gap i.certificate c.args.lines is (c.in-Ok.ensures.plain i.certificate) (c.in-Ok.ensures.gap i.certificate))

pub returns-in-Err : goal.returns-in-Err
returns-in-Err c = λ i n one fits is.
    subst (λ h. Judges c.args.gap i (Err h)) (sym c.bad_line.ensures)
    (bad_judged c.args.gap i n c.in-Err.fault one (rest_fails c.args.gap i.certificate c.args.lines c.in-Err.fault is (c.in-Err.ensures.plain i.certificate) (c.in-Err.ensures.gap i.certificate)))
