use Rattle.std.proofs.Common.{Err, subst, sym}
use Rattle.lab_model.specs.Reading.{Fails}
use Rattle.lab_inputs.specs.Stages.{network_of}
use Rattle.abrlab_top.specs.Claim.{claim_begun}
use Rattle.abrlab_top.specs.Stages.{Judges}
use Rattle.abrlab_top.proofs.Judged.{bad_judged, begun_fails}
use Rattle.abrlab_top.proofs.check.judge.Goals as goal

pub returns-in-Err : goal.returns-in-Err
returns-in-Err c =
    let i = c.args.inputs.now in
    let fails = subst (λ bytes. Fails c.in-Err.fault (claim_begun c.args.gap bytes)) c.certificate.ensures c.in-Err.ensures.walk in
    subst (λ h. Judges c.args.gap i (Err h)) (sym c.bad_line.ensures) (bad_judged c.args.gap i (network_of c.args.network.now) c.in-Err.fault c.requires.network (begun_fails c.args.gap i.certificate c.in-Err.fault fails))
