use Rattle.std.proofs.Common.{codes, subst, sym}
use Rattle.lab_io.specs.Piece.{fields_line}
use Rattle.lab_io.specs.Sink.{Puts}
use Rattle.lab_io.proofs.Puts.{puts_failed, puts_more}
use Rattle.abrlab_top.specs.Check.{place_fields, verdict_text}
use Rattle.abrlab_top.proofs.check.put_judgement.Goals as goal

pub returns-in_err-put_text-in-No : goal.returns-in_err-put_text-in-No
returns-in_err-put_text-in-No g c =
    let failure = fields_line (place_fields c.in-No.clause c.in-No.segment c.in-No.rung c.in-No.label) in
    subst (λ v. Puts (g.O.Sink.seen c.args.out.now) (verdict_text c.args.gap c.args.said.score c.args.said.bound v) (g.O.Sink.seen c.put_text.new.out) c.from_residual.result) (sym c.in-No.is)
    (puts_failed _ _ (codes "no V") failure c.put_text.result c.from_residual.result _ c.in_err-put_text-in-No.was c.from_residual.ensures.1 c.put_text.ensures)

pub returns-in_ok-put_text-in-No : goal.returns-in_ok-put_text-in-No
returns-in_ok-put_text-in-No g c =
    let failure = fields_line (place_fields c.in-No.clause c.in-No.segment c.in-No.rung c.in-No.label) in
    subst (λ v. Puts (g.O.Sink.seen c.args.out.now) (verdict_text c.args.gap c.args.said.score c.args.said.bound v) (g.O.Sink.seen c.put_failure.new.out) c.put_failure.result) (sym c.in-No.is)
    (puts_more _ _ _ (codes "no V") failure c.put_text.result c.put_failure.result _ c.in_ok-put_text-in-No.was c.put_text.ensures c.put_failure.ensures)
