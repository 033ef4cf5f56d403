use Rattle.std.proofs.Common.{refl}
use Rattle.abrlab_top.specs.Demo.{demo, demo_text}
use Rattle.abrlab_top.specs.Stages.{row_by_row}
use Rattle.abrlab_top.proofs.RowByRow.{rows_done, rows_ended}
use Rattle.abrlab_top.proofs.Whole.{exit}
use Rattle.abrlab_top.proofs.demo.demo.Goals as goal

pub returns-in_err-write_demo : goal.returns-in_err-write_demo
returns-in_err-write_demo g c =
    exit row_by_row (demo c.args.number) _ _ c.from_residual.result _ c.from_residual.ensures.1 (rows_ended (demo c.args.number) (demo_text c.args.number) _ _ c.write_demo.result _ refl c.in_err-write_demo.was c.write_demo.ensures)

pub returns : goal.returns
returns g c = rows_done (demo c.args.number) (demo_text c.args.number) _ _ c.write_demo.result _ refl c.in_ok-write_demo.was c.write_demo.ensures
