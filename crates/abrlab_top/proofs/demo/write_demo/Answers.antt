use Rattle.std.proofs.Common.{refl}
use Rattle.abrlab_top.specs.Demo.{task_in}
use Rattle.abrlab_top.proofs.MadeCase.{bench_made, demo_cut, demo_rows_cut, demo_told, made_fit, made_fits_budget, made_within, task_made}
use Rattle.abrlab_top.proofs.demo.write_demo.Goals as goal

pub returns-in_err-put_demo : goal.returns-in_err-put_demo
returns-in_err-put_demo g c = demo_cut c.args.number _ _ _ c.from_residual.result _ c.in_err-put_demo.was c.from_residual.ensures.1 c.put_demo.ensures

pub write_rows-requires-clause-within : goal.write_rows-requires-clause-within
write_rows-requires-clause-within g c = made_within c.in-Ok-Ok.rules.items c.deref.result.now c.deref.ensures.value c.in-Ok-Ok.ensures'

pub write_rows-requires-clause-fits : goal.write_rows-requires-clause-fits
write_rows-requires-clause-fits g c =
    let bench = bench_made c.args.number c.in-Ok-Ok.case c.in-Ok.clock _ c.new-bench.result c.new-bench.ensures refl c.in-Ok-Ok.ensures.manifest c.in-Ok.ensures.clock c.in-Ok-Ok.ensures.trace c.in-Ok-Ok.ensures.setup in
    made_fit c.args.number c.in-Ok-Ok.rules.items c.deref.result.now c.new-bench.result c.deref.ensures.value c.in-Ok-Ok.ensures' bench

pub returns-in_err-write_rows : goal.returns-in_err-write_rows
returns-in_err-write_rows g c =
    let bench = bench_made c.args.number c.in-Ok-Ok.case c.in-Ok.clock _ c.new-bench.result c.new-bench.ensures refl c.in-Ok-Ok.ensures.manifest c.in-Ok.ensures.clock c.in-Ok-Ok.ensures.trace c.in-Ok-Ok.ensures.setup in
    demo_rows_cut c.args.number c.new-bench.result c.in-Ok-Ok.rules.items c.deref.result.now _ _ _ _ _ c.from_residual-in_err-write_rows.result _ _ c.in_ok-put_demo.was c.in_err-write_rows.was c.from_residual-in_err-write_rows.ensures.1 bench c.deref.ensures.value c.in-Ok-Ok.ensures' c.put_demo.ensures c.write_rows.ensures

pub write_plan-requires-clause-budget : goal.write_plan-requires-clause-budget
write_plan-requires-clause-budget g c =
    made_fits_budget c.args.number (task_in c.in-Ok-Ok.case c.in-Ok.clock) c.requires (task_made c.args.number c.in-Ok-Ok.case c.in-Ok.clock c.in-Ok-Ok.ensures.manifest c.in-Ok.ensures.clock c.in-Ok-Ok.ensures.trace c.in-Ok-Ok.ensures.setup)

pub returns : goal.returns
returns g c =
    let bench = bench_made c.args.number c.in-Ok-Ok.case c.in-Ok.clock _ c.new-bench.result c.new-bench.ensures refl c.in-Ok-Ok.ensures.manifest c.in-Ok.ensures.clock c.in-Ok-Ok.ensures.trace c.in-Ok-Ok.ensures.setup in
    let task = task_made c.args.number c.in-Ok-Ok.case c.in-Ok.clock c.in-Ok-Ok.ensures.manifest c.in-Ok.ensures.clock c.in-Ok-Ok.ensures.trace c.in-Ok-Ok.ensures.setup in
    demo_told c.args.number c.new-bench.result (task_in c.in-Ok-Ok.case c.in-Ok.clock) c.in-Ok-Ok.rules.items c.deref.result.now _ _ _ _ _ _ c.write_plan.result _ _ c.in_ok-put_demo.was c.in_ok-write_rows.was bench task c.deref.ensures.value c.in-Ok-Ok.ensures' c.put_demo.ensures c.write_rows.ensures c.write_plan.ensures
