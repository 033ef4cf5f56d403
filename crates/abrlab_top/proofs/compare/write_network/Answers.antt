use Rattle.std.proofs.Common.{◌∙◌, ap}
use Rattle.lab_inputs.specs.Stages.{network_of}
use Rattle.abrlab_top.specs.Rows.{BenchValue}
use Rattle.abrlab_top.proofs.Networks.{bench_is, network_failed, network_written, rules_fit, rules_within}
use Rattle.abrlab_top.proofs.compare.write_network.Goals as goal

pub returns-in_err-put_fields : goal.returns-in_err-put_fields
returns-in_err-put_fields g c =
    network_failed c.args.inputs.now (network_of c.args.network.now) _ _ _ c.from_residual.result _ c.in_err-put_fields.was c.from_residual.ensures.1 (rw c.deref.ensures at c.put_fields.ensures)

pub write_rows-requires-clause-within : goal.write_rows-requires-clause-within
write_rows-requires-clause-within g c = rules_within c.args.inputs.now c.rules.result.now c.rules.ensures.value c.rules.ensures.within

pub write_rows-requires-clause-fits : goal.write_rows-requires-clause-fits
write_rows-requires-clause-fits g c =
    rules_fit c.args.inputs.now c.rules.result.now c.new-bench.result c.rules.ensures.value (ap (λ (b : BenchValue). b.film) c.new-bench.ensures ∙ c.manifest.ensures) c.requires.fits.rules

pub returns : goal.returns
returns g c =
    let i = c.args.inputs.now in
    let bench = bench_is i c.args.network.now.trace c.in-Ok.clock c.manifest.result.now c.setup.result.now c.seeks.result.now c.new-bench.result c.new-bench.ensures c.manifest.ensures c.in-Ok.ensures.clock c.setup.ensures c.seeks.ensures.value in
    network_written i (network_of c.args.network.now) c.new-bench.result c.rules.result.now _ _ _ _ c.write_rows.result _ c.in_ok-put_fields.was bench c.rules.ensures.value (rw c.deref.ensures at c.put_fields.ensures) c.write_rows.ensures
