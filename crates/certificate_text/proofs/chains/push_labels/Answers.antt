use Rattle.std.proofs.Common.{◌∙◌, sym}
use Rattle.lab_model.proofs.Refusals.{fails_on, gives_error}
use Rattle.labels.specs.Parts.{chain_parts}
use Rattle.certificate_text.proofs.Loops.{labels_ended, labels_more, labels_stopped}
use Rattle.certificate_text.proofs.chains.push_labels.Goals as goal

pub returns-in_err-rest : goal.returns-in_err-rest
returns-in_err-rest c =
    gives_error _ c.from_residual.result c.in_err-rest.field-0.0 _ c.from_residual.ensures.1
    (fails_on _ _ _ c.in_err-rest.ensures (λ y h. sym c.loop-i.invariant ∙ labels_stopped (chain_parts c.loop-i.chain) c.args.row c.args.per c.args.count c.loop-i.i c.loop-i.rest.now y c.loop-i-test.true h))

pub loop-i-preserved : goal.loop-i-preserved
loop-i-preserved c =
    labels_more (chain_parts c.loop-i.chain) _ c.args.row c.args.per c.args.count c.loop-i.i c.loop-i.rest.now _ c.loop-i-test.true c.in_ok-rest.ensures ∙ c.loop-i.invariant

pub returns : goal.returns
returns c = sym c.loop-i.invariant ∙ labels_ended (chain_parts c.loop-i.chain) c.args.row c.args.per c.args.count c.loop-i.i c.loop-i.rest.now c.loop-i-test.false
