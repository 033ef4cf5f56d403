use Rattle.std.proofs.Common.{length}
use Rattle.lab_io.specs.Piece.{fields_line}
use Rattle.lab_io.proofs.Puts.{puts_failed, puts_more}
use Rattle.certificate_text.specs.Spelling.{label_lines, layer_fields, lines_text}
use Rattle.certificate_text.proofs.writer.put_chain.Goals as goal

pub returns-in_err-put_layer : goal.returns-in_err-put_layer
returns-in_err-put_layer g c =
    puts_failed _ _ (fields_line (layer_fields c.args.segment c.args.rung (length c.args.chain.now.labels.items))) (lines_text (label_lines c.args.per c.args.chain.now.labels.items c.args.chain.now.names.items))
    _ c.from_residual.result _ c.in_err-put_layer.was c.from_residual.ensures.1 (rw c.as_slice-labels.ensures.value at c.put_layer.ensures)

pub returns : goal.returns
returns g c =
    puts_more _ _ _ (fields_line (layer_fields c.args.segment c.args.rung (length c.args.chain.now.labels.items))) (lines_text (label_lines c.args.per c.args.chain.now.labels.items c.args.chain.now.names.items))
    _ _ _ c.in_ok-put_layer.was (rw c.as_slice-labels.ensures.value at c.put_layer.ensures) (rw (c.as_slice-labels.ensures.value, c.deref.ensures.value) at c.put_labels.ensures)
