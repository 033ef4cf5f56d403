use Rattle.std.proofs.Common.{◌∷◌, [], codes, string_bytes}
use Rattle.std.specs.List.{flat_map}
use Rattle.lab_io.specs.Piece.{fields_line}
use Rattle.lab_io.proofs.Puts.{puts_as, puts_failed, puts_more}
use Rattle.lab_inputs.specs.Stages.{network_of}
use Rattle.abrlab_top.specs.Regret.{ranked_row}
use Rattle.abrlab_top.proofs.Regrets.{rows_are, scores_count}
use Rattle.abrlab_top.proofs.regret.put_network.Goals as goal

pub returns-in_err-put_fields : goal.returns-in_err-put_fields
returns-in_err-put_fields g c =
    puts_failed _ _ (fields_line (codes "trace" ∷ string_bytes c.args.network.now.name ∷ [])) (flat_map (ranked_row c.args.by c.args.inputs.now c.args.network.now.trace c.args.scored.now.top) c.args.inputs.now.rules) _ c.from_residual.result _
    c.in_err-put_fields.was c.from_residual.ensures.1 (rw c.deref.ensures at c.put_fields.ensures)

pub put_rows-requires-clause-count : goal.put_rows-requires-clause-count
put_rows-requires-clause-count g c = scores_count c.args.inputs.now (network_of c.args.network.now) c.rules.result.now c.args.scored.now c.rules.ensures.value c.requires.scored

pub returns : goal.returns
returns g c =
    let rows = rows_are c.args.by c.args.inputs.now (network_of c.args.network.now) c.rules.result.now c.args.scored.now c.rules.ensures.value c.requires.scored in
    puts_more _ _ _ (fields_line (codes "trace" ∷ string_bytes c.args.network.now.name ∷ [])) (flat_map (ranked_row c.args.by c.args.inputs.now c.args.network.now.trace c.args.scored.now.top) c.args.inputs.now.rules) _ _ _
    c.in_ok-put_fields.was (rw c.deref.ensures at c.put_fields.ensures) (puts_as _ _ _ _ _ rows c.put_rows.ensures)
