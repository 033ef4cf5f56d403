use Rattle.std.proofs.Common.{codes}
use Rattle.lab_io.proofs.Puts.{puts_failed, puts_more}
use Rattle.lab_inputs.specs.Roles.{role_row}
use Rattle.lab_inputs.proofs.note.put_file.Goals as goal

pub returns-in_err-put_text : goal.returns-in_err-put_text
returns-in_err-put_text g c =
    puts_failed _ _ (codes "abrlab: ") _ _ c.from_residual.result _ c.in_err-put_text.was c.from_residual.ensures.1 c.put_text.ensures

pub returns-in_err-put : goal.returns-in_err-put
returns-in_err-put g c =
    puts_more _ _ _ (codes "abrlab: ") _ _ _ _ c.in_ok-put_text.was c.put_text.ensures
    (puts_failed _ _ ((role_row c.args.role).words) _ _ c.from_residual-in_err-put.result _ c.in_err-put.was c.from_residual-in_err-put.ensures.1 c.put.ensures)

pub returns-in_err-put_text-2 : goal.returns-in_err-put_text-2
returns-in_err-put_text-2 g c =
    puts_more _ _ _ (codes "abrlab: ") _ _ _ _ c.in_ok-put_text.was c.put_text.ensures
    (puts_more _ _ _ ((role_row c.args.role).words) _ _ _ _ c.in_ok-put.was c.put.ensures
    (puts_failed _ _ (codes " file: ") _ _ c.from_residual-in_err-put_text-2.result _ c.in_err-put_text-2.was c.from_residual-in_err-put_text-2.ensures.1 c.put_text-2.ensures))

pub returns : goal.returns
returns g c =
    puts_more _ _ _ (codes "abrlab: ") _ _ _ _ c.in_ok-put_text.was c.put_text.ensures
    (puts_more _ _ _ ((role_row c.args.role).words) _ _ _ _ c.in_ok-put.was c.put.ensures
    (puts_more _ _ _ (codes " file: ") _ _ _ _ c.in_ok-put_text-2.was c.put_text-2.ensures c.put_fault.ensures))
