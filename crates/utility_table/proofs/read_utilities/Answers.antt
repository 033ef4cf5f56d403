use Rattle.std.proofs.Common.{◌≡◌, ◌∙◌, ℕ, List, Result, Ok, Err, ap, subst, sym}
use Rattle.std.specs.List.{concat}
use Rattle.std.specs.Result.{IfOk}
use Rattle.csv_records.specs.Table.{Table}
use Rattle.lab_model.specs.Film.{IsWithin, most_rungs, most_segments}
use Rattle.lab_model.specs.Reading.{Fails, Gives}
use Rattle.lab_model.specs.Row.{AreUtilities}
use Rattle.lab_model.specs.Steps.{map_ok}
use Rattle.lab_model.specs.declared.fault.InputFault.{InputFault}
use Rattle.lab_model.proofs.Refusals.{gives_error}
use Rattle.utility_table.specs.Table.{table_rows, table_utilities}
use Rattle.utility_table.specs.declared.Table as own
use Rattle.utility_table.proofs.Limits.{utilities-fit}
use Rattle.utility_table.proofs.Within.{utilities_within}
use Rattle.utility_table.proofs.read_utilities.Goals as goal

limits : (bytes : List ℕ) (segments rungs : ℕ) (r : Result own.Table InputFault) → Gives (λ t. t.rows.items) r (table_utilities bytes segments rungs)
    → IsWithin 1 most_rungs rungs → IsWithin 1 most_segments segments → IfOk r (λ t. AreUtilities t.rows.items rungs segments)
limits bytes segments rungs (Ok t) h few short = utilities-fit bytes segments rungs t.rows.items few short h
limits bytes segments rungs (Err e) h few short = tt

refused : (c : goal.After-drop-records) → Gives {X = own.Table} {Y = List ℕ} (λ t. t.rows.items) c.from_residual.result (table_utilities c.args.bytes.now c.args.segments c.args.rungs)
refused c =
    let all = ap (λ (t : Table). map_ok concat (table_rows c.args.segments c.args.rungs t)) (rw c.from.ensures at c.in-Ok.ensures) ∙ utilities_within c.args.bytes.now c.args.segments c.args.rungs in
    gives_error _ c.from_residual.result c.in_err-rows.field-0.0 _ c.from_residual.ensures.1 (subst (Fails c.in_err-rows.field-0.0) all c.in_err-rows.ensures)

pub returns-in_err-rows-clause-table : goal.returns-in_err-rows-clause-table
returns-in_err-rows-clause-table c = refused c

pub returns-in_err-rows-clause-within : goal.returns-in_err-rows-clause-within
returns-in_err-rows-clause-within c = limits c.args.bytes.now c.args.segments c.args.rungs c.from_residual.result (refused c)

read : (c : goal.After-drop-records-2) → table_utilities c.args.bytes.now c.args.segments c.args.rungs ≡ Ok c.in_ok-rows.rows.items
read c =
    let all = ap (λ (t : Table). map_ok concat (table_rows c.args.segments c.args.rungs t)) (rw c.from.ensures at c.in-Ok.ensures) ∙ utilities_within c.args.bytes.now c.args.segments c.args.rungs in
    sym all ∙ c.in_ok-rows.ensures

pub returns-clause-table : goal.returns-clause-table
returns-clause-table c = read c

pub returns-clause-within : goal.returns-clause-within
returns-clause-within c = λ few short. utilities-fit c.args.bytes.now c.args.segments c.args.rungs c.in_ok-rows.rows.items few short (read c)
