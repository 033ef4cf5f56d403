use Rattle.std.proofs.Common.{rules, subst, sym}
use Rattle.lab_inputs.specs.Contents.{IsTable}
use Rattle.lab_inputs.proofs.Tables.{no_table_is}
use Rattle.lab_inputs.proofs.contents.Contents.of_film.Goals as goal

pub invariant_of-result : goal.invariant_of-result
invariant_of-result c = (search rules, subst (IsTable c.args.manifest) (sym c.in_ok-table.ensures.value) (no_table_is c.args.manifest c.in_ok-table.ensures.film))
