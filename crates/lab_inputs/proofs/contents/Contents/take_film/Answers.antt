use Rattle.std.proofs.Common.{rules, subst, sym}
use Rattle.lab_inputs.specs.Contents.{IsTable}
use Rattle.lab_inputs.proofs.Tables.{no_table_is}
use Rattle.lab_inputs.proofs.contents.Contents.take_film.Goals as goal

pub invariant_of-self : goal.invariant_of-self
invariant_of-self c = (search rules, subst (IsTable c.in_ok-manifest.manifest) (sym c.in_ok-table.ensures.value) (no_table_is c.in_ok-manifest.manifest c.in_ok-table.ensures.film))
