use Rattle.std.proofs.Common.{Err, ap, ◌∙◌}
use Rattle.lab_inputs.proofs.Files.{fetch_wanted}
use Rattle.lab_inputs.proofs.fetch.fetch_file.Goals as goal

pub returns-in-Err-Memory : goal.returns-in-Err-Memory
returns-in-Err-Memory g c =
    fetch_wanted (c.args.role, c.args.name.now) _ _ (rw c.limit-limit.ensures at (rw (c.in-Err-Memory.is ∙ ap Err c.in-Err-Memory.field-0-is) at c.fetch.ensures))
