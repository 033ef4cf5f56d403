use Rattle.std.proofs.Common.{◌≡◌, take, map, string_bytes}
use Rattle.lab_inputs.specs.Roles.{trace_files}
use Rattle.lab_inputs.specs.Stages.{named_file}
use Rattle.lab_inputs.proofs.role.trace_files.Given as goal

-- the traces so far
abbrev pub invariant-loop-index : goal.invariant-loop-index
invariant-loop-index l = map named_file l.files.items ≡ trace_files l.command.verb (map string_bytes (take l.index l.name-items))
