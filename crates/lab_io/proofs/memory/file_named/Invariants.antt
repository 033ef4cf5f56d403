use Rattle.std.proofs.Common.{◌≡◌, drop}
use Rattle.lab_io.specs.Memory.{file_of, told_files}
use Rattle.lab_io.proofs.memory.file_named.Given as goal

-- the files so far have other names
abbrev pub invariant-loop-file : goal.invariant-loop-file
invariant-loop-file l = file_of (told_files l.fn.files) l.fn.name ≡ file_of (told_files (drop l.file-index l.files)) l.fn.name
