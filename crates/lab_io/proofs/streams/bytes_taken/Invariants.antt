use Rattle.std.proofs.Common.{◌≤◌, length, take}
use Rattle.std.specs.Io.KnownBytes.{Appends}
use Rattle.lab_io.proofs.streams.bytes_taken.Given as goal

-- so many bytes went out
abbrev pub invariant-loop : goal.invariant-loop
invariant-loop g l = (l.taken ≤ length l.fn.bytes) × Appends (g.W.Write.contents l.fn.stream) (g.W.Write.contents l.stream) (take l.taken l.fn.bytes)
