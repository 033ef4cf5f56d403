use Rattle.std.proofs.Common.{◌≡◌, drop}
use Rattle.player_core.specs.Parts.{seek_at}
use Rattle.player_core.proofs.script.seek_at.Given as goal

abbrev pub invariant-loop-s : goal.invariant-loop-s
invariant-loop-s l = seek_at (drop l.s-index l.seeks) l.t ≡ seek_at l.seeks l.t
