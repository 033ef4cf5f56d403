use Rattle.std.proofs.Common.{ℕ, ◌+◌, ◌<◌, ◌≤◌, get_or}
use Rattle.lab_model.proofs.weights.never_falls.Given as goal

abbrev pub invariant-loop-i : goal.invariant-loop-i
invariant-loop-i l = (rung : ℕ) → rung + 1 < l.i → get_or l.row rung 0 ≤ get_or l.row (rung + 1) 0
