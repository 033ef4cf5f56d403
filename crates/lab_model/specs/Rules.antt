-- The five kinds of rule, each with its numbers.
use Rattle.std.specs.Prelude.{◌≡◌, ℕ, ◌<◌, ◌==◌, ◌&&◌, Bool, true, List, length, nat_lt}
use Rattle.std.specs.List.{All, list_all}
use Rattle.lab_model.specs.Film.{Film, rungs_of, segments_of}

-- always one rung; a rung for each segment; throughput by windows; BOLA with its g; RobustMPC with its horizon
pub data RuleKind : Type 0 where
  fixed : ℕ → RuleKind
  listed : List ℕ → RuleKind
  throughput : List ℕ → RuleKind
  bola : ℕ → RuleKind
  mpc : ℕ → RuleKind

-- the rule can be asked about this film
abbrev pub KindFits : RuleKind → Film → Type 0
KindFits (fixed q) f = q < rungs_of f
KindFits (listed rungs) f = (length rungs ≡ segments_of f) × All (λ q. q < rungs_of f) rungs
KindFits (throughput windows) f = Unit {0}
KindFits (bola g) f = Unit {0}
KindFits (mpc horizon) f = Unit {0}

-- the same as a test
abbrev pub kind_fits : RuleKind → Film → Bool
kind_fits (fixed q) f = nat_lt q (rungs_of f)
kind_fits (listed rungs) f = (length rungs == segments_of f) && list_all (λ q. nat_lt q (rungs_of f)) rungs
kind_fits (throughput windows) f = true
kind_fits (bola g) f = true
kind_fits (mpc horizon) f = true
