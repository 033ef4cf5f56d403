use Rattle.std.proofs.Common.{◌≡◌, ◌<◌, ℕ, length}
use Rattle.std.specs.Prelude.{slice_index_or}
use Rattle.mpc_rule.specs.declared.outlook.Foretold.{Foretold}
use Rattle.mpc_rule.specs.Search.{IsForetold}
use Rattle.mpc_rule.proofs.outlook.Outlook.row.Given as goal

abbrev pub invariant-loop-rung : goal.invariant-loop-rung
invariant-loop-rung l = record {
  places : length l.row ≡ 16;
  filled : (k : ℕ) (d : Foretold) → k < l.rung → IsForetold l.self l.seg k (slice_index_or l.row k d);
}
