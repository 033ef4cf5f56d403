use Rattle.std.proofs.Common.{◌≡◌, ◌+◌, ◌<◌, ℕ, List, length}
use Rattle.std.specs.Prelude.{slice_index_or}
use Rattle.mpc_rule.specs.declared.outlook.Foretold.{Foretold}
use Rattle.mpc_rule.specs.Search.{IsForetoldRow}
use Rattle.mpc_rule.proofs.outlook.Outlook.table.Given as goal

abbrev pub invariant-loop-k : goal.invariant-loop-k
invariant-loop-k l = record {
  places : length l.rows ≡ 5;
  filled : (k : ℕ) (d : List Foretold) → k < l.k → IsForetoldRow l.self (l.self.context.next + k) (slice_index_or l.rows k d);
}
