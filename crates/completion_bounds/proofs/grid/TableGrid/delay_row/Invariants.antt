use Rattle.std.proofs.Common.{◌-◌, ◌*◌, ◌<◌, ◌≤◌, get_or, length}
use Rattle.completion_bounds.proofs.grid.TableGrid.delay_row.Given as goal

abbrev pub invariant-loop-high : goal.invariant-loop-high
invariant-loop-high l = record {
  order : l.low < l.high;
  place : l.high ≤ length l.self-inside.rows.items;
  below : l.self-inside.step * get_or l.self-inside.rows.items l.low 0 ≤ l.delay;
  above : l.high < length l.self-inside.rows.items → l.delay < l.self-inside.step * get_or l.self-inside.rows.items l.high 0;
}

abbrev pub decreases-loop-high : goal.decreases-loop-high
decreases-loop-high l = l.high - l.low
